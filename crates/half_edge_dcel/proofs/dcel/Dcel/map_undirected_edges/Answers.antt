use Rattle.std.proofs.lemmas.Slice.Zip.{AllZip-long}
use Rattle.half_edge_dcel.proofs.dcel.Dcel.map_undirected_edges.Goals as goal

pub invariant_of-result : goal.invariant_of-result
invariant_of-result g c = rw (AllZip-long _ _ _ c.mapped.ensures.items) c.self.invariant
