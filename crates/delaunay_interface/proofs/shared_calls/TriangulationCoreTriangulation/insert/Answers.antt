use Rattle.std.proofs.Common.{length}
use Rattle.delaunay_legalization.proofs.Flips.{few_flips_fit}
use Rattle.delaunay_interface.proofs.shared_calls.TriangulationCoreTriangulation.insert.Goals as goal

pub insert_told-requires-clause-fits : goal.insert_told-requires-clause-fits
insert_told-requires-clause-fits g c =
    λ small. few_flips_fit (length c.args.self.now.vertices) small
