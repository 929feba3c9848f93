use Rattle.delaunay_vertices.proofs.pairs.legalize_pairs.Goals as goal

pub legalize_list-requires-clause-only : goal.legalize_list-requires-clause-only
legalize_list-requires-clause-only g c free = c.list_pairs.ensures.only (c.requires.only free)
