use Rattle.std.proofs.Common.{refl, arith}
use Rattle.std.proofs.lemmas.Result.{err_from_is_err_and}
use Rattle.delaunay_interface.proofs.Stepping.{both_inserted, stops_at_from, stops_at_to}
use Rattle.delaunay_interface.proofs.constraint_edges.ConstrainedDelaunayTriangulation+V+DE+UE+F+L.add_constraint_edge.Goals as goal

pub returns-in_err-from-clause-adds : goal.returns-in_err-from-clause-adds
returns-in_err-from-clause-adds g c =
    let p = err_from_is_err_and c.from_residual.result c.from_residual.ensures.1 in
    rw (p.1, p.2)
    (stops_at_from _ c.args.from c.args.to _ _ _ _ refl c.in_err-from.ensures.inserts)

pub returns-in_err-to-clause-adds : goal.returns-in_err-to-clause-adds
returns-in_err-to-clause-adds g c =
    let p =
    err_from_is_err_and c.from_residual-in_err-to.result c.from_residual-in_err-to.ensures.1 in
    rw (p.1, p.2) (stops_at_to _ c.args.from c.args.to _ _ _ _ c.in_ok-from.ensures.inserts _ _
    refl c.in_err-to.ensures.inserts)

pub join_vertices-requires-clause-from_in : goal.join_vertices-requires-clause-from_in
join_vertices-requires-clause-from_in g c =
    let below = c.in_ok-from.ensures.within in let more = c.in_ok-to.ensures.ready.grows in
    let here = c.in_ok-to.ensures.within in omega (arith, below, more, here)

pub returns-clause-adds : goal.returns-clause-adds
returns-clause-adds g c =
    both_inserted _ c.args.from c.args.to _ _ _ _ c.in_ok-from.ensures.inserts _ _
    c.in_ok-to.ensures.inserts _ c.join_vertices.ensures.joins
