use Rattle.std.proofs.Common.{[], ◌∷◌, ◌∙◌, inl, refl, sym}
use Rattle.std.proofs.lemmas.Bool.{eq-eqb, eqb-true}
use Rattle.std.proofs.lemmas.Result.{err_from_is_err_and}
use Rattle.delaunay_legalization.proofs.{both_ways}
use Rattle.delaunay_interface.proofs.Stepping.{cannot_close, closes, comes_now, may_come, one_more}
use Rattle.delaunay_interface.proofs.Stepping.{stays_open, stops_at_join, stops_at_vertex}
use Rattle.delaunay_interface.proofs.constraint_edges.ConstrainedDelaunayTriangulation+V+DE+UE+F+L.add_constraint_edges.Goals as goal
use goal.{then-not-closed-via-else-not-closed+then-eq, then-not-closed-via-then-not-closed}

pub insert_end-requires-clause-new_site : goal.insert_end-requires-clause-new_site
insert_end-requires-clause-new_site g c = c.requires.new_sites c.in-Some.start
    (may_come g.I.Iterator.next_gives _ _ _ c.in-Some.ensures.steps)

pub returns-in_err-first-clause-adds : goal.returns-in_err-first-clause-adds
returns-in_err-first-clause-adds g c =
    let p = err_from_is_err_and c.from_residual.result c.from_residual.ensures.1 in
    rw (p.1, p.2) (
      c.in-Some.start ∷ [],
      (c.next.new.self, (c.next.new.self, c.in-Some.ensures.steps, refl)),
      inl (record { error = _; refused = c.in_err-first.ensures.inserts; told = refl }),
    )

pub insert_end-requires-in-loop-vertex-clause-new_site :
    goal.insert_end-requires-in-loop-vertex-clause-new_site
insert_end-requires-in-loop-vertex-clause-new_site g c =
    c.requires.new_sites c.in-Some-vertex.vertex
    (comes_now g.I.Iterator.next_gives _ _ _ _ c.in-Some.ensures.steps
    c.into_iter-vertex-iterator.ensures.into_iter_gives _ _ c.loop-vertex.yielded_by _ _
    c.in-Some-vertex.ensures.steps)

pub returns-in_err-next-clause-adds : goal.returns-in_err-next-clause-adds
returns-in_err-next-clause-adds g c =
    let p = err_from_is_err_and c.from_residual-in_err-next.result
    c.from_residual-in_err-next.ensures.1 in
    rw (p.1, p.2) (stops_at_vertex g.I.Iterator.next_gives _ _ c.args.closed c.in-Some.ensures.steps
    c.in_ok-first.ensures.inserts c.into_iter-vertex-iterator.ensures.into_iter_gives
    c.loop-vertex.yielded_by c.loop-vertex.invariant.path
    c.in-Some-vertex.ensures.steps c.in_err-next.ensures.inserts)

pub returns-in_err-join_vertices-clause-adds : goal.returns-in_err-join_vertices-clause-adds
returns-in_err-join_vertices-clause-adds g c =
    let p = err_from_is_err_and c.from_residual-in_err-join_vertices.result
    c.from_residual-in_err-join_vertices.ensures.1 in
    rw (p.1, p.2) (stops_at_join g.I.Iterator.next_gives _ _ c.args.closed c.in-Some.ensures.steps
    c.in_ok-first.ensures.inserts c.into_iter-vertex-iterator.ensures.into_iter_gives
    c.loop-vertex.yielded_by c.loop-vertex.invariant.path
    c.in-Some-vertex.ensures.steps c.in_ok-next.ensures.inserts
    c.in_err-join_vertices.ensures.joins)

pub loop-vertex-preserved : goal.loop-vertex-preserved
loop-vertex-preserved g c =
    let on = c.in-Some-vertex.ensures.goes.on c.loop-vertex.invariant.ends in
    record {
      can_next = on.0;
      ends = on.1;
      path = one_more c.loop-vertex.invariant.path c.in_ok-next.ensures.inserts
          c.in_ok-next.ensures.within c.in_ok-next.ensures.ready
          c.in_ok-join_vertices.ensures.joins c.join_vertices.ensures.vertices
          c.join_vertices.ensures.headline;
    }

pub returns-then-not-closed-clause-adds : goal.returns-then-not-closed-clause-adds
returns-then-not-closed-clause-adds g c =
    stays_open g.I.Iterator.next_gives _ _ c.args.closed c.in-Some.ensures.steps
    c.in_ok-first.ensures.inserts c.into_iter-vertex-iterator.ensures.into_iter_gives
    c.loop-vertex.yielded_by c.loop-vertex.invariant.path
    c.in-None.ensures.steps (λ both. elim c.then-not-closed.branch as (λ _. ⊥) [
      | then-not-closed-via-then-not-closed w ↦ both_ways _ both.0 w.if-not-closed.true
      | then-not-closed-via-else-not-closed+then-eq w ↦
          both.1 (eqb-true _ _ (sym w.eq.ensures ∙ w.if-eq.true))
    ])

pub returns-in_err-join_vertices-2-clause-adds : goal.returns-in_err-join_vertices-2-clause-adds
returns-in_err-join_vertices-2-clause-adds g c =
    let p = err_from_is_err_and c.from_residual-in_err-join_vertices-2.result
    c.from_residual-in_err-join_vertices-2.ensures.1 in
    rw (p.1, p.2) (cannot_close g.I.Iterator.next_gives _ _ c.args.closed c.in-Some.ensures.steps
    c.in_ok-first.ensures.inserts c.into_iter-vertex-iterator.ensures.into_iter_gives
    c.loop-vertex.yielded_by c.loop-vertex.invariant.path
    c.if-not-closed.false
    (λ same. absurd (both_ways _ (c.eq.ensures ∙ eq-eqb _ _ same) c.if-eq.false))
    c.in_err-join_vertices-2.ensures.joins)

pub returns-clause-adds : goal.returns-clause-adds
returns-clause-adds g c =
    closes g.I.Iterator.next_gives _ _ c.args.closed c.in-Some.ensures.steps
    c.in_ok-first.ensures.inserts c.into_iter-vertex-iterator.ensures.into_iter_gives
    c.loop-vertex.yielded_by c.loop-vertex.invariant.path
    c.in-None.ensures.steps c.if-not-closed.false
    (λ same. absurd (both_ways _ (c.eq.ensures ∙ eq-eqb _ _ same) c.if-eq.false))
    c.in_ok-join_vertices-2.ensures.joins
