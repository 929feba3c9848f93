use Rattle.std.proofs.Common.{◌∙◌, refl, sym}
use Rattle.std.proofs.lemmas.Bool.{eqb-true}
use Rattle.std.proofs.lemmas.Result.{err_from_is_err_and}
use Rattle.delaunay_edit.proofs.EditingConstraints.{nothing_added, path_added}
use Rattle.delaunay_edit.proofs.{JoinedPairs.index_found, OneSubconstraintAdded.some_missing}
use Rattle.delaunay_edit.proofs.OneSubconstraintAdded.{edge_told, none_missing, none_to_itself}
use Rattle.delaunay_interface.proofs.constraints.ConstrainedDelaunayTriangulation+V+DE+UE+F+L.add_constraint_unless_crossed.Goals as goal

pub returns-then-eq-clause-adds : goal.returns-then-eq-clause-adds
returns-then-eq-clause-adds g c =
    none_to_itself _ _ c.mesh-dcel.ensures.well_formed.kept _ _ c.requires.from_in
    (eqb-true _ _ (sym c.eq.ensures ∙ c.if-eq.true))

pub constrain-requires : goal.constrain-requires
constrain-requires g c = rw (← c.mesh-dcel.ensures.state) (index_found c.in-Some.ensures.some
    c.fix-edge.ensures.value c.fix-edge.ensures.in_range).0

pub returns-in-Some-clause-adds : goal.returns-in-Some-clause-adds
returns-in-Some-clause-adds g c =
    let found = index_found c.in-Some.ensures.some c.fix-edge.ensures.value
    c.fix-edge.ensures.in_range in
    edge_told c.constrain.ensures.adds (rw (← c.mesh-dcel.ensures.state) found.1)
    (rw (← c.mesh-dcel.ensures.state) found.2)

pub returns-in_default-count_path-clause-adds : goal.returns-in_default-count_path-clause-adds
returns-in_default-count_path-clause-adds g c =
    (rw (← c.mesh-dcel.ensures.state) c.in_default-count_path.ensures.barred, refl)

pub returns-then-missing-eq0-clause-adds : goal.returns-then-missing-eq0-clause-adds
returns-then-missing-eq0-clause-adds g c =
    let counted = c.in-Some-count_path.ensures in
    let is = c.mesh-dcel.ensures.state in
    rw (← is) (nothing_added _ _ _ _ _ refl (rw (← is) at c.requires.from_in)
    (rw (← is) at c.requires.to_in) counted.free
    (none_missing _ _ _ _ _ counted.missing c.if-missing-eq0.true))

pub join_path-requires-clause-free : goal.join_path-requires-clause-free
join_path-requires-clause-free g c =
    rw (← c.mesh-dcel.ensures.state) c.in-Some-count_path.ensures.free

pub returns-in_err-join_path-clause-adds : goal.returns-in_err-join_path-clause-adds
returns-in_err-join_path-clause-adds g c =
    let p = err_from_is_err_and c.from_residual.result c.from_residual.ensures.1 in
    rw p.1 (
      rw (← c.mesh-dcel.ensures.state) c.in-Some-count_path.ensures.free,
      c.in_err-join_path.ensures.err,
    )

pub returns-clause-adds : goal.returns-clause-adds
returns-clause-adds g c =
    let added = c.in_ok-join_path.ensures in
    path_added _ _ _ _ _ added.plain _ refl (rw (← c.mesh-dcel.ensures.state)
    (some_missing _ _ _ _ _ c.in-Some-count_path.ensures.missing c.if-missing-eq0.false))
    added.«data»
