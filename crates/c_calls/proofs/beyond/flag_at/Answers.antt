use Rattle.std.proofs.Common.{◌∙◌, ◌+◌, ℕ, ap, arith, sym, subst}
use Rattle.{c_calls.specs.kept_place, delaunay_interface.specs.Views.corners_at}
use Rattle.c_calls.proofs.Disks.{corner_at, corners_in_range, corners_turn, passes_told, stays_told}
use Rattle.{c_calls.proofs.Disks.told_same, c_calls.proofs.Disks.turn_same, plane.specs.InRange}
use Rattle.c_calls.proofs.beyond.flag_at.Goals as goal

pub is_disk_within-requires-clause-a : goal.is_disk_within-requires-clause-a
is_disk_within-requires-clause-a g c =
    let s = g.T.Triangulation.state c.args.points.now in
    let given = c.face_positions-corners in
    let read = given.ensures ∙ ap (λ (f : ℕ). corners_at kept_place s f)
    (c.face-face.ensures.index ∙ c.from_index.ensures) in
    let kept = c.recall_invariant.ensures.kept in
    let ps = corners_at kept_place s (c.args.index + 1) in
    subst InRange (sym (corner_at _ given.result _ ps 0 read (omega arith)))
    ((corners_in_range kept_place s kept c.args.index c.requires).0)

pub is_disk_within-requires-clause-b : goal.is_disk_within-requires-clause-b
is_disk_within-requires-clause-b g c =
    let s = g.T.Triangulation.state c.args.points.now in
    let given = c.face_positions-corners in
    let read = given.ensures ∙ ap (λ (f : ℕ). corners_at kept_place s f)
    (c.face-face.ensures.index ∙ c.from_index.ensures) in
    let kept = c.recall_invariant.ensures.kept in
    let ps = corners_at kept_place s (c.args.index + 1) in
    subst InRange (sym (corner_at _ given.result _ ps 1 read (omega arith)))
    ((corners_in_range kept_place s kept c.args.index c.requires).1)

pub is_disk_within-requires-clause-c : goal.is_disk_within-requires-clause-c
is_disk_within-requires-clause-c g c =
    let s = g.T.Triangulation.state c.args.points.now in
    let given = c.face_positions-corners in
    let read = given.ensures ∙ ap (λ (f : ℕ). corners_at kept_place s f)
    (c.face-face.ensures.index ∙ c.from_index.ensures) in
    let kept = c.recall_invariant.ensures.kept in
    let ps = corners_at kept_place s (c.args.index + 1) in
    subst InRange (sym (corner_at _ given.result _ ps 2 read (omega arith)))
    ((corners_in_range kept_place s kept c.args.index c.requires).2)

pub is_disk_within-requires-clause-left_turn : goal.is_disk_within-requires-clause-left_turn
is_disk_within-requires-clause-left_turn g c =
    let s = g.T.Triangulation.state c.args.points.now in
    let given = c.face_positions-corners in
    let read = given.ensures ∙ ap (λ (f : ℕ). corners_at kept_place s f)
    (c.face-face.ensures.index ∙ c.from_index.ensures) in
    let kept = c.recall_invariant.ensures.kept in
    let ps = corners_at kept_place s (c.args.index + 1) in
    turn_same (corner_at _ given.result _ ps 0 read (omega arith))
    (corner_at _ given.result _ ps 1 read (omega arith))
    (corner_at _ given.result _ ps 2 read (omega arith))
    (corners_turn kept_place s kept c.args.index c.requires)

pub returns-then-is_disk_within : goal.returns-then-is_disk_within
returns-then-is_disk_within g c =
    let s = g.T.Triangulation.state c.args.points.now in
    let given = c.face_positions-corners in
    let read = given.ensures ∙ ap (λ (f : ℕ). corners_at kept_place s f)
    (c.face-face.ensures.index ∙ c.from_index.ensures) in
    let kept = c.recall_invariant.ensures.kept in
    let ps = corners_at kept_place s (c.args.index + 1) in
    stays_told kept_place s kept c.args.sides.now c.args.index c.requires
    (told_same c.args.sides.now (corner_at _ given.result _ ps 0 read (omega arith))
    (corner_at _ given.result _ ps 1 read (omega arith))
    (corner_at _ given.result _ ps 2 read (omega arith))
    (grind (arith, c.if-is_disk_within.true)) c.is_disk_within.ensures)

pub returns-else-is_disk_within : goal.returns-else-is_disk_within
returns-else-is_disk_within g c =
    let s = g.T.Triangulation.state c.args.points.now in
    let given = c.face_positions-corners in
    let read = given.ensures ∙ ap (λ (f : ℕ). corners_at kept_place s f)
    (c.face-face.ensures.index ∙ c.from_index.ensures) in
    let kept = c.recall_invariant.ensures.kept in
    let ps = corners_at kept_place s (c.args.index + 1) in
    passes_told kept_place s kept c.args.sides.now c.args.index c.requires
    (told_same c.args.sides.now (corner_at _ given.result _ ps 0 read (omega arith))
    (corner_at _ given.result _ ps 1 read (omega arith))
    (corner_at _ given.result _ ps 2 read (omega arith))
    (grind (arith, c.if-is_disk_within.false)) c.is_disk_within.ensures)
