use Rattle.std.proofs.Common.{refl, sym, inl, inr, subst, arith}
use mathlib.Core.Path.{subst₂}
use Rattle.{delaunay_core.specs.place_of, plane_theorems.specs.IsInSight}
use Rattle.{delaunay_legalization.proofs.both_ways, delaunay_legalization.specs.triangulation_of}
use Rattle.c_calls.specs.{is_free_face, is_marked, kept_place, plain_point}
use Rattle.{c_calls.specs.Sight.sight_told, delaunay_shapes.specs.by_place}
use Rattle.{c_calls.proofs.Seen.free_by_place, c_calls.proofs.Seen.sight_same, plane.specs.whole}
use Rattle.c_calls.proofs.sight.LookAlongQuery.ask.Goals as goal

pub returns-then-is_seen : goal.returns-then-is_seen
returns-then-is_seen g c =
    let law = g.met.T.Triangulation.state_is_of_mesh c.args.points.now in
    let bytes = c.args.self.now.bytes.now in
    let t = triangulation_of kept_place (g.T.Triangulation.state c.args.points.now) in
    let p = whole (plain_point c.args.self.now.from) in
    let q = whole (plain_point c.args.self.now.to) in
    let told = c.is_in_sight-is_seen.ensures.0 c.if-is_seen.true in
    sight_told refl
    (omega (arith, c.if-self-num_inner_faces.false, c.num_inner_faces.ensures.value))
    (c.may_ask_line.ensures.0 c.if-not-may_ask_line.false)
    (inl (
      refl,
      sight_same t (by_place (is_free_face bytes)) (is_marked bytes) (free_by_place bytes)
          p q (subst (λ s. IsInSight (triangulation_of kept_place s) (by_place (is_free_face bytes)) p q)
          law (subst₂ (λ a b. IsInSight (triangulation_of kept_place
          (g.T.HasMesh.mesh_state c.args.points.now)) (by_place (is_free_face bytes))
          (whole (place_of (λ z. z) a)) (whole (place_of (λ z. z) b))) c.point_of-start.ensures
          c.point_of-end.ensures told)),
    ))

pub returns-else-is_seen : goal.returns-else-is_seen
returns-else-is_seen g c =
    let law = g.met.T.Triangulation.state_is_of_mesh c.args.points.now in
    let bytes = c.args.self.now.bytes.now in
    let t = triangulation_of kept_place (g.T.Triangulation.state c.args.points.now) in
    let p = whole (plain_point c.args.self.now.from) in
    let q = whole (plain_point c.args.self.now.to) in
    sight_told refl
    (omega (arith, c.if-self-num_inner_faces.false, c.num_inner_faces.ensures.value))
    (c.may_ask_line.ensures.0 c.if-not-may_ask_line.false)
    (inr (
      refl,
      λ sees. both_ways _ (c.is_in_sight-is_seen.ensures.1 (subst₂ (λ a b. IsInSight
          (triangulation_of kept_place (g.T.HasMesh.mesh_state c.args.points.now))
          (by_place (is_free_face bytes)) (whole (place_of (λ z. z) a)) (whole (place_of (λ z. z) b)))
          (sym c.point_of-start.ensures) (sym c.point_of-end.ensures) (subst (λ s. IsInSight
          (triangulation_of kept_place s) (by_place (is_free_face bytes)) p q) (sym law) (sight_same t
          (is_marked bytes) (by_place (is_free_face bytes)) (λ n. sym (free_by_place bytes n)) p q
          sees)))) c.if-is_seen.false,
    ))
