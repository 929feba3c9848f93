use Rattle.std.proofs.Common.{◌↔◌, IsTrue, map, subst}
use Rattle.std.specs.Prelude.{All}
use Rattle.plane_theorems.specs.{IsInFree, IsInSight}
use Rattle.{delaunay_core.specs.place_of, delaunay_shapes.specs.by_place}
use Rattle.{delaunay_legalization.proofs.both_ways, delaunay_legalization.specs.triangulation_of}
use Rattle.{delaunay_shapes.proofs.Crossed.false_tells, plane.specs.InRange, plane.specs.whole}
use Rattle.delaunay_shapes.proofs.SightDecided.{of_state, sees_end, sees_if, sees_start}
use Rattle.delaunay_shapes.proofs.sight.is_in_sight.Goals as goal
use Rattle.delaunay_shapes.proofs.sight.is_in_sight.Goals.{After-mesh-dcel}

pub invariant_of-embedding : goal.invariant_of-embedding
invariant_of-embedding g c =
    let at = g.V.HasPosition.place in
    let mesh = c.mesh-dcel.ensures in
    record {
      kept = mesh.kept;
      sites = of_state (λ z. All InRange (map at z.vertices)
          → All (g.P.PlaneTests.sites c.args.tests.now) (map at z.vertices)) _ _ mesh.state
          c.requires.sites mesh.in_range;
    }

pub returns-then-not-is_in_free : goal.returns-then-not-is_in_free
returns-then-not-is_in_free g c =
    let at = place_of g.V.Scalar.SpadeNum.whole in
    let free = by_place (g.G.FreeFaces.free c.args.free.now) in
    false_tells (λ s. both_ways _ (c.is_in_free.ensures.1
    (of_state (λ z. IsInFree (triangulation_of g.V.HasPosition.place z) free
    (whole (at c.args.from))) _ _ c.mesh-dcel.ensures.state
    (sees_start _ free (at c.args.from) (at c.args.to) s))) c.if-not-is_in_free.true)

pub returns-then-not-is_in_free-2 : goal.returns-then-not-is_in_free-2
returns-then-not-is_in_free-2 g c =
    let at = place_of g.V.Scalar.SpadeNum.whole in
    let free = by_place (g.G.FreeFaces.free c.args.free.now) in
    false_tells (λ s. both_ways _ (c.is_in_free-2.ensures.1
    (of_state (λ z. IsInFree (triangulation_of g.V.HasPosition.place z) free
    (whole (at c.args.to))) _ _ c.mesh-dcel.ensures.state
    (sees_end _ free (at c.args.from) (at c.args.to) s))) c.if-not-is_in_free-2.true)

pub returns : goal.returns
returns g c =
    let at = place_of g.V.Scalar.SpadeNum.whole in
    let free = g.G.FreeFaces.free c.args.free.now in
    subst (λ z. IsTrue c.goes_free.result ↔ IsInSight (triangulation_of g.V.HasPosition.place z)
    (by_place free) (whole (at c.args.from)) (whole (at c.args.to))) c.mesh-dcel.ensures.state
    (sees_if (invariant_of-embedding g (goal.at.returns g c).After-mesh-dcel) free (at c.args.from)
    (at c.args.to)
    (c.is_in_free.ensures.0 c.if-not-is_in_free.false)
    (c.is_in_free-2.ensures.0 c.if-not-is_in_free-2.false) _ c.goes_free.ensures)
