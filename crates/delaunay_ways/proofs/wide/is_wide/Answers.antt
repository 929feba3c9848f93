use Rattle.std.proofs.Common.{◌↔◌, ◌-◌, IsTrue, map, subst, w64}
use Rattle.std.proofs.lemmas.Int.{to_z-of_z}
use Rattle.std.proofs.lemmas.List.Elements.{All-contains}
use Rattle.delaunay_core.specs.{place_of}
use Rattle.delaunay_legalization.specs.{state_of, triangulation_of}
use Rattle.{delaunay_ways.specs.Widths.IsWideTriangle, plane.specs.Face, plane.specs.InRange}
use Rattle.delaunay_ways.proofs.Heights.{corner_at, wide_at}
use Rattle.delaunay_ways.proofs.wide.is_wide.Goals as goal

pub is_wide_triangle-requires-clause-a : goal.is_wide_triangle-requires-clause-a
is_wide_triangle-requires-clause-a g c =
    All-contains InRange (map g.V.HasPosition.place c.args.dcel.now.vertices) _
    c.requires.in_range c.position_of-a.ensures.listed

pub is_wide_triangle-requires-clause-b : goal.is_wide_triangle-requires-clause-b
is_wide_triangle-requires-clause-b g c =
    All-contains InRange (map g.V.HasPosition.place c.args.dcel.now.vertices) _
    c.requires.in_range c.position_of-b.ensures.listed

pub is_wide_triangle-requires-clause-c : goal.is_wide_triangle-requires-clause-c
is_wide_triangle-requires-clause-c g c =
    All-contains InRange (map g.V.HasPosition.place c.args.dcel.now.vertices) _
    c.requires.in_range c.position_of-c.ensures.listed

pub returns : goal.returns
returns g c =
    let at = g.V.HasPosition.place in
    let point = place_of g.V.Scalar.SpadeNum.whole in
    let dcel = c.args.dcel.now in
    let inner = c.requires.inner in
    wide_at (triangulation_of at (state_of dcel)) c.args.width_2 (c.args.face - 1)
    (point c.position_of-a.result) (point c.position_of-b.result) (point c.position_of-c.result)
    c.is_wide_triangle.result
    (corner_at at dcel c.requires.kept (λ (f : Face). f.a) c.args.face c.first_corner.result _
    inner.0 inner.1 c.first_corner.ensures.value c.position_of-a.ensures.place)
    (corner_at at dcel c.requires.kept (λ (f : Face). f.b) c.args.face c.second_corner.result _
    inner.0 inner.1 c.second_corner.ensures.value c.position_of-b.ensures.place)
    (corner_at at dcel c.requires.kept (λ (f : Face). f.c) c.args.face c.third_corner.result _
    inner.0 inner.1 c.third_corner.ensures.value c.position_of-c.ensures.place)
    (subst (λ w. IsTrue c.is_wide_triangle.result ↔ IsWideTriangle w (point c.position_of-a.result)
    (point c.position_of-b.result) (point c.position_of-c.result))
    (to_z-of_z w64 c.args.width_2 c.ranges.width_2) c.is_wide_triangle.ensures)
