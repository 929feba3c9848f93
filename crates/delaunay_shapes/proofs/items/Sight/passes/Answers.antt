use Rattle.std.proofs.Common.{◌∙◌, ap, sym}
use Rattle.{delaunay_location.specs.mesh_of, delaunay_shapes.proofs.Crossed.overlap_item}
use Rattle.delaunay_shapes.proofs.Crossed.{along_iff, crossed_within, crossing_item, iff_through}
use Rattle.delaunay_shapes.proofs.items.Sight.passes.Goals as goal

pub returns-in-EdgeIntersection : goal.returns-in-EdgeIntersection
returns-in-EdgeIntersection g c = crossing_item g.V.HasPosition.place g.G.FreeFaces.free
    c.args.self.now _ _ c.in-EdgeIntersection.is c.requires _ c.crosses_free.ensures

pub returns-in-EdgeOverlap : goal.returns-in-EdgeOverlap
returns-in-EdgeOverlap g c =
    let edge = c.in-EdgeOverlap.edge in
    let mesh = rw (← c.self.view_is) at c.requires in
    let within = crossed_within edge _
    (ap (λ x. (mesh_of x).now) (sym c.in-EdgeOverlap.is) ∙ mesh) in
    overlap_item g.V.HasPosition.place g.G.FreeFaces.free c.args.self.now _ edge
    c.in-EdgeOverlap.is c.requires c.is_free_along.result (rw (← c.self.view_is)
    (iff_through (rw c.fix.ensures.value at c.is_free_along.ensures)
    (along_iff c.self.invariant (g.G.FreeFaces.free c.self.inside.free.now) edge.index within)))
