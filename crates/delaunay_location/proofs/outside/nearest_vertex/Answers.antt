use Rattle.std.proofs.Common.{◌∙◌}
use Rattle.delaunay_legalization.proofs.{along_ends, along_goes_on, along_next}
use Rattle.{delaunay_location.proofs.MeshSteps.of_mesh, half_edge_dcel.specs.hull_left}
use Rattle.delaunay_location.proofs.OutsideItems.{along_weakened, hull_begins}
use Rattle.delaunay_location.proofs.outside.nearest_vertex.Goals as goal

pub loop-outer-init : goal.loop-outer-init
loop-outer-init g c = record {
  first = c.first_found-nearest.ensures;
  going = rw (← c.embedding.view_is) (hull_begins c.embedding.invariant
      c.convex_hull-outer-items.ensures
      c.into_iter-outer-iterator.ensures.into_iter_gives);
}

pub directed_edge-edge-requires : goal.directed_edge-edge-requires
directed_edge-edge-requires g c =
    let going = rw (← c.embedding.view_is) at c.loop-outer.invariant.going in
    rw c.fix.ensures.value (of_mesh c.embedding.invariant _ (along_next _ _
    (hull_left c.loop-outer.outer-iterator) going _ _ c.in-Some.ensures.steps).0)

pub loop-outer-preserved : goal.loop-outer-preserved
loop-outer-preserved g c =
    let before = rw (← c.embedding.view_is) at c.loop-outer.invariant in
    let now = rw (← c.embedding.view_is) at c.better_of-nearest.ensures in
    let edge = c.directed_edge-edge.ensures in
    let vertex = rw (edge.dcel, edge.index, c.fix.ensures.value) at
    (c.fix-in-loop-outer.ensures.value ∙ c.from.ensures.index) in
    rw (← c.embedding.view_is) (record {
      first = record { found = now.found; first = λ some. now.kept 0 (before.first.first some) };
      going = along_goes_on _ _ (hull_left c.loop-outer.outer-iterator)
          (along_weakened (λ h seen. now.kept _ seen) before.going) _ _ c.in-Some.ensures.steps
          (rw vertex at now.here);
    })

pub returns : goal.returns
returns g c =
    let done = c.loop-outer.invariant in
    record {
      first = done.first;
      outer = λ h w o. along_ends _ _ (hull_left c.loop-outer.outer-iterator) done.going
          c.in-None.ensures.steps.0 h (w, o);
    }
