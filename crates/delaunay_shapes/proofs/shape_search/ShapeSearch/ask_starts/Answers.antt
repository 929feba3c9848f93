use Rattle.std.proofs.Common.{ℕ, ◌/◌, ◌∙◌, ap}
use Rattle.delaunay_shapes.proofs.Asking.{ask_first, ask_last, ask_more}
use Rattle.delaunay_shapes.proofs.{Flooding.half_of_even, Starting.begun_by_starts}
use Rattle.delaunay_shapes.proofs.shape_search.ShapeSearch.ask_starts.Goals as goal

pub loop-edge-init : goal.loop-edge-init
loop-edge-init g c = ask_first _ _ _ _ _ c.requires

pub loop-edge-preserved : goal.loop-edge-preserved
loop-edge-preserved g c =
    ask_more _ _ _ _ _ _ _ _ _ _ c.loop-edge.invariant
    (ap (λ (x : ℕ). x / 2) c.as_directed.ensures ∙ half_of_even c.edge-item.result ∙ c.edge-item.is)
    c.loop-edge-test.true c.in_ok-ask.ensures

pub returns-clause-begun : goal.returns-clause-begun
returns-clause-begun g c =
    let kept = c.self.invariant.kept in
    let starts = c.in_ok-starts.ensures in
    record {
      starts = c.in_ok-starts.starts.items;
      begun = rw (← c.self.view_is) (begun_by_starts _ _ kept.valid kept.shape _
          c.in_ok-starts.starts.items _ c.self.invariant.begins c.locate_with_hint-location.result
          c.locate_with_hint-location.ensures (rw (← c.self.view_is) at starts.starts) _
          kept.fits.undirected_fit);
      within = starts.within;
      each = rw c.as_slice-edge-items.ensures.value at
          (ask_last _ _ _ _ _ _ c.loop-edge.invariant c.loop-edge-test.false);
    }
