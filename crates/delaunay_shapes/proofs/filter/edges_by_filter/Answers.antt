use Rattle.std.proofs.Common.{ℕ, ◌<◌, ◌/◌, ◌∙◌, refl, sym, ap, length, arith}
use Rattle.{delaunay_legalization.proofs.both_ways, delaunay_shapes.proofs.Flooding.half_of_even}
use Rattle.delaunay_shapes.specs.{undirected_of}
use Rattle.delaunay_shapes.proofs.Asking.{filter_finds, filter_passes, undirected_more}
use Rattle.delaunay_shapes.proofs.Handles.{edge_told, end_covered, filtered_directed}
use Rattle.delaunay_shapes.proofs.Handles.{filtered_edges, start_covered}
use Rattle.delaunay_shapes.proofs.filter.edges_by_filter.Goals as goal
use goal.{else-is_handle_inside, then-is_handle_inside+in_ok-push}

pub is_handle_inside-requires : goal.is_handle_inside-requires
is_handle_inside-requires g c =
    let all = c.num_undirected_edges-index-end.ensures in
    let within : c.from_index-edge.result < length c.args.dcel.now.undirected =
    omega (arith, c.from_index-edge.ensures, c.loop-index-test.true, all.value) in
    let edge = c.undirected_edge.ensures in
    let covered = g.P.PlaneTests.covered c.args.tests.now in
    record {
      own_covered = c.requires.own_covered;
      start_covered = start_covered g.V.HasPosition.place covered c.requires.covered all.whole
          within edge.dcel edge.index;
      end_covered = end_covered g.V.HasPosition.place covered c.requires.covered all.whole
          within edge.dcel edge.index;
    }

pub loop-index-preserved : goal.loop-index-preserved
loop-index-preserved g c =
    let told = edge_told g.V.HasPosition.place (g.M.DistanceMetric.shape c.args.metric.now)
    c.undirected_edge.ensures.dcel c.undirected_edge.ensures.index
    c.is_handle_inside.ensures.inside in
    elim c.if-is_handle_inside.branch [
      | then-is_handle_inside+in_ok-push w ↦
          filter_finds c.loop-index.invariant c.from_index-edge.ensures
          (told.0 w.if-is_handle_inside.true)
          (undirected_more _ _ (ap (λ x. x.items) w.edges-is ∙ w.in_ok-push.ensures.items)
          (ap (λ (x : ℕ). x / 2) w.as_directed.ensures ∙ half_of_even c.from_index-edge.result))
      | else-is_handle_inside w ↦ rw w.edges-is
          (filter_passes c.loop-index.invariant c.from_index-edge.ensures
          (λ p. both_ways _ (told.1 p) w.if-is_handle_inside.false))
    ]

pub invariant_of-result : goal.invariant_of-result
invariant_of-result g c = record {
  in_range = let all = c.num_undirected_edges-index-end.ensures in
      filtered_directed _ _ (length c.args.dcel.now.undirected) _ _ c.loop-index.invariant
      (omega (arith, all.value, c.loop-index.auto.index-end))
      (all.whole.fits.undirected_fit ∙ sym all.whole.fits.directed_fit);
}

pub returns : goal.returns
returns g c =
    let all = c.num_undirected_edges-index-end.ensures in
    record {
      edges = undirected_of c.loop-index.edges.items;
      listed = refl;
      exact = filtered_edges _ _ _ _ (length c.args.dcel.now.undirected) _ c.loop-index.invariant
          (omega (arith, all.value, c.loop-index.auto.index-end, c.loop-index-test.false))
          all.whole.fits.undirected_fit;
    }
