use Rattle.std.proofs.Common.{ℕ, map, inl, inr, arith}
use Rattle.std.specs.Prelude.{ℤ}
use Rattle.{delaunay_core.specs.place_of, plane.specs.gap, plane.specs.place, plane.specs.whole}
use Rattle.delaunay_legalization.specs.{point_at}
use Rattle.delaunay_location.proofs.{Nearest.less_than_first, Neighbours.nearer_by_gaps}
use Rattle.delaunay_location.proofs.samples.nearer_sample.Goals as goal
use goal.{else-is_nearer, then-is_nearer}

pub overflow_add-index : goal.overflow_add-index
overflow_add-index g c = omega (
  arith,
  c.loop-index-test.true,
  c.num_vertices-count.ensures.small,
  c.num_vertices-count.ensures.value,
  c.max-stride.ensures,
)

pub loop-index-preserved : goal.loop-index-preserved
loop-index-preserved g c =
    let at : ℕ → ℤ = λ i. gap (whole (place_of g.V.Scalar.SpadeNum.whole c.args.point))
    (place (map g.V.HasPosition.place c.args.dcel.now.vertices) i) in
    elim c.if-is_nearer.branch [
      | then-is_nearer w ↦ rw w.nearest-is (record {
        within = omega (
          arith,
          c.from_index-vertex.ensures,
          c.loop-index-test.true,
          c.num_vertices-count.ensures.value,
        );
        nearer = inr (less_than_first at c.from_index-vertex.result c.loop-index.nearest c.args.from
            (c.is_nearer.ensures.0 w.if-is_nearer.true) c.loop-index.invariant.nearer);
      })
      | else-is_nearer w ↦ rw w.nearest-is (record {
        within = c.loop-index.invariant.within;
        nearer = c.loop-index.invariant.nearer;
      })
    ]

pub returns-clause-nearer : goal.returns-clause-nearer
returns-clause-nearer g c =
    let points = map g.V.HasPosition.place c.args.dcel.now.vertices in
    elim c.loop-index.invariant.nearer [
      | inl e ↦ inl e
      | inr h ↦ inr (nearer_by_gaps (place_of g.V.Scalar.SpadeNum.whole c.args.point)
          (point_at points c.loop-index.nearest) (point_at points c.args.from) h)
    ]
