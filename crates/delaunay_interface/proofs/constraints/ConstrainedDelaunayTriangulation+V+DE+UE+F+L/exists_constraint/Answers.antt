use Rattle.std.proofs.Common.{refl, arith}
use Rattle.delaunay_legalization.proofs.{both_ways}
use Rattle.delaunay_interface.proofs.constraints.ConstrainedDelaunayTriangulation+V+DE+UE+F+L.exists_constraint.Goals as goal

pub returns-then-index-num_vertices : goal.returns-then-index-num_vertices
returns-then-index-num_vertices g c =
    rw (← c.mesh-mesh.ensures.state) c.is_constraint_between.ensures

pub returns : goal.returns
returns g c = (
  (λ t. absurd (both_ways _ t refl)),
  (λ j. absurd (
      let within = (c.mesh-mesh.ensures.well_formed.plain.pairs c.args.from c.args.to j).0 in
      let below = rw (← c.mesh-mesh.ensures.state) at within in
      omega (
        arith,
        below,
        c.if-index-num_vertices.false,
        c.index.ensures,
        c.num_vertices.ensures.value,
      )
      )),
)
