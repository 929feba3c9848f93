use Rattle.std.proofs.Common.{refl, inl}
use Rattle.{delaunay_edit.specs.constraint_edges, delaunay_legalization.specs.is_constraint}
use Rattle.delaunay_edit.proofs.ConstraintEdges.{fixed_if_joined, joined_by}
use Rattle.delaunay_interface.proofs.constraints.ConstrainedDelaunayTriangulation+V+DE+UE+F+L.is_constraint_edge.Goals as goal

pub returns-clause-marked : goal.returns-clause-marked
returns-clause-marked g c =
    rw (← c.mesh.ensures.state) c.is_constraint_edge.ensures

pub returns-clause-joined : goal.returns-clause-joined
returns-clause-joined g c =
    let s = c.args.self.now in
    let marked = returns-clause-marked g c in (
      (λ t. joined_by is_constraint constraint_edges (λ ds. refl) s.mesh s.undirected _ _
          c.args.edge (marked.0 t) (inl (refl, refl))),
      (λ j. marked.1 (fixed_if_joined g.V.HasPosition.place is_constraint constraint_edges
          (λ ds. refl) s c.mesh.ensures.well_formed.kept c.args.edge
          c.requires j)),
    )
