use Rattle.delaunay_interface.proofs.constraints.ConstrainedDelaunayTriangulation+V+DE+UE+F+L.can_add_constraint.Goals as goal

pub returns : goal.returns
returns g c = (
  (λ yes. record { free = rw (← c.mesh-dcel.ensures.state) (c.can_add_path.ensures.0 yes) }),
  (λ can. c.can_add_path.ensures.1 (rw (← c.mesh-dcel.ensures.state) at can.free)),
)
