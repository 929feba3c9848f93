use Rattle.std.proofs.Common.{ℕ}
use Rattle.std.specs.Prelude.{Contains}
use Rattle.drawing_faces.specs.{Flood.flood_left, IsFlood, IsReached}
use Rattle.drawing_faces.proofs.flood.reach_faces.Given as goal

abbrev pub invariant-loop-edge : goal.invariant-loop-edge
invariant-loop-edge g l = record {
  flood : IsFlood l.dcel.mesh (g.M.ConstraintMarker.constraints l.dcel.undirected) l.starts (λ f. ⊥)
      l.flood.reached.items l.flood.due.items;
  each : (f : ℕ) → Contains l.starts f → IsReached l.flood.reached.items f;
}

abbrev pub decreases-loop-edge : goal.decreases-loop-edge
decreases-loop-edge g l = flood_left l.flood.reached.items l.flood.due.items
