use Rattle.std.proofs.Common.{◌<◌, ◌≤◌, ℕ, length}
use Rattle.std.specs.Prelude.{All}
use Rattle.drawing_faces.specs.{IsSearch, lists_in, sides_in, work_left}
use Rattle.drawing_faces.proofs.polygons.PolygonsOfFaces.flood.Given as goal

abbrev pub invariant-loop-edge : goal.invariant-loop-edge
invariant-loop-edge g l = record {
  within : All (λ h. h < length l.dcel.directed) l.due.items;
  search : IsSearch l.dcel.mesh (sides_in l.borders) l.self.labels.items (lists_in l.self);
  work : work_left l.self.labels.items l.due.items
      ≤ work_left l.fn.self.labels.items l.fn.due.items;
}

abbrev pub decreases-loop-edge : goal.decreases-loop-edge
decreases-loop-edge g l = work_left l.self.labels.items l.due.items
