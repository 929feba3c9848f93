-- The lists that removals work with.
use Rattle.std.specs.Prelude.{ℕ, ◌*◌, ◌≤◌, length, vec_capacity, vec_len}
use Rattle.half_edge_dcel.specs.{Contents}
use Rattle.delaunay_vertices.specs.Pairs.{HasRoomAt, IsRoundOf}
use Rattle.delaunay_vertices.specs.declared.lists.RemovalLists.{RemovalLists}

-- there is room to remove vertex v from this mesh, and its edges are counted
pub record HasRoomToRemove {V D U F : Type 0} (c : Contents V D U F) (v : ℕ)
    (lists : RemovalLists) : Type 0 where
  pub edges : IsRoundOf c.mesh v lists.edges
  pub sides : HasRoomAt c.mesh v 0 (vec_capacity lists.sides)
  pub tested : 3 * length c.vertices ≤ lists.tested.room
  pub turned : HasRoomAt c.mesh v (vec_len lists.turned) (vec_capacity lists.turned)
