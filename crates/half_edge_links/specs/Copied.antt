-- A copy of a mesh.
use Rattle.std.specs.Prelude.{◌≡◌}
use Rattle.std.specs.List.{AllZip}
use Rattle.half_edge_links.specs.Room.{HasEdgeRoom, HasFaceRoom, HasVertexRoom, Held}

-- the same mesh, the data of each vertex as R says of the former ones, and room for all
pub record HoldsSame {V : Type 0} (R : V → V → Type 0) (old new : Held V) : Type 0 where
  pub mesh : new.mesh ≡ old.mesh
  pub values : AllZip R old.values new.values
  pub vertices_fit : HasVertexRoom old.mesh new.room 0
  pub edges_fit : HasEdgeRoom old.mesh new.room 0
  pub faces_fit : HasFaceRoom old.mesh new.room 0
