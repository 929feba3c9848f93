-- What a change of the links does to the data of vertices and to the room.
use Rattle.std.specs.Prelude.{◌≡◌, ℕ}
use Rattle.half_edge_links.specs.{Meshes.IsValidMesh, Room.Held, VertexList.TakesValue}

-- data and room stay
pub record KeepsRest {V : Type 0} (old new : Held V) : Type 0 where
  pub values : new.values ≡ old.values
  pub room : new.room ≡ old.room

-- the data of vertex v go, and those of the last vertex take their place; the room stays, and the
-- mesh is one still
pub record TakesFromRest {V : Type 0} (old new : Held V) (v : ℕ) (value : V) : Type 0 where
  pub valid : IsValidMesh new.mesh
  pub values : TakesValue old.values new.values v value
  pub room : new.room ≡ old.room
