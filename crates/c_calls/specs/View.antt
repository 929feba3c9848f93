-- What a query may ask of a triangulation of either type.
use Rattle.std.specs.Prelude.{ℕ, List}
use Rattle.plane.specs.{Triangulation}
use Rattle.delaunay_legalization.specs.{constraints_by, State.State, triangulation_of}
use Rattle.c_calls.specs.Kept.{kept_drawing, kept_links, kept_place, kept_state, kept_vertices}
use Rattle.c_calls.specs.{declared.kept.AnyTriangulation.AnyTriangulation, Layers.kept_marked}
use Rattle.c_calls.specs.Queries.{IsKeptLocation, IsLocationIn}
use Rattle.c_calls.specs.{declared.raw.NumberedPoint.NumberedPoint, declared.raw.RawPoint.RawPoint}
use Rattle.{c_calls.specs.declared.raw.RawLocation.RawLocation, half_edge_links.specs.Mesh}

-- the vertices, what is drawn of them and how the edges are linked; the undirected edges that are
-- constraints, and the pairs of vertices that these join; and where a point is
pub record View : Type 1 where
  pub vertices : List NumberedPoint
  pub drawing : Triangulation
  pub links : Mesh
  pub marked : List ℕ
  pub constraints : List (ℕ × ℕ)
  pub IsLocation : RawPoint → RawLocation → Type 0

-- of a triangulation in a state
abbrev pub view_of : {D U F : Type 0} → (List U → List ℕ) → State NumberedPoint D U F → View
view_of constraints s = record {
  vertices = s.vertices;
  drawing = triangulation_of kept_place s;
  links = s.mesh;
  marked = constraints s.undirected;
  constraints = constraints_by constraints s;
  IsLocation = IsLocationIn kept_place s;
}

-- of one that C keeps
abbrev pub kept_view : AnyTriangulation → View
kept_view k = record {
  vertices = kept_vertices k;
  drawing = kept_drawing k;
  links = kept_links k;
  marked = kept_marked k;
  constraints = (kept_state k).constraints;
  IsLocation = IsKeptLocation k;
}
