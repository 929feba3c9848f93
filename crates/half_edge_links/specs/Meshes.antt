-- The links of a mesh, as a contract sees them, and what always holds of them.
-- Mesh: an edge of each vertex, the directed edges, and an edge of the outer face and of each face
-- origin m h: the vertex at which directed edge h starts
-- rev h: the same edge in the other direction; the two have the indexes 2 k and 2 k + 1
-- next m h, prev m h: the edge after h, and before it, around the face on its left
-- face m h: the face on the left of h; 0 is the outer face
-- out_edge m v: an edge that starts at vertex v, if there is one
-- face_edge m f: an edge of face f
-- IsSoundEdge m h: the links of h fit those of the edges beside it
-- AreSoundLinks m: the links of all edges, vertices and faces fit together
-- IsValidMesh m: sound links; no edge from a vertex to itself; one cycle of edges at each vertex;
--   and at most MAX_ELEMENTS of each
-- IsAlone m v: vertex v has no edge
-- IsInner m f, IsInnerEdge m h: f is a face other than the outer one; h has such a face on its left
use Rattle.std.specs.Prelude.{◌≡◌, ◌≢◌, ◌⊎◌, ◌+◌, ◌-◌, ◌%◌, ◌<◌, ◌≤◌, ◌==◌, [], ◌∷◌, ◌++◌}
use Rattle.std.specs.Prelude.{if◌then◌else◌}
use Rattle.std.specs.Prelude.{ℕ, zero, suc, List, length, Option, Some, None, IsSome}
use Rattle.std.specs.Prelude.{slice_index_or, slice_set, Bool, true}
use Rattle.half_edge_links.specs.declared.records.HalfEdge.{HalfEdge}
use Rattle.half_edge_links.specs.declared.room.TheConstants.{MAX_ELEMENTS}

-- an out edge of each vertex, the directed edges, and an edge of the outer face and of each face
-- from face 1 on
pub record Mesh : Type 0 where
  pub out_edges : List (Option ℕ)
  pub half_edges : List HalfEdge
  pub outer_edge : Option ℕ
  pub face_edges : List ℕ

-- what is read at an index past the end of a list of directed edges
abbrev pub no_edge : HalfEdge
no_edge = record { origin = 0; next = 0; prev = 0; face = 0 }

-- the links of directed edge h in a list
abbrev pub edge_at : List HalfEdge → ℕ → HalfEdge
edge_at hs h = slice_index_or hs h no_edge

-- the other side of a directed edge
abbrev pub rev : ℕ → ℕ
rev h = if h % 2 == 0 then h + 1 else h - 1

-- the vertex at which directed edge h starts
abbrev pub origin : Mesh → ℕ → ℕ
origin m h = (edge_at m.half_edges h).origin

-- the edge after directed edge h round the face on its left
abbrev pub next : Mesh → ℕ → ℕ
next m h = (edge_at m.half_edges h).next

-- the edge before directed edge h round the face on its left
abbrev pub prev : Mesh → ℕ → ℕ
prev m h = (edge_at m.half_edges h).prev

-- the face on the left of directed edge h
abbrev pub face : Mesh → ℕ → ℕ
face m h = (edge_at m.half_edges h).face

-- the edge that a face from face 1 on names
abbrev pub face_edge : Mesh → ℕ → ℕ
face_edge m f = slice_index_or m.face_edges (f - 1) 0

-- the edge that a vertex names, if it has edges
abbrev pub out_edge : Mesh → ℕ → Option ℕ
out_edge m v = slice_index_or m.out_edges v None

-- an edge fits the edges beside it
pub record IsSoundEdge (m : Mesh) (h : ℕ) : Type 0 where
  pub next_in : next m h < length m.half_edges
  pub prev_in : prev m h < length m.half_edges
  pub origin_in : origin m h < length m.out_edges
  pub face_in : face m h ≤ length m.face_edges
  pub prev_next : prev m (next m h) ≡ h
  pub next_prev : next m (prev m h) ≡ h
  pub starts : origin m (next m h) ≡ origin m (rev h)
  pub same_face : face m (next m h) ≡ face m h
  pub three : 0 < face m h → next m (next m h) ≡ prev m h
  pub proper : next m h ≢ h
  pub owned : 0 < face m h → (face_edge m (face m h) ≡ h)
      ⊎ ((face_edge m (face m h) ≡ next m h) ⊎ (face_edge m (face m h) ≡ prev m h))
  pub has_out : IsSome (out_edge m (origin m h))

-- the links fit together: of each edge, and of what vertices, faces and the outer face name
pub record AreSoundLinks (m : Mesh) : Type 0 where
  pub even : length m.half_edges % 2 ≡ 0
  pub edges : (h : ℕ) → h < length m.half_edges → IsSoundEdge m h
  pub vertices : (v h : ℕ) → out_edge m v ≡ Some h → (h < length m.half_edges) × (origin m h ≡ v)
  pub faces : (f : ℕ) → 0 < f → f ≤ length m.face_edges
      → (face_edge m f < length m.half_edges) × (face m (face_edge m f) ≡ f)
  pub outer : (h : ℕ) → m.outer_edge ≡ Some h → (h < length m.half_edges) × (face m h ≡ 0)
  pub has_outer : 0 < length m.half_edges → IsSome m.outer_edge

-- there are not too many vertices, directed edges and faces, the outer one among them
pub record IsSmall (m : Mesh) : Type 0 where
  pub vertices : length m.out_edges ≤ MAX_ELEMENTS
  pub edges : length m.half_edges ≤ MAX_ELEMENTS
  pub faces : length m.face_edges + 1 ≤ MAX_ELEMENTS

-- no edge joins a vertex to itself
abbrev pub HasApartEnds : Mesh → Type 0
HasApartEnds m = (h : ℕ) → h < length m.half_edges → origin m h ≢ origin m (rev h)

-- a set of edges holds with each edge the next one round its origin, against the clock
abbrev pub IsClosed : Mesh → (ℕ → Bool) → Type 0
IsClosed m among = (h : ℕ) → h < length m.half_edges → among h ≡ true
    → among (rev (prev m h)) ≡ true

-- round each vertex goes one round of edges: a closed set with one of them has all
abbrev pub HasStars : Mesh → Type 0
HasStars m = (among : ℕ → Bool) → IsClosed m among → (h g : ℕ) → h < length m.half_edges
    → g < length m.half_edges → origin m h ≡ origin m g → among h ≡ true → among g ≡ true

-- what always holds of a mesh
pub record IsValidMesh (m : Mesh) : Type 0 where
  pub sound : AreSoundLinks m
  pub apart : HasApartEnds m
  pub stars : HasStars m
  pub small : IsSmall m

-- the mesh without vertices, edges and inner faces
abbrev pub empty : Mesh
empty = record { out_edges = []; half_edges = []; outer_edge = None; face_edges = [] }

-- directed edge h has these links
pub record HasLinks (m : Mesh) (h o n p f : ℕ) : Type 0 where
  pub origin : origin m h ≡ o
  pub next : next m h ≡ n
  pub prev : prev m h ≡ p
  pub face : face m h ≡ f

-- a face that is not the outer one
abbrev pub IsInner : Mesh → ℕ → Type 0
IsInner m f = (0 < f) × (f ≤ length m.face_edges)

-- an edge of an inner face
abbrev pub IsInnerEdge : Mesh → ℕ → Type 0
IsInnerEdge m a = (a < length m.half_edges) × (0 < face m a)

-- a vertex without edges
abbrev pub IsAlone : Mesh → ℕ → Type 0
IsAlone m v = (v < length m.out_edges) × (out_edge m v ≡ None)

-- the mesh with one more vertex
abbrev pub with_vertex : Mesh → Mesh
with_vertex m = record m { out_edges = m.out_edges ++ None ∷ [] }

-- the mesh whose first edge, from a to b, was made
abbrev pub connected : Mesh → ℕ → ℕ → Mesh
connected m a b = record m {
  half_edges = record { origin = a; next = 1; prev = 1; face = 0 }
      ∷ record { origin = b; next = 0; prev = 0; face = 0 } ∷ [];
  out_edges = slice_set (slice_set m.out_edges a (Some 0)) b (Some 1);
  outer_edge = Some 0;
}

-- so many steps of a function
abbrev pub iterate : (ℕ → ℕ) → ℕ → ℕ → ℕ
iterate f zero s = s
iterate f (suc k) s = f (iterate f k s)
