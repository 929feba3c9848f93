-- The mesh after calls that add edges and faces beside the outer face.
-- OnOuter m h: h has the outer face on its left
-- Closes old new e n g: a new edge n closes outer edge e and the next one to a new face g + 1
-- IsClosable m e: e and the next edge may be closed so: e is outer, and the next edge does not end
--   where e starts
-- Hangs old new x v n: a new edge n goes from the end of edge x to vertex v
-- AddsFace old new e v n g: outer edge e and vertex v make a new face g + 1
-- HalfSplits old new e v n g: hull edge e, with its one face, is split at vertex v
-- IsHalfSplittable m e: e has an inner face on its left and the outer one on its right
-- Slides old new e k l: edge e ends at the far end of the edge after it instead
-- closed, hung, slid: the meshes that `Closes`, `Hangs` and `Slides` describe
-- with_next, with_prev, with_origin, with_face: the directed edges with one link of one edge
--   written
-- edge_into m u: an edge that ends at vertex u, if it has edges
use Rattle.std.specs.Prelude.{◌≡◌, ◌≢◌, ◌+◌, ◌<◌, [], ◌∷◌, ◌++◌}
use Rattle.std.specs.Prelude.{ℕ, List, length, Option, Some, None, IsSome, slice_set}
use Rattle.half_edge_links.specs.Flip.{flipped}
use Rattle.half_edge_links.specs.Meshes.{edge_at, face, HasLinks, Mesh, next, origin, out_edge}
use Rattle.half_edge_links.specs.{declared.records.HalfEdge.HalfEdge, Meshes.prev, Meshes.rev}

-- one link of a directed edge is written
unfoldable pub with_next : List HalfEdge → ℕ → ℕ → List HalfEdge
with_next hs h n = slice_set hs h (record (edge_at hs h) { next = n })

-- the edge before directed edge h is written
unfoldable pub with_prev : List HalfEdge → ℕ → ℕ → List HalfEdge
with_prev hs h p = slice_set hs h (record (edge_at hs h) { prev = p })

-- the face of directed edge h is written
unfoldable pub with_face : List HalfEdge → ℕ → ℕ → List HalfEdge
with_face hs h f = slice_set hs h (record (edge_at hs h) { face = f })

-- the origin of directed edge h is written
unfoldable pub with_origin : List HalfEdge → ℕ → ℕ → List HalfEdge
with_origin hs h o = slice_set hs h (record (edge_at hs h) { origin = o })

-- an edge with the outer face on its left
abbrev pub OnOuter : Mesh → ℕ → Type 0
OnOuter m h = (h < length m.half_edges) × (face m h ≡ 0)

-- directed edges with an edge to vertex v and back, put after edge x, whose next one is y
unfoldable pub hung_edges : List HalfEdge → ℕ → ℕ → ℕ → ℕ → List HalfEdge
hung_edges hs x y v n =
    with_prev (with_next hs x n) y (n + 1)
    ++ record { origin = (edge_at hs y).origin; next = n + 1; prev = x; face = (edge_at hs x).face }
    ∷ []
    ++ record { origin = v; next = y; prev = n; face = (edge_at hs x).face } ∷ []

-- the mesh with an edge from the end of edge x to vertex v
unfoldable pub hung : Mesh → ℕ → ℕ → Mesh
hung m x v = record m {
  half_edges = hung_edges m.half_edges x (next m x) v (length m.half_edges);
  out_edges = slice_set m.out_edges v (Some (length m.half_edges + 1));
}

-- what an edge from the end of edge x to vertex v does, where n is the number of directed edges
pub record Hangs (old new : Mesh) (x v n : ℕ) : Type 0 where
  pub there : HasLinks new n (origin old (next old x)) (n + 1) x (face old x)
  pub back : HasLinks new (n + 1) v (next old x) n (face old x)
  pub next_at : next new x ≡ n
  pub prev_at : prev new (next old x) ≡ n + 1
  pub other_next : (h : ℕ) → h < n → h ≢ x → next new h ≡ next old h
  pub other_prev : (h : ℕ) → h < n → h ≢ next old x → prev new h ≡ prev old h
  pub origins : (h : ℕ) → h < n → origin new h ≡ origin old h
  pub faces : (h : ℕ) → h < n → face new h ≡ face old h
  pub edge_count : length new.half_edges ≡ n + 2
  pub vertex_count : length new.out_edges ≡ length old.out_edges
  pub out : out_edge new v ≡ Some (n + 1)
  pub other_outs : (u : ℕ) → u ≢ v → out_edge new u ≡ out_edge old u
  pub face_edges : new.face_edges ≡ old.face_edges
  pub outer_edge : new.outer_edge ≡ old.outer_edge

-- edge e and the next one are outer, and the first does not start where the second ends
pub record IsClosable (m : Mesh) (e : ℕ) : Type 0 where
  pub within : e < length m.half_edges
  pub outer : face m e ≡ 0
  pub apart : origin m (rev (next m e)) ≢ origin m e

-- directed edges where e, second and a new one are the loop of face g, between the edges before and
-- after
unfoldable pub closed_edges : List HalfEdge → ℕ → ℕ → ℕ → ℕ → ℕ → ℕ → List HalfEdge
closed_edges hs e second before after n g =
    with_face (with_face (with_prev (with_prev (with_next (with_next hs before (n + 1)) second n)
    after (n + 1)) e n) e g) second g
    ++ record { origin = (edge_at hs after).origin; next = e; prev = second; face = g } ∷ []
    ++ record { origin = (edge_at hs e).origin; next = after; prev = before; face = 0 } ∷ []

-- the mesh with a new face of edge e, the next one and a new edge
unfoldable pub closed : Mesh → ℕ → Mesh
closed m e = record m {
  half_edges = closed_edges m.half_edges e (next m e) (prev m e) (next m (next m e))
      (length m.half_edges) (length m.face_edges + 1);
  outer_edge = Some (length m.half_edges + 1);
  face_edges = m.face_edges ++ e ∷ [];
}

-- what a new face of edge e, the next one and a new edge does, where n is the number of directed
-- edges and g that of the inner faces
pub record Closes (old new : Mesh) (e n g : ℕ) : Type 0 where
  pub inside : HasLinks new n (origin old (next old (next old e))) e (next old e) (g + 1)
  pub outside : HasLinks new (n + 1) (origin old e) (next old (next old e)) (prev old e) 0
  pub next_before : next new (prev old e) ≡ n + 1
  pub next_second : next new (next old e) ≡ n
  pub prev_after : prev new (next old (next old e)) ≡ n + 1
  pub prev_first : prev new e ≡ n
  pub other_next : (h : ℕ) → h < n → h ≢ prev old e → h ≢ next old e → next new h ≡ next old h
  pub other_prev : (h : ℕ) → h < n → h ≢ e → h ≢ next old (next old e) → prev new h ≡ prev old h
  pub origins : (h : ℕ) → h < n → origin new h ≡ origin old h
  pub face_first : face new e ≡ g + 1
  pub face_second : face new (next old e) ≡ g + 1
  pub other_faces : (h : ℕ) → h < n → h ≢ e → h ≢ next old e → face new h ≡ face old h
  pub edge_count : length new.half_edges ≡ n + 2
  pub out_edges : new.out_edges ≡ old.out_edges
  pub face_edges : new.face_edges ≡ old.face_edges ++ e ∷ []
  pub outer_edge : new.outer_edge ≡ Some (n + 1)

-- the edge after e goes to a vertex without other edges, and there is no inner face
pub record IsSlidable (m : Mesh) (e : ℕ) : Type 0 where
  pub within : e < length m.half_edges
  pub pendant : next m (next m e) ≡ rev (next m e)
  pub apart : next m e ≢ rev e
  pub one_face : m.face_edges ≡ []

-- directed edges where e and its other side t end and start at the far end of the edge k after e,
-- whose other side is l; z is the edge before t
unfoldable pub slid_edges : List HalfEdge → ℕ → ℕ → ℕ → ℕ → ℕ → List HalfEdge
slid_edges hs e t k l z =
    with_origin (with_prev
    (with_prev (with_prev (with_next (with_next (with_next hs e l) z k) k t) l e) k z) t k) t
    (edge_at hs l).origin

-- the mesh where edge e ends at the far end of the edge after it
unfoldable pub slid : Mesh → ℕ → Mesh
slid m e = record m {
  half_edges = slid_edges m.half_edges e (rev e) (next m e) (next m (next m e)) (prev m (rev e));
  out_edges = slice_set m.out_edges (origin m (next m e)) (Some (next m e));
}

-- what it does that edge e ends at the far end of the edge k after it, where l is the other side of
-- k
pub record Slides (old new : Mesh) (e k l : ℕ) : Type 0 where
  pub next_edge : next new e ≡ l
  pub next_before : next new (prev old (rev e)) ≡ k
  pub next_there : next new k ≡ rev e
  pub prev_back : prev new l ≡ e
  pub prev_there : prev new k ≡ prev old (rev e)
  pub prev_twin : prev new (rev e) ≡ k
  pub other_next : (h : ℕ) → h < length old.half_edges → h ≢ e → h ≢ prev old (rev e) → h ≢ k
      → next new h ≡ next old h
  pub other_prev : (h : ℕ) → h < length old.half_edges → h ≢ l → h ≢ k → h ≢ rev e
      → prev new h ≡ prev old h
  pub origin_twin : origin new (rev e) ≡ origin old l
  pub other_origins : (h : ℕ) → h < length old.half_edges → h ≢ rev e → origin new h ≡ origin old h
  pub faces : (h : ℕ) → h < length old.half_edges → face new h ≡ face old h
  pub edge_count : length new.half_edges ≡ length old.half_edges
  pub vertex_count : length new.out_edges ≡ length old.out_edges
  pub out : out_edge new (origin old k) ≡ Some k
  pub other_outs : (u : ℕ) → u ≢ origin old k → out_edge new u ≡ out_edge old u
  pub face_edges : new.face_edges ≡ old.face_edges
  pub outer_edge : new.outer_edge ≡ old.outer_edge

-- the mesh with a new face of outer edge e and vertex v
abbrev pub with_face_beside : Mesh → ℕ → ℕ → Mesh
with_face_beside m e v = closed (hung m e v) e

-- what a new face of outer edge e and vertex v does, where n is the number of directed edges and g
-- that of the inner faces
pub record AddsFace (old new : Mesh) (e v n g : ℕ) : Type 0 where
  pub edge : HasLinks new e (origin old e) n (n + 2) (g + 1)
  pub there : HasLinks new n (origin old (next old e)) (n + 2) e (g + 1)
  pub back : HasLinks new (n + 2) v e n (g + 1)
  pub first : HasLinks new (n + 3) (origin old e) (n + 1) (prev old e) 0
  pub last : HasLinks new (n + 1) v (next old e) (n + 3) 0
  pub next_before : next new (prev old e) ≡ n + 3
  pub prev_after : prev new (next old e) ≡ n + 1
  pub other_next : (h : ℕ) → h < n → h ≢ e → h ≢ prev old e → next new h ≡ next old h
  pub other_prev : (h : ℕ) → h < n → h ≢ e → h ≢ next old e → prev new h ≡ prev old h
  pub origins : (h : ℕ) → h < n → origin new h ≡ origin old h
  pub other_faces : (h : ℕ) → h < n → h ≢ e → face new h ≡ face old h
  pub edge_count : length new.half_edges ≡ n + 4
  pub vertex_count : length new.out_edges ≡ length old.out_edges
  pub out : out_edge new v ≡ Some (n + 1)
  pub other_outs : (u : ℕ) → u ≢ v → out_edge new u ≡ out_edge old u
  pub face_edges : new.face_edges ≡ old.face_edges ++ e ∷ []
  pub outer_edge : new.outer_edge ≡ Some (n + 3)

-- an edge of a mesh without inner faces
abbrev pub IsLineEdge : Mesh → ℕ → Type 0
IsLineEdge m e = (e < length m.half_edges) × (m.face_edges ≡ [])

-- the mesh where edge e of a line is split at vertex v
abbrev pub line_split : Mesh → ℕ → ℕ → Mesh
line_split m e v = slid (hung m e v) e

-- what splitting edge e of a line at vertex v does, where n is the number of directed edges
pub record SplitsLine (old new : Mesh) (e v n : ℕ) : Type 0 where
  pub next_edge : next new e ≡ n + 1
  pub prev_second : prev new (n + 1) ≡ e
  pub next_back : next new n ≡ rev e
  pub prev_twin : prev new (rev e) ≡ n
  pub next_second : next old e ≢ rev e → next new (n + 1) ≡ next old e
  pub prev_after : next old e ≢ rev e → prev new (next old e) ≡ n + 1
  pub next_before : next old e ≢ rev e → next new (prev old (rev e)) ≡ n
  pub prev_back : next old e ≢ rev e → prev new n ≡ prev old (rev e)
  pub next_at_end : next old e ≡ rev e → next new (n + 1) ≡ n
  pub prev_at_end : next old e ≡ rev e → prev new n ≡ n + 1
  pub other_next : (h : ℕ) → h < n → h ≢ e → h ≢ prev old (rev e) → next new h ≡ next old h
  pub other_prev : (h : ℕ) → h < n → h ≢ next old e → h ≢ rev e → prev new h ≡ prev old h
  pub origin_second : origin new (n + 1) ≡ v
  pub origin_back : origin new n ≡ origin old (rev e)
  pub origin_twin : origin new (rev e) ≡ v
  pub other_origins : (h : ℕ) → h < n → h ≢ rev e → origin new h ≡ origin old h
  pub faces : (h : ℕ) → h < n + 2 → face new h ≡ 0
  pub edge_count : length new.half_edges ≡ n + 2
  pub vertex_count : length new.out_edges ≡ length old.out_edges
  pub out : out_edge new v ≡ Some (n + 1)
  pub out_end : out_edge new (origin old (rev e)) ≡ Some n
  pub other_outs : (u : ℕ) → u ≢ v → u ≢ origin old (rev e) → out_edge new u ≡ out_edge old u
  pub face_edges : new.face_edges ≡ []
  pub outer_edge : new.outer_edge ≡ old.outer_edge

-- an edge with an inner face on its left and the outer face on its right
pub record IsHalfSplittable (m : Mesh) (e : ℕ) : Type 0 where
  pub within : e < length m.half_edges
  pub inner : 0 < face m e
  pub outer : face m (rev e) ≡ 0

-- the mesh where edge e, with the outer face on its right, is split at vertex v
abbrev pub half_split : Mesh → ℕ → ℕ → Mesh
half_split m e v = flipped (with_face_beside m (rev e) v) e

-- an index that may be missing, or 0 where it is
abbrev pub or_zero : Option ℕ → ℕ
or_zero None = 0
or_zero (Some h) = h

-- an edge that ends at vertex u, if it has edges
abbrev pub edge_into : Mesh → ℕ → ℕ
edge_into m u = rev (or_zero (out_edge m u))

-- a vertex with edges of a mesh without inner faces
pub record IsOnLine (m : Mesh) (u : ℕ) : Type 0 where
  pub within : u < length m.out_edges
  pub has_edge : IsSome (out_edge m u)
  pub one_face : m.face_edges ≡ []

-- what splitting edge e, with the outer face on its right, at vertex v does, where n is the number
-- of directed edges and g that of the inner faces
pub record HalfSplits (old new : Mesh) (e v n g : ℕ) : Type 0 where
  pub edge : HasLinks new e (origin old (prev old e)) (n + 2) (next old e) (face old e)
  pub twin : HasLinks new (rev e) v (prev old e) n (g + 1)
  pub edge_next : HasLinks new (next old e) (origin old (next old e)) e (n + 2) (face old e)
  pub edge_prev : HasLinks new (prev old e) (origin old (prev old e)) n (rev e) (g + 1)
  pub first : HasLinks new n (origin old (next old (rev e))) (rev e) (prev old e) (g + 1)
  pub second : HasLinks new (n + 2) v (next old e) e (face old e)
  pub outer_first : HasLinks new (n + 3) (origin old (rev e)) (n + 1) (prev old (rev e)) 0
  pub outer_second : HasLinks new (n + 1) v (next old (rev e)) (n + 3) 0
  pub other_next : (h : ℕ) → h < n → h ≢ e → h ≢ rev e → h ≢ next old e → h ≢ prev old e
      → h ≢ prev old (rev e) → next new h ≡ next old h
  pub other_prev : (h : ℕ) → h < n → h ≢ e → h ≢ rev e → h ≢ next old e → h ≢ prev old e
      → h ≢ next old (rev e) → prev new h ≡ prev old h
  pub other_faces : (h : ℕ) → h < n → h ≢ e → h ≢ rev e → h ≢ next old e → h ≢ prev old e
      → face new h ≡ face old h
  pub other_origins : (h : ℕ) → h < n → h ≢ e → h ≢ rev e → origin new h ≡ origin old h
  pub next_before : next new (prev old (rev e)) ≡ n + 3
  pub prev_after : prev new (next old (rev e)) ≡ n + 1
  pub edge_count : length new.half_edges ≡ n + 4
