-- How an edge between two inner faces is turned.
-- IsFlippable m e: e has two different inner faces on its sides
-- IsBetweenFaces m e: e has inner faces on both sides
-- flipped m e: the mesh after e was turned
-- Flips old new e: the same, link by link
-- flip_by, turn_by: the mesh, and its directed edges, after a turn, by the six edges of the two
--   faces
use Rattle.std.specs.Prelude.{◌≡◌, ◌≢◌, ℕ, ◌-◌, ◌<◌, List, length, Some, slice_set}
use Rattle.half_edge_links.specs.Meshes.{edge_at, face, face_edge, HasLinks, Mesh, next, origin}
use Rattle.half_edge_links.specs.Meshes.{out_edge, prev, rev}
use Rattle.half_edge_links.specs.declared.records.HalfEdge.{HalfEdge}

-- an edge with inner faces on both sides
pub record IsBetweenFaces (m : Mesh) (e : ℕ) : Type 0 where
  pub within : e < length m.half_edges
  pub inner : 0 < face m e
  pub twin_inner : 0 < face m (rev e)

-- an edge with inner faces, and two of them, on its sides
pub record IsFlippable (m : Mesh) (e : ℕ) : Type 0 where
  pub within : e < length m.half_edges
  pub inner : 0 < face m e
  pub twin_inner : 0 < face m (rev e)
  pub apart : face m e ≢ face m (rev e)

-- directed edges after edge e, with other side t, was turned, where these are the six edges round
-- it
abbrev pub turn_by : List HalfEdge → ℕ → ℕ → HalfEdge → HalfEdge → HalfEdge → HalfEdge → HalfEdge
    → HalfEdge → List HalfEdge
turn_by hs e t edge twin edge_next edge_prev twin_next twin_prev =
    slice_set (slice_set (slice_set (slice_set (slice_set (slice_set hs
    e (record { origin = edge_prev.origin; next = twin.prev; prev = edge.next; face = edge.face }))
    t (record { origin = twin_prev.origin; next = edge.prev; prev = twin.next; face = twin.face }))
    edge.next (record { origin = edge_next.origin; next = e; prev = twin.prev; face = edge.face }))
    twin.next (record { origin = twin_next.origin; next = t; prev = edge.prev; face = twin.face }))
    edge.prev (record { origin = edge_prev.origin; next = twin.next; prev = t; face = twin.face }))
    twin.prev (record { origin = twin_prev.origin; next = edge.next; prev = e; face = edge.face })

-- the mesh after edge e, with other side t, was turned, where these are the six edges round it
unfoldable pub flip_by : Mesh → ℕ → ℕ → HalfEdge → HalfEdge → HalfEdge → HalfEdge → HalfEdge
    → HalfEdge → Mesh
flip_by m e t edge twin edge_next edge_prev twin_next twin_prev = record m {
  half_edges = turn_by m.half_edges e t edge twin edge_next edge_prev twin_next twin_prev;
  out_edges =
      slice_set (slice_set m.out_edges edge.origin (Some twin.next)) twin.origin (Some edge.next);
  face_edges = slice_set (slice_set m.face_edges (edge.face - 1) e) (twin.face - 1) t;
}

-- the mesh after edge e was turned
unfoldable pub flipped : Mesh → ℕ → Mesh
flipped m e =
    flip_by m e (rev e) (edge_at m.half_edges e) (edge_at m.half_edges (rev e))
    (edge_at m.half_edges (next m e)) (edge_at m.half_edges (prev m e))
    (edge_at m.half_edges (next m (rev e))) (edge_at m.half_edges (prev m (rev e)))

-- what turning edge e does, edge by edge, vertex by vertex and face by face
pub record Flips (old new : Mesh) (e : ℕ) : Type 0 where
  pub edge : HasLinks new e (origin old (prev old e)) (prev old (rev e)) (next old e) (face old e)
  pub twin : HasLinks new (rev e) (origin old (prev old (rev e))) (prev old e) (next old (rev e))
      (face old (rev e))
  pub edge_next :
      HasLinks new (next old e) (origin old (next old e)) e (prev old (rev e)) (face old e)
  pub twin_next : HasLinks new (next old (rev e)) (origin old (next old (rev e))) (rev e)
      (prev old e) (face old (rev e))
  pub edge_prev : HasLinks new (prev old e) (origin old (prev old e)) (next old (rev e)) (rev e)
      (face old (rev e))
  pub twin_prev :
      HasLinks new (prev old (rev e)) (origin old (prev old (rev e))) (next old e) e (face old e)
  pub other_edges : (h : ℕ) → h ≢ e → h ≢ rev e → h ≢ next old e → h ≢ next old (rev e)
      → h ≢ prev old e → h ≢ prev old (rev e) → edge_at new.half_edges h ≡ edge_at old.half_edges h
  pub edge_count : length new.half_edges ≡ length old.half_edges
  pub vertex_count : length new.out_edges ≡ length old.out_edges
  pub face_count : length new.face_edges ≡ length old.face_edges
  pub origin_out : origin old e ≢ origin old (rev e)
      → out_edge new (origin old e) ≡ Some (next old (rev e))
  pub twin_origin_out : out_edge new (origin old (rev e)) ≡ Some (next old e)
  pub other_outs : (v : ℕ) → v ≢ origin old e → v ≢ origin old (rev e)
      → out_edge new v ≡ out_edge old v
  pub left_face : face_edge new (face old e) ≡ e
  pub right_face : face_edge new (face old (rev e)) ≡ rev e
  pub other_faces : (f : ℕ) → 0 < f → f ≢ face old e → f ≢ face old (rev e)
      → face_edge new f ≡ face_edge old f
  pub outer_edge : new.outer_edge ≡ old.outer_edge
