-- An edge of a line passes the vertex at its end.
use Rattle.std.specs.Prelude.{◌≡◌, ◌≢◌, ℕ, ◌<◌, List, [], length, Some, slice_set}
use Rattle.half_edge_links.specs.Grow.{with_next, with_origin, with_prev}
use Rattle.half_edge_links.specs.Meshes.{edge_at, face, Mesh, next, origin, out_edge, prev, rev}
use Rattle.half_edge_links.specs.declared.records.HalfEdge.{HalfEdge}

-- the vertex at the end of e has one more edge, to another vertex than the start of e, and there is
-- no inner face
pub record IsPassable (m : Mesh) (e : ℕ) : Type 0 where
  pub within : e < length m.half_edges
  pub two : prev m (rev e) ≡ rev (next m e)
  pub apart : next m e ≢ rev e
  pub corners : origin m e ≢ origin m (rev (next m e))
  pub one_face : m.face_edges ≡ []

-- directed edges where e and its other side t end and start at the far end of the edge l after e,
-- whose other side is k; z is the edge before k
unfoldable pub passed_edges : List HalfEdge → ℕ → ℕ → ℕ → ℕ → ℕ → List HalfEdge
passed_edges hs e t k l z =
    with_origin (with_prev
    (with_prev (with_prev (with_next (with_next (with_next hs e k) z t) k l) l k) k e) t z) t
    (edge_at hs k).origin

-- the mesh where edge e ends at the far end of the edge after it, at which the vertex between them
-- hangs
unfoldable pub passed : Mesh → ℕ → Mesh
passed m e = record m {
  half_edges =
      passed_edges m.half_edges e (rev e) (prev m (rev e)) (next m e) (prev m (prev m (rev e)));
  out_edges = slice_set m.out_edges (origin m (next m e)) (Some (next m e));
}

-- what it does that edge e passes the vertex at its end, where l is the edge after e and k the
-- other side of l
pub record Passes (old new : Mesh) (e k l : ℕ) : Type 0 where
  pub next_edge : next new e ≡ k
  pub next_before : next new (prev old k) ≡ rev e
  pub next_there : next new k ≡ l
  pub prev_back : prev new l ≡ k
  pub prev_there : prev new k ≡ e
  pub prev_twin : prev new (rev e) ≡ prev old k
  pub other_next : (h : ℕ) → h < length old.half_edges → h ≢ e → h ≢ prev old k → h ≢ k
      → next new h ≡ next old h
  pub other_prev : (h : ℕ) → h < length old.half_edges → h ≢ l → h ≢ k → h ≢ rev e
      → prev new h ≡ prev old h
  pub origin_twin : origin new (rev e) ≡ origin old k
  pub other_origins : (h : ℕ) → h < length old.half_edges → h ≢ rev e → origin new h ≡ origin old h
  pub faces : (h : ℕ) → h < length old.half_edges → face new h ≡ face old h
  pub edge_count : length new.half_edges ≡ length old.half_edges
  pub vertex_count : length new.out_edges ≡ length old.out_edges
  pub out : out_edge new (origin old l) ≡ Some l
  pub other_outs : (u : ℕ) → u ≢ origin old l → out_edge new u ≡ out_edge old u
  pub face_edges : new.face_edges ≡ old.face_edges
  pub outer_edge : new.outer_edge ≡ old.outer_edge
