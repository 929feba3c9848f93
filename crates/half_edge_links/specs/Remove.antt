-- How edges and faces are taken out of a mesh.
-- Removes old new e: edge e is taken out of its loops, and then the last edge gets its index
-- IsRemovable m e: e has the outer face on both sides
-- Unlinks, unlinked: the first of these two steps, link by link and as a mesh
-- after_removal m e h: the index of edge h once e is removed
-- edge_naming last hole: the new indexes of all edges where the last one gets the index hole
-- Opens old new f: face f becomes part of the outer face, and the last face gets its index
-- ClosesLoop old new h: the loop of three outer edges from h on becomes a new last face
-- IsOpenTriangle m h: there is such a loop, and the outer face names none of its edges
-- IsSoundBut m hole: links that are sound but for one edge, to which no other refers
use Rattle.std.specs.Prelude.{◌≡◌, ◌≢◌, ◌⊎◌, ◌+◌, ◌-◌, ◌%◌, ◌<◌, ◌≤◌, ◌==◌, [], ◌∷◌, ◌++◌}
use Rattle.std.specs.Prelude.{if◌then◌else◌}
use Rattle.std.specs.Prelude.{ℕ, List, length, Option, Some, None, IsSome, slice_index_or}
use Rattle.std.specs.Prelude.{slice_set}
use Rattle.std.specs.List.{swap_remove}
use Rattle.half_edge_links.specs.Grow.{with_face, with_next, with_prev}
use Rattle.half_edge_links.specs.Meshes.{edge_at, face, face_edge, IsSoundEdge, Mesh, next, no_edge}
use Rattle.half_edge_links.specs.Meshes.{origin, out_edge, prev, rev}
use Rattle.half_edge_links.specs.Renames.{Naming, pair_moved, renamed, Renames}
use Rattle.half_edge_links.specs.declared.records.HalfEdge.{HalfEdge}

-- directed edge h is in a list, and so are the edges before and after it
pub record IsLinkedWithin (hs : List HalfEdge) (h : ℕ) : Type 0 where
  pub edge : h < length hs
  pub next : (edge_at hs h).next < length hs
  pub prev : (edge_at hs h).prev < length hs

-- the three edges round the triangle of h get face f
unfoldable pub with_loop_face : List HalfEdge → ℕ → ℕ → List HalfEdge
with_loop_face hs h f =
    with_face (with_face (with_face hs h f) (edge_at hs h).next f) (edge_at hs h).prev f

-- the mesh whose face f was given to the outer face, the last face taking its index
unfoldable pub opened : Mesh → ℕ → Mesh
opened m f = record m {
  half_edges = with_loop_face (with_loop_face m.half_edges (face_edge m (length m.face_edges)) f)
      (face_edge m f) 0;
  face_edges = swap_remove m.face_edges (f - 1) 0;
}

-- the new index of a face, where face f of `last` faces was given to the outer face
abbrev pub opened_face : ℕ → ℕ → ℕ → ℕ
opened_face last f g = if g == f then 0 else (if g == last then f else g)

-- what giving face f to the outer face does: no link changes but the faces
pub record Opens (old new : Mesh) (f : ℕ) : Type 0 where
  pub edge_count : length new.half_edges ≡ length old.half_edges
  pub face_count : length new.face_edges + 1 ≡ length old.face_edges
  pub next : (k : ℕ) → next new k ≡ next old k
  pub prev : (k : ℕ) → prev new k ≡ prev old k
  pub origin : (k : ℕ) → origin new k ≡ origin old k
  pub gone : (k : ℕ) → k < length old.half_edges → face old k ≡ f → face new k ≡ 0
  pub last : (k : ℕ) → k < length old.half_edges → face old k ≡ length old.face_edges
      → face old k ≢ f → face new k ≡ f
  pub other : (k : ℕ) → k < length old.half_edges → face old k ≢ f
      → face old k ≢ length old.face_edges → face new k ≡ face old k
  pub outs : new.out_edges ≡ old.out_edges
  pub outer_edge : new.outer_edge ≡ old.outer_edge
  pub face_edges : new.face_edges ≡ swap_remove old.face_edges (f - 1) 0

-- edge e, with other side t, is taken out of its loops; each side is left as a loop of its own
unfoldable pub with_unlinked : List HalfEdge → ℕ → ℕ → List HalfEdge
with_unlinked hs e t =
    with_prev (with_next (with_prev (with_next (with_prev (with_next (with_prev (with_next hs
    (edge_at hs e).prev (edge_at hs t).next)
    (edge_at hs t).next (edge_at hs e).prev)
    (edge_at hs t).prev (edge_at hs e).next)
    (edge_at hs e).next (edge_at hs t).prev)
    e e) e e) t t) t t

-- the edge that a vertex names after one of its edges was taken out, which another may follow
abbrev pub out_after : ℕ → ℕ → Option ℕ
out_after gone other = if other == gone then None else Some other

-- the edge that the outer face names once one with reverse t is out: n, or else p, where they are
-- not t
abbrev pub outer_beside : ℕ → ℕ → ℕ → Option ℕ
outer_beside t n p = if n == t then (if p == t then None else Some p) else Some n

-- the outer edge after edge e, with other side t, was taken out
abbrev pub outer_after : Option ℕ → ℕ → ℕ → ℕ → ℕ → Option ℕ
outer_after None e t n p = None
outer_after (Some h) e t n p =
    if h == e then outer_beside t n p else (if h == t then outer_beside t n p else Some h)

-- the mesh whose edge e was taken out of its loops
unfoldable pub unlinked : Mesh → ℕ → Mesh
unlinked m e = record m {
  half_edges = with_unlinked m.half_edges e (rev e);
  out_edges = slice_set (slice_set m.out_edges (origin m e) (out_after e (next m (rev e))))
      (origin m (rev e)) (out_after (rev e) (next m e));
  outer_edge = outer_after m.outer_edge e (rev e) (next m e) (prev m e);
}

-- an edge with the outer face on both sides; where it is joined to no other, it is the only one
pub record IsRemovable (m : Mesh) (e : ℕ) : Type 0 where
  pub within : e < length m.half_edges
  pub outer : face m e ≡ 0
  pub twin_outer : face m (rev e) ≡ 0
  pub whole : next m e ≡ rev e → prev m e ≡ rev e → length m.half_edges ≡ 2

-- what taking out edge e, with other side t, does
pub record Unlinks (old new : Mesh) (e t : ℕ) : Type 0 where
  pub edge_count : length new.half_edges ≡ length old.half_edges
  pub vertex_count : length new.out_edges ≡ length old.out_edges
  pub face_edges : new.face_edges ≡ old.face_edges
  pub origins : (k : ℕ) → origin new k ≡ origin old k
  pub faces : (k : ℕ) → face new k ≡ face old k
  pub before : prev old e ≢ t → next new (prev old e) ≡ next old t
  pub twin_before : prev old t ≢ e → next new (prev old t) ≡ next old e
  pub other_next : (k : ℕ) → k ≢ e → k ≢ t → k ≢ prev old e → k ≢ prev old t
      → next new k ≡ next old k
  pub after : next old e ≢ t → prev new (next old e) ≡ prev old t
  pub twin_after : next old t ≢ e → prev new (next old t) ≡ prev old e
  pub other_prev : (k : ℕ) → k ≢ e → k ≢ t → k ≢ next old e → k ≢ next old t
      → prev new k ≡ prev old k
  pub next_self : next new e ≡ e
  pub prev_self : prev new e ≡ e
  pub twin_next_self : next new t ≡ t
  pub twin_prev_self : prev new t ≡ t
  pub out : out_edge new (origin old e) ≡ out_after e (next old t)
  pub twin_out : out_edge new (origin old t) ≡ out_after t (next old e)
  pub other_outs : (v : ℕ) → v ≢ origin old e → v ≢ origin old t → out_edge new v ≡ out_edge old v
  pub outer_edge : new.outer_edge ≡ outer_after old.outer_edge e t (next old e) (prev old e)

-- a mesh that is sound but for edge hole and its other side, hole + 1, to which nothing else refers
pub record IsSoundBut (m : Mesh) (hole : ℕ) : Type 0 where
  pub even : length m.half_edges % 2 ≡ 0
  pub hole_even : hole % 2 ≡ 0
  pub within : hole + 1 < length m.half_edges
  pub edges : (h : ℕ) → h < length m.half_edges → h ≢ hole → h ≢ hole + 1 → IsSoundEdge m h
  pub next_next : (h : ℕ) → h < length m.half_edges → h ≢ hole → h ≢ hole + 1
      → (next m h ≢ hole) × (next m h ≢ hole + 1)
  pub prev_prev : (h : ℕ) → h < length m.half_edges → h ≢ hole → h ≢ hole + 1
      → (prev m h ≢ hole) × (prev m h ≢ hole + 1)
  pub next_self : next m hole ≡ hole
  pub prev_self : prev m hole ≡ hole
  pub twin_next_self : next m (hole + 1) ≡ hole + 1
  pub twin_prev_self : prev m (hole + 1) ≡ hole + 1
  pub origins : (h : ℕ) → h < length m.half_edges → origin m h < length m.out_edges
  pub faces_in : (h : ℕ) → h < length m.half_edges → face m h ≤ length m.face_edges
  pub vertices : (v h : ℕ) → out_edge m v ≡ Some h
      → (h < length m.half_edges) × (origin m h ≡ v) × (h ≢ hole) × (h ≢ hole + 1)
  pub faces : (f : ℕ) → 0 < f → f ≤ length m.face_edges → (face_edge m f < length m.half_edges)
      × (face m (face_edge m f) ≡ f) × (face_edge m f ≢ hole) × (face_edge m f ≢ hole + 1)
  pub outer : (h : ℕ) → m.outer_edge ≡ Some h
      → (h < length m.half_edges) × (face m h ≡ 0) × (h ≢ hole) × (h ≢ hole + 1)
  pub has_outer : 2 < length m.half_edges → IsSome m.outer_edge

-- the last edge takes the place of edge hole, and the links to it change
unfoldable pub with_filled : List HalfEdge → ℕ → ℕ → List HalfEdge
with_filled hs last hole =
    swap_remove (swap_remove (with_prev (with_next (with_prev (with_next hs
    (edge_at hs last).prev hole)
    (edge_at hs last).next hole)
    (edge_at hs (last + 1)).prev (hole + 1))
    (edge_at hs (last + 1)).next (hole + 1))
    (hole + 1) no_edge) hole no_edge

-- vertex v names its edge by the new index, where two directed edges have moved
unfoldable pub with_out_renamed : List (Option ℕ) → ℕ → ℕ → ℕ → List (Option ℕ)
with_out_renamed outs v from to =
    slice_set outs v (renamed (pair_moved from to) (slice_index_or outs v None))

-- inner face f names its edge by the new index, where two directed edges have moved
unfoldable pub with_face_renamed : List ℕ → ℕ → ℕ → ℕ → List ℕ
with_face_renamed fs f from to =
    if f == 0 then fs else slice_set fs (f - 1) (pair_moved from to (slice_index_or fs (f - 1) 0))

-- the mesh without edge hole, to which nothing refers: the last edge takes its index
unfoldable pub filled : Mesh → ℕ → ℕ → Mesh
filled m last hole = record m {
  half_edges = with_filled m.half_edges last hole;
  out_edges = with_out_renamed (with_out_renamed m.out_edges (origin m last) last hole)
      (origin m (last + 1)) last hole;
  face_edges = with_face_renamed (with_face_renamed m.face_edges (face m last) last hole)
      (face m (last + 1)) last hole;
  outer_edge = renamed (pair_moved last hole) m.outer_edge;
}

-- the new indexes where the last edge takes the place of edge hole
abbrev pub edge_naming : ℕ → ℕ → Naming
edge_naming last hole = record {
  edge = pair_moved last hole;
  old_edge = pair_moved hole last;
  vertex = λ v. v;
  old_vertex = λ v. v;
  face = λ f. f;
  old_face = λ f. f;
}

-- the mesh without edge e
abbrev pub removed : Mesh → ℕ → Mesh
removed m e = filled (unlinked m e) (length m.half_edges - 2) (e - e % 2)

-- edge e is taken out of its loops, and then the last edge takes its index
pub record Removes (old new : Mesh) (e : ℕ) : Type 0 where
  pub between : Mesh
  pub unlinks : Unlinks old between e (rev e)
  pub renames : Renames between new (edge_naming (length old.half_edges - 2) (e - e % 2))
  pub edge_count : length new.half_edges + 2 ≡ length old.half_edges
  pub vertex_count : length new.out_edges ≡ length old.out_edges
  pub face_count : length new.face_edges ≡ length old.face_edges

-- a loop of three edges of the outer face, none of them the one that the outer face names
pub record IsOpenTriangle (m : Mesh) (h : ℕ) : Type 0 where
  pub within : h < length m.half_edges
  pub outer : face m h ≡ 0
  pub three : next m (next m h) ≡ prev m h
  pub proper : next m h ≢ h
  pub unnamed : (k : ℕ) → m.outer_edge ≡ Some k → (k ≢ h) × (k ≢ next m h) × (k ≢ prev m h)

-- the mesh where the loop of h is a new last face
unfoldable pub loop_closed : Mesh → ℕ → Mesh
loop_closed m h = record m {
  half_edges = with_loop_face m.half_edges h (length m.face_edges + 1);
  face_edges = m.face_edges ++ h ∷ [];
}

-- what making the loop of h a new last face does
pub record ClosesLoop (old new : Mesh) (h : ℕ) : Type 0 where
  pub edge_count : length new.half_edges ≡ length old.half_edges
  pub nexts : (k : ℕ) → next new k ≡ next old k
  pub prevs : (k : ℕ) → prev new k ≡ prev old k
  pub origins : (k : ℕ) → origin new k ≡ origin old k
  pub here : (k : ℕ) → (k ≡ h) ⊎ ((k ≡ next old h) ⊎ (k ≡ prev old h))
      → face new k ≡ length old.face_edges + 1
  pub other : (k : ℕ) → k ≢ h → k ≢ next old h → k ≢ prev old h → face new k ≡ face old k
  pub outs : new.out_edges ≡ old.out_edges
  pub outer_edge : new.outer_edge ≡ old.outer_edge
  pub face_edges : new.face_edges ≡ old.face_edges ++ h ∷ []

-- the new index of edge h where edge e was removed
abbrev pub after_removal : Mesh → ℕ → ℕ → ℕ
after_removal m e h = pair_moved (length m.half_edges - 2) (e - e % 2) h
