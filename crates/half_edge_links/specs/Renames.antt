-- A mesh whose elements have new indexes, some of them having gone.
use Rattle.std.specs.Prelude.{◌≡◌, ◌+◌, ◌%◌, ◌<◌, ◌≤◌, ◌==◌, if◌then◌else◌}
use Rattle.std.specs.Prelude.{ℕ, length, Option, Some, None, IsSome}
use Rattle.half_edge_links.specs.Meshes.{face, face_edge, HasLinks, IsSoundEdge, Mesh, next, origin}
use Rattle.half_edge_links.specs.Meshes.{out_edge, prev, rev}

-- the new index of each old edge, vertex and face, and the old one of each new
pub record Naming : Type 0 where
  pub edge : ℕ → ℕ
  pub old_edge : ℕ → ℕ
  pub vertex : ℕ → ℕ
  pub old_vertex : ℕ → ℕ
  pub face : ℕ → ℕ
  pub old_face : ℕ → ℕ

-- the new index of an element that may be missing
abbrev pub renamed : (ℕ → ℕ) → Option ℕ → Option ℕ
renamed f None = None
renamed f (Some h) = Some (f h)

-- the element at `from` has moved to `to`
abbrev pub moved : ℕ → ℕ → ℕ → ℕ
moved from to h = if h == from then to else h

-- the elements at `from` and `from + 1` have moved to `to` and `to + 1`
abbrev pub pair_moved : ℕ → ℕ → ℕ → ℕ
pair_moved from to h = if h == from then to else (if h == from + 1 then to + 1 else h)

-- old edge h has a new index
pub record IsKeptEdge (new : Mesh) (r : Naming) (h : ℕ) : Type 0 where
  pub within : r.edge h < length new.half_edges
  pub back : r.old_edge (r.edge h) ≡ h

-- new edge h is old edge g, which was sound
pub record IsRenamedEdge (old new : Mesh) (r : Naming) (h g : ℕ) : Type 0 where
  pub links : HasLinks new h (r.vertex (origin old g)) (r.edge (next old g)) (r.edge (prev old g))
      (r.face (face old g))
  pub sound : IsSoundEdge old g
  pub back : r.edge g ≡ h
  pub next_kept : IsKeptEdge new r (next old g)
  pub prev_kept : IsKeptEdge new r (prev old g)
  pub rev_is : r.old_edge (rev h) ≡ rev g
  pub origin_in : r.vertex (origin old g) < length new.out_edges
  pub origin_back : r.old_vertex (r.vertex (origin old g)) ≡ origin old g
  pub face_in : r.face (face old g) ≤ length new.face_edges
  pub face_kept : 0 < r.face (face old g)
      → (0 < face old g) × (r.old_face (r.face (face old g)) ≡ face old g)

-- new face f is old face g
pub record IsRenamedFace (old new : Mesh) (r : Naming) (f g : ℕ) : Type 0 where
  pub named : face_edge new f ≡ r.edge (face_edge old g)
  pub kept : IsKeptEdge new r (face_edge old g)
  pub of : face old (face_edge old g) ≡ g
  pub back : r.face g ≡ f

-- new vertex v is old vertex u
pub record IsRenamedVertex (old new : Mesh) (r : Naming) (v u : ℕ) : Type 0 where
  pub out : out_edge new v ≡ renamed r.edge (out_edge old u)
  pub kept : (h : ℕ) → out_edge old u ≡ Some h → IsKeptEdge new r h × (origin old h ≡ u)
  pub back : r.vertex u ≡ v

-- each element of the new mesh is one of the old mesh
pub record Renames (old new : Mesh) (r : Naming) : Type 0 where
  pub even : length new.half_edges % 2 ≡ 0
  pub edges : (h : ℕ) → h < length new.half_edges → IsRenamedEdge old new r h (r.old_edge h)
  pub vertices : (v : ℕ) → v < length new.out_edges → IsRenamedVertex old new r v (r.old_vertex v)
  pub faces : (f : ℕ) → 0 < f → f ≤ length new.face_edges → IsRenamedFace old new r f (r.old_face f)
  pub outer : new.outer_edge ≡ renamed r.edge old.outer_edge
  pub outer_kept : (h : ℕ) → old.outer_edge ≡ Some h → IsKeptEdge new r h × (face old h ≡ 0)
  pub outer_face : r.face 0 ≡ 0
  pub has_outer : 0 < length new.half_edges → IsSome old.outer_edge
