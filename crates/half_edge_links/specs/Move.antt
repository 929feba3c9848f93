-- A vertex is taken out of a mesh.
use Rattle.std.specs.Prelude.{◌≡◌, ◌≢◌, ℕ, ◌-◌, ◌<◌, List, length, Option, Some, None}
use Rattle.std.specs.List.{swap_remove}
use Rattle.half_edge_links.specs.Meshes.{edge_at, face, iterate, Mesh, next, origin, out_edge, prev}
use Rattle.half_edge_links.specs.{declared.records.HalfEdge.HalfEdge, Meshes.rev, Renames.moved}

-- the edge after h round its origin, against the clock, in a list of directed edges
abbrev pub turn_of : List HalfEdge → ℕ → ℕ
turn_of hs h = rev (edge_at hs h).prev

-- the edges on the walk round a vertex, from edge first on, now start at v, and no other link
-- changes
pub record MovesOrigins (old new : List HalfEdge) (first v : ℕ) : Type 0 where
  pub count : length new ≡ length old
  pub nexts : (k : ℕ) → (edge_at new k).next ≡ (edge_at old k).next
  pub prevs : (k : ℕ) → (edge_at new k).prev ≡ (edge_at old k).prev
  pub faces : (k : ℕ) → (edge_at new k).face ≡ (edge_at old k).face
  pub there : (i : ℕ) → (edge_at new (iterate (turn_of old) i first)).origin ≡ v
  pub other : (k : ℕ) → ((i : ℕ) → iterate (turn_of old) i first ≢ k)
      → (edge_at new k).origin ≡ (edge_at old k).origin

-- a walk on a list of directed edges stays there, and no two edges come to one
pub record CanWalk (hs : List HalfEdge) : Type 0 where
  pub stays : (h : ℕ) → h < length hs → turn_of hs h < length hs
  pub apart : (a b : ℕ) → a < length hs → b < length hs → turn_of hs a ≡ turn_of hs b → a ≡ b

-- the walk round vertex v from the edge that it names meets each edge that starts there
abbrev pub IsOneOrbit : Mesh → ℕ → Type 0
IsOneOrbit m v = (o h : ℕ) → out_edge m v ≡ Some o → h < length m.half_edges → origin m h ≡ v
    → (i : ℕ) × (iterate (turn_of m.half_edges) i o ≡ h)

-- vertex v goes, and the last one takes its index
pub record MovesVertex (old new : Mesh) (v : ℕ) : Type 0 where
  pub edge_count : length new.half_edges ≡ length old.half_edges
  pub nexts : (k : ℕ) → next new k ≡ next old k
  pub prevs : (k : ℕ) → prev new k ≡ prev old k
  pub faces : (k : ℕ) → face new k ≡ face old k
  pub origins : (k : ℕ) → k < length old.half_edges
      → origin new k ≡ moved (length old.out_edges - 1) v (origin old k)
  pub out_edges : new.out_edges ≡ swap_remove old.out_edges v None
  pub face_edges : new.face_edges ≡ old.face_edges
  pub outer_edge : new.outer_edge ≡ old.outer_edge

-- the same, where there is a first edge
pub record MovesNamed (old new : List HalfEdge) (named : Option ℕ) (v : ℕ) : Type 0 where
  pub some : (first : ℕ) → named ≡ Some first → MovesOrigins old new first v
  pub none : named ≡ None → new ≡ old
