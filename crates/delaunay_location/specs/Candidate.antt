-- A vertex that may be the nearest one to a position.
use Rattle.std.specs.Prelude.{◌≡◌, ℕ, ◌+◌, ◌<◌, ◌≤◌, ◌<ℤ◌, List, length}
use Rattle.plane.specs.{gap, IsEdge, IsNearer, place, Point, Triangulation, whole}
use Rattle.half_edge_links.specs.{Mesh, origin, rev}
use Rattle.{delaunay_legalization.specs.drawn, plane_theorems.specs.nearer_count}
use Rattle.delaunay_location.specs.declared.nearest_walk.Candidate.{Candidate}

module _ (points : List Point) (m : Mesh) (p : Point) where
  -- edge h does not end nearer to p than it starts
  abbrev pub EndsNoNearer : ℕ → Type 0
  EndsNoNearer h =
      ¬ (gap (whole p) (place points (origin m (rev h)))
      <ℤ gap (whole p) (place points (origin m h)))

  -- no neighbour of vertex v is nearer to p than it
  abbrev pub HasNoNearerNeighbor : ℕ → Type 0
  HasNoNearerNeighbor v =
      (k : ℕ) → IsEdge (drawn points m) v k → ¬ IsNearer (whole p) (place points k) (place points v)

  -- it names an edge that does not end nearer to p than it starts, and has the start's squared
  -- distance
  pub record IsCandidate (c : Candidate) : Type 0 where
    pub within : c.spoke < length m.half_edges
    pub distance : c.distance_2 ≡ gap (whole p) (place points (origin m c.spoke))
    pub ends : EndsNoNearer c.spoke

  -- it is nearer than vertex v
  pub record IsNearerCandidate (v : ℕ) (c : Candidate) : Type 0 where
    pub candidate : IsCandidate c
    pub nearer : IsNearer (whole p) (place points (origin m c.spoke)) (place points v)

-- moves from vertex v to vertex w were counted: the count did not fall, and rose by at most the
-- number of vertices that are nearer to p than v and not nearer than w
pub record IsMoveCount (t : Triangulation) (p : Point) (v w was now : ℕ) : Type 0 where
  pub grown : was ≤ now
  pub fewer : now + nearer_count t (whole p) w ≤ was + nearer_count t (whole p) v

-- candidate c was reached from vertex v by moves that were counted
pub record IsReached (points : List Point) (m : Mesh) (p : Point) (v was now : ℕ)
    (c : Candidate) : Type 0 where
  pub candidate : IsCandidate points m p c
  pub counted : IsMoveCount (drawn points m) p v (origin m c.spoke) was now
