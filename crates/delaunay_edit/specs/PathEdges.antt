-- The directed edges along a path, in order.
use Rattle.std.specs.Prelude.{◌≡◌, ℕ, ◌<◌, List, [], ◌∷◌, length}
use Rattle.half_edge_links.specs.{Mesh, origin, rev}
use Rattle.plane_theorems.specs.{AreNextOn}
use Rattle.{delaunay_legalization.specs.edges_of, plane.specs.Joins, plane.specs.Point}

-- each subconstraint of the path from i to j is an edge
abbrev pub HasPath : List Point → Mesh → ℕ → ℕ → Type 0
HasPath points m i j = (a b : ℕ) → AreNextOn points i j a b → Joins (edges_of m) a b

-- these edges lead from i to j, each from one vertex of the segment to the next
abbrev pub LeadAlong : List Point → Mesh → ℕ → ℕ → List ℕ → Type 0
LeadAlong points m i j [] = i ≡ j
LeadAlong points m i j (h ∷ hs) = (h < length m.half_edges) × (origin m h ≡ i) ×
    AreNextOn points i j i (origin m (rev h)) × LeadAlong points m (origin m (rev h)) j hs

-- each subconstraint of the path from i to j is one of the pairs
abbrev pub AreJoinedAlong : List Point → List (ℕ × ℕ) → ℕ → ℕ → Type 0
AreJoinedAlong points pairs i j = (a b : ℕ) → AreNextOn points i j a b → Joins pairs a b
