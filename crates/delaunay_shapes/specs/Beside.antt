-- Free faces of a mesh, beside directed edges and round vertices.
use Rattle.std.specs.Prelude.{◌≡◌, ◌≢◌, ◌+◌, ◌<◌, ℕ, Bool, List, length, IsTrue}
use Rattle.plane.specs.{on, place, Point, side, whole}
use Rattle.half_edge_links.specs.{face, Mesh, origin, rev}

-- which faces are free, by their places in the list of inner faces: face 1 comes first
abbrev pub by_place : (ℕ → Bool) → ℕ → Bool
by_place free n = free (n + 1)

-- the face on the left of directed edge h is an inner one, and free
abbrev pub IsFreeBeside : Mesh → (ℕ → Bool) → ℕ → Type 0
IsFreeBeside m free h = (0 < face m h) × IsTrue (free (face m h))

-- or p is on the line of h
abbrev pub IsFreeUnlessOn : List Point → Mesh → (ℕ → Bool) → Point → ℕ → Type 0
IsFreeUnlessOn points m free p h =
    side (place points (origin m h)) (place points (origin m (rev h))) (whole p) ≢ on
    → IsFreeBeside m free h

-- so is that of a directed edge that starts at vertex v
abbrev pub HasFreeRound : Mesh → (ℕ → Bool) → ℕ → Type 0
HasFreeRound m free v =
    (h : ℕ) × (h < length m.half_edges) × (origin m h ≡ v) × IsFreeBeside m free h
