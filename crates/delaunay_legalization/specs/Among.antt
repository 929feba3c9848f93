-- Meshes where only some edges may fail: each other edge between two faces has an empty circle on
-- one of its sides.
use Rattle.std.specs.Prelude.{◌≡◌, ◌⊎◌, ℕ, ◌*◌, ◌<◌, List, length, Contains}
use Rattle.plane.specs.{InsideCircle, place, Point}
use Rattle.half_edge_links.specs.{face, Mesh, next, origin, prev, rev}

-- no point is inside the circle of the face on the left of directed edge h
abbrev HasEmptyCircle : List Point → Mesh → ℕ → Type 0
HasEmptyCircle points m h =
    (n : ℕ) → n < length points
    → ¬ InsideCircle (place points (origin m h)) (place points (origin m (next m h)))
    (place points (origin m (prev m h))) (place points n)

-- so it is, or this face is the outer one
abbrev pub IsQuiet : List Point → Mesh → ℕ → Type 0
IsQuiet points m h = (face m h ≡ 0) ⊎ HasEmptyCircle points m h

-- undirected edge k is quiet on one of its sides
abbrev pub IsQuietEdge : List Point → Mesh → ℕ → Type 0
IsQuietEdge points m k = IsQuiet points m (2 * k) ⊎ IsQuiet points m (rev (2 * k))

-- each undirected edge is one of ks, or quiet on one of its sides
abbrev pub FailOnlyOf : List Point → Mesh → List ℕ → Type 0
FailOnlyOf points m ks = (k : ℕ) → (2 * k) < length m.half_edges
    → Contains ks k ⊎ IsQuietEdge points m k
