-- Sums over the sides of the faces, the outer edges and the edges of a mesh.
use Rattle.std.specs.Prelude.{◌≡◌, [], ◌∷◌, ◌==◌, if◌then◌else◌, ◌+ℤ◌}
use Rattle.std.specs.Prelude.{ℕ, zero, suc, List, length, ℤ, pos, neg_ℤ}
use Rattle.half_edge_links.specs.Meshes.{face, IsValidMesh, Mesh, origin, rev}
use Rattle.half_edge_links.specs.Outline.{Ends, ends}
use Rattle.half_edge_links.specs.Triangles.{Triangle, triangles}

-- the sum of f over a list
abbrev pub total : {X : Type 0} → (X → ℤ) → List X → ℤ
total f [] = pos 0
total f (x ∷ xs) = f x +ℤ total f xs

-- the sum of what the three sides of a face have
abbrev pub around : (ℕ → ℕ → ℤ) → Triangle → ℤ
around f t = f t.first t.second +ℤ f t.second t.third +ℤ f t.third t.first

-- what an edge has, from its start to its end
abbrev pub along : (ℕ → ℕ → ℤ) → Ends → ℤ
along f e = f e.source e.target

-- what both directions of an edge have
abbrev pub both_ways : (ℕ → ℕ → ℤ) → Ends → ℤ
both_ways f e = f e.source e.target +ℤ f e.target e.source

-- the outer edges among the first k directed edges, each with the outer face on its left
abbrev pub outer_among : Mesh → ℕ → List Ends
outer_among m zero = []
outer_among m (suc k) =
    if face m k == 0 then record { source = origin m k; target = origin m (rev k) }
    ∷ outer_among m k else outer_among m k

-- the outer edges, by falling index
abbrev pub outline : Mesh → List Ends
outline m = outer_among m (length m.half_edges)

-- the two directions of each edge are, taken together, the sides of the inner faces and the outer
-- edges: as sums of any number that a direction has
abbrev pub SidesAddUp : Type 0
SidesAddUp = (m : Mesh) → IsValidMesh m → (f : ℕ → ℕ → ℤ)
    → total (both_ways f) (ends m) ≡ total (around f) (triangles m) +ℤ total (along f) (outline m)

-- so where the way back counts against the way there, the sides and the outer edges cancel out
abbrev pub SidesCancel : Type 0
SidesCancel = (m : Mesh) → IsValidMesh m → (f : ℕ → ℕ → ℤ) → ((i j : ℕ) → f i j ≡ neg_ℤ (f j i))
    → total (around f) (triangles m) +ℤ total (along f) (outline m) ≡ pos 0
