-- Walks from edge to edge that end before a given one, and what is left of them.
use Rattle.std.specs.Prelude.{◌≡◌, ◌<◌, ◌==◌, [], ◌∷◌, if◌then◌else◌}
use Rattle.std.specs.Prelude.{ℕ, zero, suc, Bool, true, false, List}
use Rattle.std.specs.Borrow.{Bor}
use Rattle.{half_edge_dcel.specs.Left.each_in, half_edge_links.specs.Mesh}
use Rattle.half_edge_dcel.specs.{declared.edge_walk.EdgeWalk.EdgeWalk, MeshContents.Contents}

-- the places of a walk from h on that ends before it is at `stop`, or after so many places
abbrev pub walk : (ℕ → ℕ) → ℕ → ℕ → ℕ → List ℕ
walk f stop zero h = []
walk f stop (suc k) h = h ∷ (if f h == stop then [] else walk f stop k (f h))

-- the edges that a walk has still to come to, from each to the one that f gives
abbrev pub walk_left : {V D U F : Type 0} → (Mesh → ℕ → ℕ) → EdgeWalk V D U F
    → List (Bor (Contents V D U F) × ℕ)
walk_left f it = each_in it.dcel (walk (f it.dcel.now.mesh) it.end it.left it.next)

-- a walk from h on is at `stop` after so many places, or before
abbrev pub comes_to : (ℕ → ℕ) → ℕ → ℕ → ℕ → Bool
comes_to f stop zero h = false
comes_to f stop (suc k) h = if f h == stop then true else comes_to f stop k (f h)

-- a walk that has not ended comes to its end
abbrev pub IsEnding : {V D U F : Type 0} → (Mesh → ℕ → ℕ) → EdgeWalk V D U F → Type 0
IsEnding f it = 0 < it.left → comes_to (f it.dcel.now.mesh) it.end it.left it.next ≡ true

-- a walk over the same edges
abbrev pub IsSameWalk : {V D U F : Type 0} → EdgeWalk V D U F → EdgeWalk V D U F → Type 0
IsSameWalk it other = (other.dcel ≡ it.dcel) × (other.next ≡ it.next) × (other.end ≡ it.end)
    × (other.left ≡ it.left)
