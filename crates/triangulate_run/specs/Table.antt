-- What a table says, by the indexes of points: a listed triple turns left, its rotations too, their
-- three other orders turn right, and the rest is on.
use Rattle.std.specs.Prelude.{ℕ, nat_eq, Bool, false, if◌then◌else◌, List, [], ◌∷◌, get_or}
use Rattle.std.specs.Prelude.{Option, is_some}
use Rattle.std.specs.Cmp.Lexicographic.{pointwise}
use Rattle.std.specs.List.{list_any, find}
use Rattle.std.specs.Option.{option_map_or}
use Rattle.plane.specs.{left, on, right, Side}
use Rattle.triangulate_run.specs.declared.circles.Circle.{Circle}

-- the triples have the triple t
abbrev pub has : List (List ℕ) → List ℕ → Bool
has ts t = list_any (λ u. pointwise nat_eq u t) ts

-- a triple, and its rotations
abbrev pub rotations : ℕ → ℕ → ℕ → List (List ℕ)
rotations i j k = (i ∷ j ∷ k ∷ []) ∷ (j ∷ k ∷ i ∷ []) ∷ (k ∷ i ∷ j ∷ []) ∷ []

-- one of the triples is i, j, k or a rotation of it
abbrev pub lists : List (List ℕ) → ℕ → ℕ → ℕ → Bool
lists ts i j k = list_any (has ts) (rotations i j k)

-- the first circle of the table that lists i, j, k or a rotation of it
abbrev pub circle_in : List Circle → ℕ → ℕ → ℕ → Option Circle
circle_in circles i j k = find (λ c. lists c.triples i j k) circles

-- some circle lists them
abbrev pub is_left_in : List Circle → ℕ → ℕ → ℕ → Bool
is_left_in circles i j k = is_some (circle_in circles i j k)

-- the side that the table tells of i, j, k: left, right, or on the line
abbrev pub side_in : List Circle → ℕ → ℕ → ℕ → Side
side_in circles i j k =
    if is_left_in circles i j k then left else (if is_left_in circles i k j then right else on)

-- l is inside the circle of the listed triple i j k
abbrev pub is_inside_in : List Circle → ℕ → ℕ → ℕ → ℕ → Bool
is_inside_in circles i j k l =
    option_map_or (λ c. get_or c.inside l false) (circle_in circles i j k) false
