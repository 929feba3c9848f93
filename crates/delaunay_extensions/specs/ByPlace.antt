-- Lists that are written at places.
use Rattle.std.specs.Prelude.{ℕ, List, [], ◌∷◌, slice_set}

-- a list after items were written at their places, the first first
unfoldable pub written : {X : Type 0} → List X → List (ℕ × X) → List X
written items [] = items
written items (e ∷ rest) = written (slice_set items e.0 e.1) rest
