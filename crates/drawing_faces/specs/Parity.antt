-- Lists of numbers, and which of two has a number.
use Rattle.std.specs.Prelude.{◌≡◌, ◌↔◌, ℕ, Bool, true, false, List, nat_eq, not, IsTrue}
use Rattle.std.specs.List.{list_any}

-- whether a list has a number
abbrev pub has : List ℕ → ℕ → Bool
has xs k = list_any (λ x. nat_eq x k) xs

-- one of two, and not both
abbrev pub either : Bool → Bool → Bool
either true b = not b
either false b = b

-- a list has the numbers that are in one of two others, and not in both
abbrev pub IsDifference : List ℕ → List ℕ → List ℕ → Type 0
IsDifference xs ys zs = (k : ℕ) → has zs k ≡ either (has xs k) (has ys k)

-- in a list, or in one of two others and not in the second
abbrev pub or_only_first : Bool → Bool → Bool → Bool
or_only_first true one other = true
or_only_first false true other = not other
or_only_first false false other = false
