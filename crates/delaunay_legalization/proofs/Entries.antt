-- Optional values, entries of lists, and lists of indexes.
-- Lemmas: not_some, one_value, some_entry, index_listed.
use Rattle.std.proofs.Common.{◌≡◌, ◌+◌, ◌<◌, [], ◌∷◌, ◌∙◌}
use Rattle.std.proofs.Common.{ℕ, List, length, Option, Some, None, IsSome, arith}
use Rattle.std.specs.Prelude.{Contains}
use Rattle.std.specs.List.{range_with_len}
use Rattle.std.proofs.lemmas.List.FromFn.{length-range_with_len, get_or-range_with_len}

-- none, so not some
pub not_some : (o : Option ℕ) → o ≡ None → ¬ IsSome o
not_some o none some = cc

-- what is the same when it is some is the same
pub one_value : {X : Type 0} (x y : X) → Some x ≡ Some y → x ≡ y
one_value x y e = cc

-- a list that has an index has an entry
pub some_entry : {X : Type 0} (xs : List X) (k : ℕ) → k < length xs → X
some_entry [] k within = absurd (omega (arith, within))
some_entry (x ∷ xs) k within = x

-- the first n indexes are listed
pub index_listed : (n k : ℕ) → k < n → Contains (range_with_len 0 n) k
index_listed n k within =
    let at : 0 + k ≡ k = omega arith in
    (k, omega (arith, within, length-range_with_len 0 n), get_or-range_with_len 0 n k k within ∙ at)
