-- Numbers that are kept.
-- Lemmas: exact_kept.
use Rattle.std.proofs.Common.{◌≡◌, ℕ, List, inl, subst, sym}
use Rattle.std.specs.Prelude.{IfOk, Result, Ok, Err}
use Rattle.decimal_numbers.specs.{Decimal}
use Rattle.mesh_files.specs.{IsAsWritten, Number, Written.IsExact}

-- a number that was kept is the one that is written
pub exact_kept : {E : Type 0} (r : Result Number E) (word : List ℕ) (d : Decimal) → IsExact word d
    → IfOk r (λ n. n.decimal ≡ d) → IfOk r (λ n. IsAsWritten word n.decimal)
exact_kept (Ok n) word d is e = record { number = inl (subst (IsExact word) (sym e) is) }
exact_kept (Err x) word d is e = tt
