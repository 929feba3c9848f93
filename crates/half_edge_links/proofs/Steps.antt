-- One step of an iterator over indexes.
-- Lemmas: range_step, fewer_after, map_range_step, range_last, fewer_before, range_len.
use Rattle.std.proofs.Common.{◌≡◌, ◌+◌, ◌-◌, ◌<◌, ◌∷◌, [], ◌++◌}
use Rattle.std.proofs.Common.{ℕ, zero, suc, length, map, refl, ap, arith}
use Rattle.std.specs.List.{range_with_len}
use Rattle.std.proofs.lemmas.List.FromFn.{length-range_with_len}

-- a range with numbers in it is its first number and the range after it
pub range_step : (a b : ℕ) → a < b
    → range_with_len a (b - a) ≡ a ∷ range_with_len (a + 1) (b - (a + 1))
range_step a b less =
    let e : b - a ≡ suc (b - (a + 1)) = omega arith in
    rw e refl

-- fewer are left after the first
pub fewer_after : (a b : ℕ) → a < b
    → length (range_with_len (a + 1) (b - (a + 1))) < length (range_with_len a (b - a))
fewer_after a b less = rw (range_step a b less) (omega arith)

-- the values of a function over a range are that of the first number and those over the range after
-- it
pub map_range_step : {X : Type 0} (f : ℕ → X) (a b : ℕ) → a < b
    → map f (range_with_len a (b - a)) ≡ f a ∷ map f (range_with_len (a + 1) (b - (a + 1)))
map_range_step f a b less = rw (range_step a b less) refl

-- a row with one more at its end
row_with_last : (a n j : ℕ) → a + n ≡ j → range_with_len a (suc n) ≡ range_with_len a n ++ j ∷ []
row_with_last a zero j e =
    let same : a ≡ j = omega arith in
    ap (λ k. k ∷ []) same
row_with_last a (suc n) j e = ap (λ l. a ∷ l) (row_with_last (a + 1) n j (omega arith))

-- those before the last, and the last
pub range_last : (a b : ℕ) → a < b
    → range_with_len a (b - a) ≡ range_with_len a (b - 1 - a) ++ (b - 1) ∷ []
range_last a b less =
    let e : b - a ≡ suc (b - 1 - a) = omega arith in
    rw e (row_with_last a (b - 1 - a) (b - 1) (omega arith))

-- fewer are left before the last
pub fewer_before : (a b : ℕ) → a < b
    → length (range_with_len a (b - 1 - a)) < length (range_with_len a (b - a))
fewer_before a b less =
    omega (arith, length-range_with_len a (b - 1 - a), length-range_with_len a (b - a))

-- as many are left as the bounds are apart
pub range_len : (a b : ℕ) → length (range_with_len a (b - a)) ≡ b - a
range_len a b = length-range_with_len a (b - a)
