-- Numbers of which some digits are kept, with their powers of ten.
-- Lemmas: kept_value, raised_value, large_power, large_raised, large_cut.
use Rattle.std.proofs.Common.{◌≡◌, ◌+◌, ◌-◌, ◌*◌, ◌^◌, ◌<◌, ◌≤◌, ◌++◌, ◌∙◌}
use Rattle.std.proofs.Common.{ℕ, Bool, true, false, length, refl, sym, ap, subst}
use Rattle.std.proofs.Common.{arith, inl, inr}
use Rattle.std.specs.Str.Parse.{digits_value}
use Rattle.std.proofs.lemmas.Nat.{pow-add}
use Rattle.std.proofs.Math.Nat.{mul-le-mul_left}
use Rattle.decimal_numbers.specs.{raised_by, Spelling, Value.lowered_by}
use Rattle.decimal_numbers.specs.Long.{IsKept, IsLarge, IsLongValue, off_fives}
use Rattle.decimal_numbers.specs.{declared.long.Kept.Kept, declared.long.LongDecimal.LongDecimal}
use Rattle.decimal_numbers.proofs.Powers.{raised_more}

-- the powers of ten by which digits are raised, lowered and cut
record Powers (f b c r l d : ℕ) : Type 0 where
  whole : 10 ^ (f + l) ≡ 10 ^ c * 10 ^ (b + l)
  moved : 10 ^ r * 10 ^ d ≡ 10 ^ (b + l)
  some : 0 < 10 ^ (b + l)

powers : (f b c r l d : ℕ) → f ≡ b + c → d + r ≡ b + l → Powers f b c r l d
powers f b c r l d parts same =
    let left : f + l ≡ c + (b + l) = omega (arith, parts) in
    let right : b + l ≡ r + d = omega (arith, same) in
    record {
      whole = ap (λ x. 10 ^ x) left ∙ pow-add 10 c (b + l);
      moved = sym (ap (λ x. 10 ^ x) right ∙ pow-add 10 r d);
      some = omega (arith, raised_more 1 (b + l));
    }

same_scaled : (n k f b c r l d : ℕ) → Powers f b c r l d → n ≡ k * 10 ^ c
    → k * 10 ^ (f + l) ≡ n * 10 ^ r * 10 ^ d
same_scaled n k f b c r l d p e =
    let move = ap (λ x. n * x) p.moved in
    let times = ap (λ x. x * 10 ^ (b + l)) e in
    rw p.whole (grind (arith, move, times))

more_scaled : (n k f b c r l d : ℕ) → Powers f b c r l d → k * 10 ^ c < n
    → k * 10 ^ (f + l) < n * 10 ^ r * 10 ^ d
more_scaled n k f b c r l d p less =
    let move = ap (λ x. n * x) p.moved in
    let times : 10 ^ (b + l) * (k * 10 ^ c + 1) ≤ 10 ^ (b + l) * n =
    mul-le-mul_left (10 ^ (b + l)) (omega (arith, less)) in
    rw p.whole (grind (arith, move, times, p.some))

less_scaled : (n k f b c r l d : ℕ) → Powers f b c r l d → n < k * 10 ^ c
    → n * 10 ^ r * 10 ^ d < k * 10 ^ (f + l)
less_scaled n k f b c r l d p less =
    let move = ap (λ x. n * x) p.moved in
    let times : 10 ^ (b + l) * (n + 1) ≤ 10 ^ (b + l) * (k * 10 ^ c) =
    mul-le-mul_left (10 ^ (b + l)) (omega (arith, less)) in
    rw p.whole (grind (arith, move, times, p.some))

-- digits that are kept, with so many behind the point, are the number, or lie beside it
pub kept_value : (p : Spelling) (k : Kept) (r : LongDecimal) (l : ℕ)
    → IsKept p.whole p.fraction k → lowered_by p ≡ length p.fraction + l
    → r.decimal.digits + raised_by p ≡ k.behind + l → r.is_exact ≡ k.is_exact
    → (k.is_exact ≡ true → r.decimal.magnitude ≡ k.number)
    → (k.is_exact ≡ false → r.decimal.magnitude ≡ off_fives k.number) → IsLongValue p r
kept_value p k r l kept lowered digits exact whole cut =
    let n = digits_value 10 (p.whole ++ p.fraction) in
    let e = powers (length p.fraction) k.behind k.cut (raised_by p) l r.decimal.digits
    kept.length_is digits in
    record {
      exact = λ is. let here = sym exact ∙ is in
          rw (lowered, whole here) (same_scaled n k.number (length p.fraction) k.behind k.cut
          (raised_by p) l r.decimal.digits e (kept.exact here));
      between = λ is. let here = sym exact ∙ is in
          record {
            floor = k.number;
            above = rw lowered (more_scaled n k.number (length p.fraction) k.behind k.cut
                (raised_by p) l r.decimal.digits e (kept.above here));
            below = rw lowered (less_scaled n (k.number + 1) (length p.fraction) k.behind k.cut
                (raised_by p) l r.decimal.digits e kept.below);
            magnitude_is = cut here;
          };
    }

-- where none are cut, the number is that of all digits
uncut : (n k : ℕ) (exact : Bool) → (exact ≡ true → n ≡ k * 10 ^ 0)
    → (exact ≡ false → k * 10 ^ 0 < n) → n < (k + 1) * 10 ^ 0 → n ≡ k
uncut n k true is above below = omega (arith, is refl)
uncut n k false is above below = absurd (omega (arith, above refl, below))

all_kept : (p : Spelling) (k : Kept) → IsKept p.whole p.fraction k → k.cut ≡ 0
    → digits_value 10 (p.whole ++ p.fraction) ≡ k.number
all_kept p k kept none =
    let n = digits_value 10 (p.whole ++ p.fraction) in
    let power : 10 ^ k.cut ≡ 10 ^ 0 = ap (λ x. 10 ^ x) none in
    uncut n k.number k.is_exact
    (λ e. kept.exact e ∙ ap (λ x. k.number * x) power)
    (λ e. subst (λ (x : ℕ). k.number * x < n) power (kept.above e))
    (subst (λ (x : ℕ). n < (k.number + 1) * x) power kept.below)

-- a power of ten in two parts
parted : (w b : ℕ) → b < w → 10 ^ w ≡ 10 ^ (w - b) * 10 ^ b
parted w b less =
    let sum : w ≡ w - b + b = omega (arith, less) in ap (λ x. 10 ^ x) sum ∙ pow-add 10 (w - b) b

-- digits of which none are cut, raised to a whole number
pub raised_value : (p : Spelling) (k : Kept) (m w : ℕ) (negative : Bool)
    → IsKept p.whole p.fraction k → p.lowers ≡ false → w ≡ digits_value 10 p.power
    → k.behind < w → k.cut ≡ 0 → m ≡ k.number * 10 ^ (w - k.behind)
    → IsLongValue p (record {
      decimal = record { negative = negative; magnitude = m; digits = 0 };
      is_exact = true;
    })
raised_value p k m w negative kept lowers power less none raised =
    let all = all_kept p k kept none in
    let few : length p.fraction + 0 ≡ k.behind = omega (arith, kept.length_is, none) in
    let part = parted w k.behind less in
    let times : m * 10 ^ k.behind ≡ k.number * 10 ^ w =
    ap (λ x. x * 10 ^ k.behind) raised
    ∙ (let step = ap (λ x. k.number * x) part in grind (arith, step)) in
    record {
      exact = λ _. rw (lowers, ← power, few, all) (grind (arith, times));
      between = λ bad. absurd (cc);
    }

-- a power of ten that is too high
pub large_power : (p : Spelling) (w : ℕ) → w ≡ digits_value 10 p.power → 400 < w → IsLarge p
large_power p w e high = inr (inl (omega (arith, e, high)))

-- a raised number that does not fit
pub large_raised : (p : Spelling) (k : Kept) (w : ℕ) → IsKept p.whole p.fraction k
    → p.lowers ≡ false → w ≡ digits_value 10 p.power → k.behind < w → k.cut ≡ 0
    → 2 ^ 64 ≤ k.number * 10 ^ (w - k.behind) → IsLarge p
large_raised p k w kept lowers power less none large =
    let all = all_kept p k kept none in
    let few : length p.fraction + 0 ≡ k.behind = omega (arith, kept.length_is, none) in
    let part = parted w k.behind less in
    let step = ap (λ x. k.number * x) part in
    let enough : 10 ^ 17 ≤ k.number * 10 ^ (w - k.behind) = omega (arith, large) in
    let times : 10 ^ k.behind * 10 ^ 17 ≤ 10 ^ k.behind * (k.number * 10 ^ (w - k.behind)) =
    mul-le-mul_left (10 ^ k.behind) enough in
    inr (inr (rw (lowers, ← power, few, all) (grind (arith, times, step))))

-- one that has 18 digits and is raised further
pub large_cut : (p : Spelling) (k : Kept) (w : ℕ) → IsKept p.whole p.fraction k
    → p.lowers ≡ false → w ≡ digits_value 10 p.power → k.behind < w → 0 < k.cut → IsLarge p
large_cut p k w kept lowers power less some =
    let n = digits_value 10 (p.whole ++ p.fraction) in
    let count : length p.fraction + 0 ≡ k.behind + k.cut = omega (arith, kept.length_is) in
    let split = ap (λ x. 10 ^ x) count ∙ pow-add 10 k.behind k.cut in
    let full : 10 ^ k.cut * 10 ^ 17 ≤ 10 ^ k.cut * k.number =
    mul-le-mul_left (10 ^ k.cut) (kept.full some) in
    let low : k.number * 10 ^ k.cut ≤ n = at_least n (k.number * 10 ^ k.cut) k.is_exact kept.exact
    kept.above in
    let part = parted w k.behind less in
    let one : 1 ≤ 10 ^ (w - k.behind) = omega (arith, raised_more 1 (w - k.behind)) in
    let more : 10 ^ k.behind * 1 ≤ 10 ^ k.behind * 10 ^ (w - k.behind) =
    mul-le-mul_left (10 ^ k.behind) one in
    let enough : 10 ^ k.behind * (10 ^ 17 * 10 ^ k.cut) ≤ 10 ^ k.behind * n =
    mul-le-mul_left (10 ^ k.behind) (omega (arith, full, low)) in
    let wide : n * 10 ^ k.behind ≤ n * 10 ^ w =
    mul-le-mul_left n (omega (arith, more, part)) in
    inr (inr (rw (lowers, ← power, split) (grind (arith, enough, wide))))
  where
    at_least : (n m : ℕ) (exact : Bool) → (exact ≡ true → n ≡ m) → (exact ≡ false → m < n) → m ≤ n
    at_least n m true is above = omega (arith, is refl)
    at_least n m false is above = omega (arith, above refl)
