-- Digits and powers of ten.
-- Lemmas: digit_value-is, digit_taken, digit_overflows, digits_append, digits_more, raised_more,
-- long_whole, lowered_magnitude, raised_magnitude, long_digits, long_raised, short_lowered,
-- short_raised, zero_taken, power_divided, power_cancelled, too_large, ten_or_more, rounds, rounds_to_none.
use Rattle.std.proofs.Common.{◌≡◌, ◌+◌, ◌-◌, ◌*◌, ◌/◌, ◌%◌, ◌^◌, ◌<◌, ◌≤◌, [], ◌∷◌, ◌++◌, ◌∙◌}
use Rattle.std.proofs.Common.{ℕ, suc, true, false, List, length, get_or, drop, refl, sym, ap, subst}
use Rattle.std.proofs.Common.{inl, inr}
use Rattle.std.proofs.Common.{arith, add-one, add-zero, drop-cons}
use Rattle.std.specs.Char.{digit_value}
use Rattle.std.specs.Str.Parse.{digits_value, digits_value_after}
use Rattle.std.proofs.lemmas.Bool.{cases_lt}
use Rattle.std.proofs.lemmas.Bool.Decides.{nat_tests}
use Rattle.std.proofs.lemmas.Grind.{pow_more}
use Rattle.std.proofs.lemmas.Nat.{pow-add}
use Rattle.std.proofs.Math.Nat.{pow-le-pow_right, mul-div_cancel, mul-le-mul_left}
use Rattle.decimal_numbers.specs.{IsTooLong, raised_by, Spelling}
use Rattle.decimal_numbers.specs.Value.{IsMagnitude, IsRounded}

-- the value of a digit is its byte, 48 to 57, less 48
pub digit_value-is : (c : ℕ) → 48 ≤ c → c ≤ 57 → digit_value c ≡ c - 48
digit_value-is c low high = grind (arith, nat_tests)

-- one digit is taken off the front
pub digit_taken : (ds : List ℕ) (i v w total : ℕ) → i < length ds → 48 ≤ get_or ds i 0
    → get_or ds i 0 ≤ 57 → digits_value_after 10 v (drop i ds) ≡ total
    → w ≡ v * 10 + (get_or ds i 0 - 48) → digits_value_after 10 w (drop (i + 1) ds) ≡ total
digit_taken ds i v w total within low high so_far e =
    let step : w ≡ v * 10 + digit_value (get_or ds i 0) =
    e ∙ ap (λ x. v * 10 + x) (sym (digit_value-is (get_or ds i 0) low high)) in
    ap (λ x. digits_value_after 10 w (drop x ds)) (add-one i)
    ∙ ap (λ x. digits_value_after 10 x (drop (suc i) ds)) step
    ∙ ap (digits_value_after 10 v) (sym (drop-cons ds i 0 within))
    ∙ so_far

-- digits make a number no less
pub digits_more : (n : ℕ) (ds : List ℕ) → n ≤ digits_value_after 10 n ds
digits_more n [] = omega arith
digits_more n (d ∷ ds) = omega (arith, digits_more (n * 10 + digit_value d) ds)

-- one digit more, and the number does not fit
pub digit_overflows : (ds : List ℕ) (i v total : ℕ) → i < length ds
    → digits_value_after 10 v (drop i ds) ≡ total
    → 2 ^ 64 ≤ v * 10 + digit_value (get_or ds i 0) → 2 ^ 64 ≤ total
digit_overflows ds i v total within so_far large =
    let here : digits_value_after 10 (v * 10 + digit_value (get_or ds i 0)) (drop (suc i) ds)
    ≡ total = ap (digits_value_after 10 v) (sym (drop-cons ds i 0 within)) ∙ so_far in
    let more = digits_more (v * 10 + digit_value (get_or ds i 0)) (drop (suc i) ds) in
    omega (arith, here, more, large)

-- digits of two lists, one after the other
pub digits_append : (n : ℕ) (xs ys : List ℕ)
    → digits_value_after 10 (digits_value_after 10 n xs) ys ≡ digits_value_after 10 n (xs ++ ys)
digits_append n [] ys = refl
digits_append n (x ∷ xs) ys = digits_append (n * 10 + digit_value x) xs ys

-- a power of ten makes a number no less
pub raised_more : (n k : ℕ) → n ≤ n * 10 ^ k
raised_more n k =
    let low : 0 ≤ k = omega arith in
    let one : 10 ^ 0 ≤ 10 ^ k = pow-le-pow_right (omega arith) low in
    let times : n * 10 ^ 0 ≤ n * 10 ^ k = mul-le-mul_left n one in omega (arith, times)

-- the digits before the point do not fit, and so all digits do not
pub long_whole : (whole fraction : List ℕ) (k : ℕ) → 2 ^ 64 ≤ digits_value_after 10 0 whole
    → 2 ^ 64 ≤ digits_value 10 (whole ++ fraction) * 10 ^ k
long_whole whole fraction k large =
    let all = digits_append 0 whole fraction in
    let more = digits_more (digits_value_after 10 0 whole) fraction in
    let raised = raised_more (digits_value_after 10 0 (whole ++ fraction)) k in
    omega (arith, all, more, raised, large)

-- a number whose power lowers it
same_lowered : (x y k : ℕ) → x ≡ y → x * 10 ^ k ≡ y * 10 ^ 0 * 10 ^ k
same_lowered x y k e = rw e (omega arith)

pub lowered_magnitude : (p : Spelling) (m d : ℕ) → p.lowers ≡ true
    → m ≡ digits_value_after 10 (digits_value_after 10 0 p.whole) p.fraction
    → d ≡ length p.fraction + digits_value 10 p.power → IsMagnitude p m d
lowered_magnitude p m d lowers e digits =
    rw (lowers, digits) (same_lowered m (digits_value 10 (p.whole ++ p.fraction))
    (length p.fraction + digits_value 10 p.power) (e ∙ digits_append 0 p.whole p.fraction))

-- one whose power raises it
same_raised : (x y k n : ℕ) → x ≡ y → x * 10 ^ n * 10 ^ (k + 0) ≡ y * 10 ^ n * 10 ^ k
same_raised x y k n e = rw (e, add-zero) refl

pub raised_magnitude : (p : Spelling) (n m d : ℕ) → p.lowers ≡ false
    → n ≡ digits_value_after 10 (digits_value_after 10 0 p.whole) p.fraction
    → m ≡ n * 10 ^ digits_value 10 p.power → d ≡ length p.fraction → IsMagnitude p m d
raised_magnitude p n m d lowers e raised digits =
    rw (lowers, digits, raised) (same_raised n (digits_value 10 (p.whole ++ p.fraction))
    (length p.fraction) (digits_value 10 p.power) (e ∙ digits_append 0 p.whole p.fraction))

-- the digits as one whole number do not fit, or do not once they are raised
pub long_digits : (p : Spelling)
    → 2 ^ 64 ≤ digits_value_after 10 (digits_value_after 10 0 p.whole) p.fraction → IsTooLong p
long_digits p large =
    let all = digits_append 0 p.whole p.fraction in
    inl (omega (
      arith,
      all,
      large,
      raised_more (digits_value 10 (p.whole ++ p.fraction))
          (raised_by p),
    ))

pub long_raised : (p : Spelling) (n : ℕ) → p.lowers ≡ false
    → n ≡ digits_value_after 10 (digits_value_after 10 0 p.whole) p.fraction
    → 2 ^ 64 ≤ n * 10 ^ digits_value 10 p.power → IsTooLong p
long_raised p n lowers e large =
    let all : n ≡ digits_value 10 (p.whole ++ p.fraction) =
    e ∙ digits_append 0 p.whole p.fraction in
    inl (rw lowers (subst (λ (x : ℕ). 2 ^ 64 ≤ x * 10 ^ digits_value 10 p.power) all large))

-- a number that fits, and whose powers of ten are low enough, is not too long
pub short_lowered : (p : Spelling) (n : ℕ) → p.lowers ≡ true
    → n ≡ digits_value_after 10 (digits_value_after 10 0 p.whole) p.fraction → n < 2 ^ 64
    → length p.fraction ≤ 400 → digits_value 10 p.power ≤ 400 → IsTooLong p → ⊥
short_lowered p n lowers e fits few low (inl large) =
    let all = digits_append 0 p.whole p.fraction in
    let same = rw lowers at large in omega (arith, all, e, fits, same)
short_lowered p n lowers e fits few low (inr (inl many)) = omega (arith, few, many)
short_lowered p n lowers e fits few low (inr (inr high)) = omega (arith, low, high)

pub short_raised : (p : Spelling) (n m : ℕ) → p.lowers ≡ false
    → n ≡ digits_value_after 10 (digits_value_after 10 0 p.whole) p.fraction
    → m ≡ n * 10 ^ digits_value 10 p.power → m < 2 ^ 64 → length p.fraction ≤ 400
    → digits_value 10 p.power ≤ 400 → IsTooLong p → ⊥
short_raised p n m lowers e raised fits few low (inl large) =
    let all : digits_value 10 (p.whole ++ p.fraction) ≡ n =
    sym (e ∙ digits_append 0 p.whole p.fraction) in
    let same = rw lowers at large in
    let here = subst (λ (x : ℕ). 2 ^ 64 ≤ x * 10 ^ digits_value 10 p.power) all same in
    omega (arith, raised, fits, here)
short_raised p n m lowers e raised fits few low (inr (inl many)) = omega (arith, few, many)
short_raised p n m lowers e raised fits few low (inr (inr high)) = omega (arith, low, high)

-- a last zero behind the point is taken off
pub zero_taken : (m d n e : ℕ) → n * 10 ^ d ≡ m * 10 ^ e → 0 < e → n % 10 ≡ 0
    → n / 10 * 10 ^ d ≡ m * 10 ^ (e - 1)
zero_taken m d n e same some zero =
    let whole : n ≡ n / 10 * 10 = omega arith in
    let more : 10 ^ e ≡ 10 ^ (e - 1) * 10 =
    let back : e ≡ e - 1 + 1 = omega arith in ap (λ x. 10 ^ x) back ∙ pow_more 10 (e - 1) in
    tenfold (n / 10 * 10 ^ d) (m * 10 ^ (e - 1)) (
    let left : n / 10 * 10 * 10 ^ d ≡ m * (10 ^ (e - 1) * 10) =
    ap (λ x. x * 10 ^ d) (sym whole) ∙ same ∙ ap (λ x. m * x) more in
    omega (arith, left))
  where
    tenfold : (x y : ℕ) → x * 10 ≡ y * 10 → x ≡ y
    tenfold x y h = omega arith

-- a power of ten that was multiplied in
pub power_divided : (m d p u : ℕ) → d ≤ p → u ≡ m * 10 ^ (p - d) → u * 10 ^ d ≡ m * 10 ^ p
power_divided m d p u h e =
    let whole : p ≡ p - d + d = omega arith in
    let split : 10 ^ p ≡ 10 ^ (p - d) * 10 ^ d = ap (λ x. 10 ^ x) whole ∙ pow-add 10 (p - d) d in
    rw e (rw split (omega arith))

-- and it is multiplied in in one way
pub power_cancelled : (m d p u : ℕ) → d ≤ p → u * 10 ^ d ≡ m * 10 ^ p → u ≡ m * 10 ^ (p - d)
power_cancelled m d p u h e =
    let back = power_divided m d p (m * 10 ^ (p - d)) h refl in
    let some : 0 < 10 ^ d = omega (arith, raised_more 1 d) in
    let left : u * 10 ^ d / 10 ^ d ≡ u = mul-div_cancel u some in
    let right : m * 10 ^ (p - d) * 10 ^ d / 10 ^ d ≡ m * 10 ^ (p - d) =
    mul-div_cancel (m * 10 ^ (p - d)) some in
    sym left ∙ ap (λ x. x / 10 ^ d) (e ∙ sym back) ∙ right

-- what does not fit at one power of ten does not at a higher one
pub too_large : (n v i p : ℕ) → v ≡ n * 10 ^ i → i < p → ¬ (v * 10 < 2 ^ 64)
    → 2 ^ 64 ≤ n * 10 ^ p
too_large n v i p e h unfit =
    let large : 2 ^ 64 ≤ v * 10 = elim (cases_lt (v * 10) (2 ^ 64)) [
      | inl low ↦ absurd (unfit low)
      | inr high ↦ high
    ] in
    let low : i + 1 ≤ p = omega arith in
    let more : 10 ^ (i + 1) ≤ 10 ^ p = pow-le-pow_right (omega arith) low in
    let times : n * 10 ^ (i + 1) ≤ n * 10 ^ p = mul-le-mul_left n more in
    let step : n * 10 ^ (i + 1) ≡ n * (10 ^ i * 10) = ap (λ x. n * x) (pow_more 10 i) in
    omega (arith, times, step, large, e)

-- a power of ten but the first is ten or more
pub ten_or_more : (u k : ℕ) → u ≡ 1 * 10 ^ k → 0 < k → 10 ≤ u
ten_or_more u k e some =
    let low : 1 ≤ k = omega arith in
    let more : 10 ^ 1 ≤ 10 ^ k = pow-le-pow_right (omega arith) low in
    omega (arith, more, e)

-- the nearest number of units is a rounded number
pub rounds : (m d k u q : ℕ) → k < d → u ≡ 1 * 10 ^ (d - k) → 2 * m ≤ (2 * q + 1) * u
    → 2 * q * u ≤ 2 * m + u → IsRounded m d k q k
rounds m d k u q less e above below =
    let same : 10 ^ (d - k) ≡ u = omega (arith, e) in
    record {
      same = λ h. absurd (omega (arith, h, less));
      fewer = λ h. refl;
      above = λ h. rw same above;
      below = λ h. rw same below;
    }

-- a unit that does not fit is more than twice the number
pub rounds_to_none : (m d k : ℕ) → m < 2 ^ 64 → k < d → 2 ^ 64 ≤ 1 * 10 ^ (d - k)
    → IsRounded m d k 0 k
rounds_to_none m d k small less large =
    let far : 20 ≤ d - k = far_apart (d - k) large in
    let more : 10 ^ 20 ≤ 10 ^ (d - k) = pow-le-pow_right (omega arith) far in
    record {
      same = λ h. absurd (omega (arith, h, less));
      fewer = λ h. refl;
      above = λ h. omega (arith, more, small);
      below = λ h. omega arith;
    }
  where
    far_apart : (n : ℕ) → 2 ^ 64 ≤ 1 * 10 ^ n → 20 ≤ n
    far_apart n h = elim (cases_lt n 20) [
      | inr low ↦ low
      | inl less ↦ (let low : n ≤ 19 = omega arith in
          let most : 10 ^ n ≤ 10 ^ 19 = pow-le-pow_right (omega arith) low in
          absurd (omega (arith, most, h)))
    ]
