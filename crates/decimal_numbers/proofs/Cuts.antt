-- Digits that are cut off the end of others.
-- Lemmas: all_dropped, digits_low, digits_high, zero_passed, others_follow, wide_whole, all_digits.
use Rattle.std.proofs.Common.{◌≡◌, ◌+◌, ◌*◌, ◌^◌, ◌<◌, ◌≤◌, [], ◌∷◌, ◌++◌, ◌∙◌}
use Rattle.std.proofs.Common.{ℕ, zero, suc, List, length, get_or, drop, sym, ap}
use Rattle.std.proofs.Common.{arith, add-one, drop-cons, length-drop}
use Rattle.std.specs.Char.{digit_value}
use Rattle.std.specs.Str.Parse.{AllDigits, digits_value, digits_value_after}
use Rattle.std.proofs.lemmas.Grind.{pow_more}
use Rattle.std.proofs.lemmas.Nat.{pow-add}
use Rattle.std.proofs.Math.Nat.{mul-le-mul_left}
use Rattle.decimal_numbers.proofs.Powers.{digit_value-is, digits_append, digits_more, raised_more}

-- digits stay digits without their first ones
pub all_dropped : (ds : List ℕ) (i : ℕ) → AllDigits 10 ds → AllDigits 10 (drop i ds)
all_dropped ds zero all = all
all_dropped [] (suc i) all = tt
all_dropped (d ∷ ds) (suc i) all = all_dropped ds i all.1

-- digits behind a number make it at least as much as zeros would
pub digits_low : (n : ℕ) (ds : List ℕ) → n * 10 ^ length ds ≤ digits_value_after 10 n ds
digits_low n [] = omega arith
digits_low n (d ∷ ds) =
    let rest = digits_low (n * 10 + digit_value d) ds in
    let more : 10 ^ suc (length ds) ≡ 10 ^ length ds * 10 =
    ap (λ x. 10 ^ x) (sym (add-one (length ds))) ∙ pow_more 10 (length ds) in
    rw more (grind (arith, rest))

-- and less than zeros would make the next number
pub digits_high : (n : ℕ) (ds : List ℕ) → AllDigits 10 ds
    → digits_value_after 10 n ds < (n + 1) * 10 ^ length ds
digits_high n [] all = omega arith
digits_high n (d ∷ ds) all =
    let rest = digits_high (n * 10 + digit_value d) ds all.1 in
    let some : n * 10 + digit_value d + 1 ≤ (n + 1) * 10 = omega (arith, all.0) in
    let times : 10 ^ length ds * (n * 10 + digit_value d + 1) ≤ 10 ^ length ds * ((n + 1) * 10) =
    mul-le-mul_left (10 ^ length ds) some in
    let more : 10 ^ suc (length ds) ≡ 10 ^ length ds * 10 =
    ap (λ x. 10 ^ x) (sym (add-one (length ds))) ∙ pow_more 10 (length ds) in
    rw more (grind (arith, rest, times))

-- a zero is passed
pub zero_passed : (ds : List ℕ) (i n : ℕ) → i < length ds → get_or ds i 0 ≡ 48
    → digits_value_after 10 n ds ≡ digits_value_after 10 (n * 10 ^ i) (drop i ds)
    → digits_value_after 10 n ds ≡ digits_value_after 10 (n * 10 ^ (i + 1)) (drop (i + 1) ds)
zero_passed ds i n within zeroth so_far =
    let value : digit_value (get_or ds i 0) ≡ 0 =
    digit_value-is (get_or ds i 0) (omega (arith, zeroth)) (omega (arith, zeroth))
    ∙ omega (arith, zeroth) in
    let step : n * 10 ^ i * 10 + digit_value (get_or ds i 0) ≡ n * 10 ^ (i + 1) =
    let more = pow_more 10 i in rw more (omega (arith, value)) in
    so_far ∙ ap (digits_value_after 10 (n * 10 ^ i)) (drop-cons ds i 0 within)
    ∙ ap (λ x. digits_value_after 10 x (drop (suc i) ds)) step
    ∙ ap (λ x. digits_value_after 10 (n * 10 ^ (i + 1)) (drop x ds)) (sym (add-one i))

-- a digit that is no zero makes a number more
pub others_follow : (ds : List ℕ) (i n : ℕ) → i < length ds → 48 < get_or ds i 0
    → get_or ds i 0 ≤ 57
    → digits_value_after 10 n ds ≡ digits_value_after 10 (n * 10 ^ i) (drop i ds)
    → n * 10 ^ length ds < digits_value_after 10 n ds
others_follow ds i n within more most so_far =
    let here = so_far ∙ ap (digits_value_after 10 (n * 10 ^ i)) (drop-cons ds i 0 within) in
    let value = digit_value-is (get_or ds i 0) (omega (arith, more)) most in
    let left = drop (suc i) ds in
    let low = digits_low (n * 10 ^ i * 10 + digit_value (get_or ds i 0)) left in
    let count : length ds ≡ i + 1 + length left = omega (arith, length-drop (suc i) ds, within) in
    let powers : 10 ^ length ds ≡ 10 ^ i * 10 * 10 ^ length left =
    ap (λ x. 10 ^ x) count ∙ pow-add 10 (i + 1) (length left)
    ∙ ap (λ x. x * 10 ^ length left) (pow_more 10 i) in
    let some : 0 < 10 ^ length left = omega (arith, raised_more 1 (length left)) in
    let one : 1 ≤ digit_value (get_or ds i 0) = omega (arith, value, more) in
    let times : 10 ^ length left * 1 ≤ 10 ^ length left * digit_value (get_or ds i 0) =
    mul-le-mul_left (10 ^ length left) one in
    rw powers (rw here (grind (arith, low, times, some)))

-- digits before the point that leave some over
pub wide_whole : (whole fraction rest : List ℕ) (n : ℕ)
    → digits_value_after 10 n rest ≡ digits_value_after 10 0 whole → 10 ^ 17 ≤ n
    → 10 ^ 17 * 10 ^ length fraction ≤ digits_value 10 (whole ++ fraction)
wide_whole whole fraction rest n same full =
    let more = digits_more n rest in
    let large : 10 ^ 17 ≤ digits_value_after 10 0 whole = omega (arith, more, same, full) in
    let low = digits_low (digits_value_after 10 0 whole) fraction in
    let times : 10 ^ length fraction * 10 ^ 17
    ≤ 10 ^ length fraction * digits_value_after 10 0 whole =
    mul-le-mul_left (10 ^ length fraction) large in
    rw (← digits_append 0 whole fraction) (grind (arith, low, times))

-- the number of all digits, of which the first are one that the last follow
pub all_digits : (whole fraction rest cut : List ℕ) (n k : ℕ) → rest ≡ []
    → digits_value_after 10 n rest ≡ digits_value_after 10 0 whole
    → digits_value_after 10 k cut ≡ digits_value_after 10 n fraction
    → digits_value 10 (whole ++ fraction) ≡ digits_value_after 10 k cut
all_digits whole fraction rest cut n k none first second =
    let whole_is : n ≡ digits_value_after 10 0 whole =
    ap (digits_value_after 10 n) (sym none) ∙ first in
    sym (second ∙ ap (λ x. digits_value_after 10 x fraction) whole_is
    ∙ digits_append 0 whole fraction)
