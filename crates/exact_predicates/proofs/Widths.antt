-- Numbers that fit their width keep their value as they are passed on, and so do sums, differences
-- and products of them.
-- Lemmas: kept_is, multiplied, product_of, sum_of, sum_fits, sum_bound, difference_of,
-- difference_fits, difference_bound, term_of, long_difference_fits, long_difference_of,
-- wide_product_bound, wide_product, wide_product_fits, wide_product_of,
-- wide_difference_bound, twice_of, twice_bound,
-- wide_sum_of.
use Rattle.std.proofs.Common.{◌≡◌, ◌≤◌, arith, w64, to_z, of_z, mul-le-mul}
use mir.Syntax.{w128}
use Rattle.std.specs.Prelude.{ℤ, pos, ◌+ℤ◌, ◌-ℤ◌, ◌*ℤ◌, unsigned_abs}
use Rattle.std.specs.Int.RustNames.{FitsSigned}
use Rattle.std.proofs.lemmas.Int.{ints, fits_signed_from_abs, unsigned_abs-mul}
use Rattle.delaunay_core.proofs.Projections.{product_bound}

-- what 64 bits keep of a number
abbrev pub kept : ℤ → ℤ
kept z = to_z w64 (of_z w64 z)

abbrev pub kept_long : ℤ → ℤ
kept_long z = to_z w128 (of_z w128 z)

-- ---- 64 bits
-- a number of absolute value at most 2^62 keeps its value in 64 bits
pub kept_is : (z : ℤ) → unsigned_abs z ≤ 4611686018427387904 → kept z ≡ z
kept_is z h = omega (arith, ints)

-- a product of numbers of absolute value at most 2^30 keeps its value too
pub multiplied : (a b : ℤ) → unsigned_abs a ≤ 1073741824 → unsigned_abs b ≤ 1073741824
    → kept (kept a *ℤ kept b) ≡ a *ℤ b
multiplied a b h k = rw (kept_is a (omega (arith, h)), kept_is b (omega (arith, k)))
    (kept_is (a *ℤ b) (omega (arith, product_bound a b h k)))

-- a product of numbers of absolute value at most 2^30 that were kept in 64 bits is exact
pub product_of : {a b x y z : ℤ} → unsigned_abs a ≤ 1073741824 → unsigned_abs b ≤ 1073741824 → a ≡ x
    → b ≡ y → z ≡ kept a *ℤ kept b → z ≡ x *ℤ y
product_of {a = a} {b = b} h k e f g =
    let p = kept_is a (omega (arith, h)) in let q = kept_is b (omega (arith, k)) in cc

-- a sum of numbers of absolute value at most 2^60 is exact in 64 bits
pub sum_of : {a b x y : ℤ} → unsigned_abs a ≤ 1152921504606846976
    → unsigned_abs b ≤ 1152921504606846976 → a ≡ x → b ≡ y → kept (kept a +ℤ kept b) ≡ x +ℤ y
sum_of h k e f = omega (arith, ints)

-- a sum of numbers of absolute value at most 2^60 fits in 64 bits
pub sum_fits : (a b : ℤ) → unsigned_abs a ≤ 1152921504606846976
    → unsigned_abs b ≤ 1152921504606846976 → FitsSigned w64 (kept a +ℤ kept b)
sum_fits a b h k = fits_signed_from_abs w64 (kept a +ℤ kept b) (omega (arith, ints))

-- a sum of numbers of absolute value at most 2^60 has one of at most 2^61
pub sum_bound : (a b : ℤ) → unsigned_abs a ≤ 1152921504606846976 → unsigned_abs b
    ≤ 1152921504606846976 → unsigned_abs (kept (kept a +ℤ kept b)) ≤ 2305843009213693952
sum_bound a b h k = omega (arith, ints)

-- a difference of numbers of absolute value at most 2^60 is exact in 64 bits
pub difference_of : {a b x y : ℤ} → unsigned_abs a ≤ 1152921504606846976
    → unsigned_abs b ≤ 1152921504606846976 → a ≡ x → b ≡ y → kept (kept a -ℤ kept b) ≡ x -ℤ y
difference_of h k e f = omega (arith, ints)

-- a difference of numbers of absolute value at most 2^60 fits in 64 bits
pub difference_fits : (a b : ℤ) → unsigned_abs a ≤ 1152921504606846976
    → unsigned_abs b ≤ 1152921504606846976 → FitsSigned w64 (kept a -ℤ kept b)
difference_fits a b h k = fits_signed_from_abs w64 (kept a -ℤ kept b) (omega (arith, ints))

-- a difference of numbers of absolute value at most 2^60 has one of at most 2^61
pub difference_bound : (a b : ℤ) → unsigned_abs a ≤ 1152921504606846976 → unsigned_abs b
    ≤ 1152921504606846976 → unsigned_abs (kept (kept a -ℤ kept b)) ≤ 2305843009213693952
difference_bound a b h k = omega (arith, ints)

-- ---- 128 bits
-- a number of absolute value at most 2^122 keeps its value in 128 bits
pub kept_long_is : (z : ℤ) → unsigned_abs z ≤ 5316911983139663491615228241121378304 → kept_long z ≡ z
kept_long_is z h = omega (arith, ints)

-- a product of numbers of absolute value at most 2^61 has one of at most 2^122
pub long_product_bound : (a b : ℤ) → unsigned_abs a ≤ 2305843009213693952
    → unsigned_abs b ≤ 2305843009213693952
    → unsigned_abs (a *ℤ b) ≤ 5316911983139663491615228241121378304
long_product_bound a b h k = rw (unsigned_abs-mul a b) (mul-le-mul h k)

-- a product of numbers of absolute value at most 2^61 is exact in 128 bits
pub long_product : (a b : ℤ) → unsigned_abs a ≤ 2305843009213693952
    → unsigned_abs b ≤ 2305843009213693952 → kept_long (kept_long a *ℤ kept_long b) ≡ a *ℤ b
long_product a b h k = rw (kept_long_is a (omega (arith, h)), kept_long_is b (omega (arith, k)))
    (kept_long_is (a *ℤ b) (long_product_bound a b h k))

-- a product of numbers of absolute value at most 2^61 that were kept in 64 bits is exact
pub term_of : {a b x y z : ℤ} → unsigned_abs a ≤ 2305843009213693952
    → unsigned_abs b ≤ 2305843009213693952 → a ≡ x → b ≡ y → z ≡ kept a *ℤ kept b → z ≡ x *ℤ y
term_of {a = a} {b = b} h k e f g =
    let p = kept_is a (omega (arith, h)) in let q = kept_is b (omega (arith, k)) in cc

-- a difference of numbers of absolute value at most 2^122 fits in 128 bits
pub long_difference_fits : (a b : ℤ) → unsigned_abs a ≤ 5316911983139663491615228241121378304
    → unsigned_abs b ≤ 5316911983139663491615228241121378304
    → FitsSigned w128 (kept_long a -ℤ kept_long b)
long_difference_fits a b h k =
    fits_signed_from_abs w128 (kept_long a -ℤ kept_long b) (omega (arith, ints))

-- a difference of numbers of absolute value at most 2^122 is exact in 128 bits
pub long_difference_of : {a b x y : ℤ} → unsigned_abs a ≤ 5316911983139663491615228241121378304 →
    unsigned_abs b ≤ 5316911983139663491615228241121378304 → a ≡ x → b ≡ y →
    kept_long (kept_long a -ℤ kept_long b) ≡ x -ℤ y
long_difference_of h k e f = omega (arith, ints)

-- ---- numbers of 96 bits
-- a product of numbers of absolute value at most 2^32 and 2^62 is exact in 128 bits
pub wide_product_bound : (a b : ℤ) → unsigned_abs a ≤ 4294967296
    → unsigned_abs b ≤ 4611686018427387904
    → unsigned_abs (a *ℤ b) ≤ 19807040628566084398385987584
wide_product_bound a b h k = rw (unsigned_abs-mul a b) (mul-le-mul h k)

pub wide_product : (a b : ℤ) → unsigned_abs a ≤ 4294967296
    → unsigned_abs b ≤ 4611686018427387904 → kept_long (kept_long a *ℤ kept_long b) ≡ a *ℤ b
wide_product a b h k = rw (kept_long_is a (omega (arith, h)), kept_long_is b (omega (arith, k)))
    (kept_long_is (a *ℤ b) (omega (arith, wide_product_bound a b h k)))

pub wide_product_fits : (a b : ℤ) → unsigned_abs a ≤ 4294967296
    → unsigned_abs b ≤ 4611686018427387904 → FitsSigned w128 (kept_long a *ℤ kept_long b)
wide_product_fits a b h k = rw (kept_long_is a (omega (arith, h)), kept_long_is b (omega (arith, k)))
    (fits_signed_from_abs w128 (a *ℤ b) (omega (arith, wide_product_bound a b h k)))

-- such a product of numbers that were kept in 64 bits is exact
pub wide_product_of : (a b : ℤ) {z : ℤ} → unsigned_abs a ≤ 4294967296
    → unsigned_abs b ≤ 4611686018427387904 → z ≡ kept a *ℤ kept b → z ≡ a *ℤ b
wide_product_of a b h k e =
    let p = kept_is a (omega (arith, h)) in let q = kept_is b (omega (arith, k)) in cc

-- a difference of two of them has an absolute value of at most 2^95
pub wide_difference_bound : (a b : ℤ) → unsigned_abs a ≤ 19807040628566084398385987584
    → unsigned_abs b ≤ 19807040628566084398385987584
    → unsigned_abs (kept_long (kept_long a -ℤ kept_long b)) ≤ 39614081257132168796771975168
wide_difference_bound a b h k = omega (arith, ints)

-- twice a number of absolute value at most 2^61 is exact in 64 bits
pub twice_of : {a x : ℤ} → unsigned_abs a ≤ 2305843009213693952 → a ≡ x
    → kept (pos 2 *ℤ kept a) ≡ pos 2 *ℤ x
twice_of h e = omega (arith, ints)

pub twice_bound : (a : ℤ) → unsigned_abs a ≤ 2305843009213693952
    → unsigned_abs (kept (pos 2 *ℤ kept a)) ≤ 4611686018427387904
twice_bound a h = omega (arith, ints)

-- a sum of numbers of absolute value at most 2^95, one of them known by another name
pub wide_sum_of : (a b : ℤ) {r x : ℤ} → unsigned_abs a ≤ 39614081257132168796771975168
    → unsigned_abs b ≤ 19807040628566084398385987584 → r ≡ kept_long a +ℤ kept_long b → b ≡ x
    → r ≡ a +ℤ x
wide_sum_of a b h k e d = omega (arith, ints)
