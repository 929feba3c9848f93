-- The squared distance of points in range fits its width.
-- Lemmas: square_fits, squares_fit.
use Rattle.std.proofs.Common.{◌≡◌, ◌≤◌, arith, w32, w64, to_z, of_z}
use Rattle.std.specs.Prelude.{ℤ, ◌+ℤ◌, ◌-ℤ◌, ◌*ℤ◌, unsigned_abs}
use Rattle.std.specs.Int.RustNames.{FitsSigned}
use Rattle.std.proofs.lemmas.Int.{ints, fits_signed_from_abs}
use Rattle.{delaunay_core.proofs.Projections.product_bound, plane.specs.IsCoordinate}

-- a number that was passed on
abbrev kept : ℤ → ℤ
kept z = to_z w64 (of_z w64 z)

-- the way from x to r, of numbers that were passed on
abbrev vector : ℤ → ℤ → ℤ
vector r x = kept (kept r -ℤ kept x)

-- the bound of a way where r is the coordinate a, read from 32 bits
vector_bound : (a r x : ℤ) → IsCoordinate a → r ≡ to_z w32 (of_z w32 a) → IsCoordinate x
    → unsigned_abs (vector r x) ≤ 1073741824
vector_bound a r x h e k = omega (arith, ints)

-- and its square
square_bound : (a r x : ℤ) → IsCoordinate a → r ≡ to_z w32 (of_z w32 a) → IsCoordinate x
    → unsigned_abs (vector r x *ℤ vector r x) ≤ 1152921504606846976
square_bound a r x h e k =
    product_bound (vector r x) (vector r x) (vector_bound a r x h e k) (vector_bound a r x h e k)

-- the sum of two numbers of absolute value at most 2^60
sum_fits : (a b : ℤ) → unsigned_abs a ≤ 1152921504606846976
    → unsigned_abs b ≤ 1152921504606846976 → FitsSigned w64 (kept a +ℤ kept b)
sum_fits a b h k = fits_signed_from_abs w64 (kept a +ℤ kept b) (omega (arith, ints))

-- the square of the way to a coordinate
pub square_fits : (a r x : ℤ) → IsCoordinate a → r ≡ to_z w32 (of_z w32 a) → IsCoordinate x
    → FitsSigned w64 (vector r x *ℤ vector r x)
square_fits a r x h e k =
    let bound = square_bound a r x h e k in
    fits_signed_from_abs w64 (vector r x *ℤ vector r x) (omega (arith, bound))

-- the sum of two such squares
pub squares_fit : (a r x b s y : ℤ) → IsCoordinate a → r ≡ to_z w32 (of_z w32 a) → IsCoordinate x
    → IsCoordinate b → s ≡ to_z w32 (of_z w32 b) → IsCoordinate y
    → FitsSigned w64 (kept (vector r x *ℤ vector r x) +ℤ kept (vector s y *ℤ vector s y))
squares_fit a r x b s y h e k i f l =
    sum_fits (vector r x *ℤ vector r x) (vector s y *ℤ vector s y)
    (square_bound a r x h e k) (square_bound b s y i f l)
