-- The distance of a point from a circle's rim, in numbers of 64 bits.
-- Lemmas: rim_fits, rim_is.
use Rattle.std.proofs.Common.{◌≡◌, ap, rules, w64, to_z, of_z, SFits}
use Rattle.std.specs.Prelude.{ℤ, pos, ◌-ℤ◌, ◌≤ℤ◌}
use Rattle.std.proofs.lemmas.Int.{ints, to_z-of_z}

difference_fits : (d r : ℤ) → pos 0 ≤ℤ d → pos 0 ≤ℤ r → SFits w64 d → SFits w64 r
    → SFits w64 (d -ℤ r)
difference_fits d r h i a b = search (rules, ints)

-- what is left of a number that is not negative fits
pub rim_fits : (d r g : ℤ) → pos 0 ≤ℤ g → d ≡ g → SFits w64 d → pos 0 ≤ℤ r → SFits w64 r
    → SFits w64 (to_z w64 (of_z w64 d) -ℤ to_z w64 (of_z w64 r))
rim_fits d r g h e a i b =
    rw (to_z-of_z w64 d a, to_z-of_z w64 r b) (difference_fits d r (rw e h) i a b)

-- and is the difference, passed on
pub rim_is : (d r g : ℤ) → pos 0 ≤ℤ g → d ≡ g → SFits w64 d → pos 0 ≤ℤ r → SFits w64 r
    → to_z w64 (of_z w64 (to_z w64 (of_z w64 d) -ℤ to_z w64 (of_z w64 r))) ≡ g -ℤ r
rim_is d r g h e a i b =
    rw (
      to_z-of_z w64 d a,
      to_z-of_z w64 r b,
      to_z-of_z w64 (d -ℤ r) (difference_fits d r (rw e h) i a b),
    )
    (ap (λ x. x -ℤ r) e)
