-- Covered points are in range, as the tests' trait asks of its impl.
use Rattle.std.specs.Prelude.{◌≡◌, ◌&&◌, [], ◌∷◌, ◌≤ℤ◌}
use Rattle.std.specs.Prelude.{ℕ, zero, suc, ℤ, negsuc, Bool, true, List, int_le, T}
use Rattle.std.proofs.Common.{refl, sym, subst}
use Rattle.std.proofs.lemmas.Bool.{and_parts}
use Rattle.plane.specs.{InRange, IsCoordinate, Point, Tests.limit}
use Rattle.triangulate_run.specs.{Points.place, Points.point_in, Sheet.IsCovered, Sheet.points_of}
use Rattle.triangulate_run.specs.{declared.points.SheetPoint.SheetPoint, declared.sheet.Sheet.Sheet}
use Rattle.triangulate_run.specs.declared.sheet.Sheet.TheVariants.{B, G, L, R, X}

abbrev is_coordinate : ℤ → Bool
is_coordinate z = int_le (negsuc 536870911) z && int_le z limit

abbrev are_in_range : List SheetPoint → Bool
are_in_range [] = true
are_in_range (s ∷ points) =
    (is_coordinate (place s).x && is_coordinate (place s).y) && are_in_range points

at_most : (a b : ℤ) → int_le a b ≡ true → a ≤ℤ b
at_most a b e = record { le = subst T (sym e) tt }

coordinate : (z : ℤ) → is_coordinate z ≡ true → IsCoordinate z
coordinate z e = let both = and_parts (int_le (negsuc 536870911) z) (int_le z limit) e in
    record { low = at_most (negsuc 536870911) z both.0; high = at_most z limit both.1 }

-- the points past a list's end too, so no bound is asked
in_range : (points : List SheetPoint) → are_in_range points ≡ true → (i : ℕ)
    → InRange (point_in points i)
in_range [] e i = record {
  x = record { low = record { le = tt }; high = record { le = tt } };
  y = record { low = record { le = tt }; high = record { le = tt } };
}
in_range (s ∷ points) e zero =
    let here = (and_parts (is_coordinate (place s).x && is_coordinate (place s).y)
    (are_in_range points) e).0 in
    let both = and_parts (is_coordinate (place s).x) (is_coordinate (place s).y) here in
    record { x = coordinate (place s).x both.0; y = coordinate (place s).y both.1 }
in_range (s ∷ points) e (suc i) = in_range points
    (and_parts (is_coordinate (place s).x && is_coordinate (place s).y) (are_in_range points) e).1 i

sheet_in_range : (s : Sheet) → are_in_range (points_of s) ≡ true
unfolding points_of
sheet_in_range G = refl
sheet_in_range B = refl
sheet_in_range R = refl
sheet_in_range L = refl
sheet_in_range X = refl

-- each point that a sheet covers is in range
pub covered_in_range : (s : Sheet) (p : Point) → IsCovered s p → InRange p
covered_in_range s p h = subst InRange h.1.1 (in_range (points_of s) (sheet_in_range s) h.0)
