-- What C is told of the disks of faces.
use Rattle.std.specs.Prelude.{◌≡◌, ◌⊎◌, ℕ, ℤ, pos, negsuc, true, false, List, length}
use Rattle.std.specs.Prelude.{Option, Some, None, slice_get, IsSomeAnd, if◌then◌else◌}
use Rattle.std.specs.Ordering.{int_eq}
use Rattle.{delaunay_legalization.specs.point_at, plane.specs.Triangulation}
use Rattle.exact_predicates.specs.{Sides, TellsDisk}
use Rattle.c_calls.specs.{declared.raw.RawBox.RawBox, Written.Listing}

-- a side of C's, or none at this end of the numbers
abbrev pub raw_side : ℤ → ℤ → Option ℤ
raw_side nowhere at = if int_eq at nowhere then None else Some at

-- the sides of a box of C's
abbrev pub raw_sides : RawBox → Sides
raw_sides b = record {
  left = raw_side (negsuc 2147483647) b.left;
  bottom = raw_side (negsuc 2147483647) b.bottom;
  right = raw_side (pos 2147483647) b.right;
  top = raw_side (pos 2147483647) b.top;
}

-- the flag of the face at a place: 0 where the closed disk of its circle stays within the sides,
-- and 1 where it passes one
abbrev pub IsFlagAt : Triangulation → Sides → ℕ → ℕ → Type 0
IsFlagAt t s k flag = IsSomeAnd (slice_get t.faces k)
    (λ f. ((flag ≡ 0) × TellsDisk s (point_at t.points f.a) (point_at t.points f.b)
    (point_at t.points f.c) true) ⊎ ((flag ≡ 1) × TellsDisk s (point_at t.points f.a)
    (point_at t.points f.b) (point_at t.points f.c) false))

-- the flag of each face is listed
abbrev pub ListsBeyond : Triangulation → RawBox → ℕ → ℕ → List ℕ → List ℕ → Type 0
ListsBeyond t b status told old new =
    Listing (IsFlagAt t (raw_sides b)) (length t.faces) status told old new
