-- What C is told of wide faces.
use Rattle.std.specs.Prelude.{◌≡◌, ◌≢◌, ◌⊎◌, ◌+◌, ◌<ℤ◌, ◌≤ℤ◌, ℕ, ℤ, pos, List, length}
use Rattle.std.specs.Prelude.{Bool, false, slice_index_or, IsTrue}
use Rattle.{c_calls.specs.Sight.is_marked, delaunay_ways.specs.Widths.IsWide}
use Rattle.{c_calls.specs.Written.Listing, plane.specs.Triangulation}
use Rattle.c_calls.specs.declared.statuses.TheConstants.{NEGATIVE, OUT_OF_MEMORY, UNEQUAL_LENGTHS}

-- the flag of the face at a place of C's list, which leaves out the outer face, by those of all
abbrev pub IsFlagOf : List Bool → ℕ → ℕ → Type 0
IsFlagOf wide k flag = ((flag ≡ 1) × IsTrue (slice_index_or wide (k + 1) false))
    ⊎ ((flag ≡ 0) × ¬ IsTrue (slice_index_or wide (k + 1) false))

-- the face at a place is free, and the square of each of its heights is so much or more
abbrev pub IsWideAt : Triangulation → List ℕ → ℤ → ℕ → Type 0
IsWideAt t bytes width_2 k = IsTrue (is_marked bytes k) × IsWide t width_2 k

-- 1 where it is so, and else 0
abbrev pub IsWideFlag : Triangulation → List ℕ → ℤ → ℕ → ℕ → Type 0
IsWideFlag t bytes width_2 k flag = ((flag ≡ 1) × IsWideAt t bytes width_2 k)
    ⊎ ((flag ≡ 0) × ¬ IsWideAt t bytes width_2 k)

-- how it ended that the flag of each face was to be listed
pub data ListsWide (t : Triangulation) (bytes : List ℕ) (width_2 : ℤ) (status was told : ℕ)
    (old new : List ℕ) : Type 0 where
  wide_listed : length bytes ≡ length t.faces → pos 0 ≤ℤ width_2
      → Listing (IsWideFlag t bytes width_2) (length t.faces) status told old new
      → ListsWide t bytes width_2 status was told old new
  wide_unequal : status ≡ UNEQUAL_LENGTHS → length bytes ≢ length t.faces → told ≡ was
      → new ≡ old → ListsWide t bytes width_2 status was told old new
  wide_negative : status ≡ NEGATIVE → width_2 <ℤ pos 0 → told ≡ was → new ≡ old
      → ListsWide t bytes width_2 status was told old new
  wide_refused : status ≡ OUT_OF_MEMORY → told ≡ length t.faces → new ≡ old
      → ListsWide t bytes width_2 status was told old new
