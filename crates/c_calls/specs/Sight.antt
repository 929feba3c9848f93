-- What C is told of lines of sight.
use Rattle.std.specs.Prelude.{◌≡◌, ◌≢◌, ◌⊎◌, ◌-◌, ◌==◌, if◌then◌else◌, ℕ, List, length}
use Rattle.std.specs.Prelude.{Bool, false, not, nat_eq, slice_index_or}
use Rattle.{plane.specs.Triangulation, plane.specs.whole, plane_theorems.specs.IsInSight}
use Rattle.c_calls.specs.{declared.raw.RawPoint.RawPoint, Queries.MayAskLine, Written.plain_point}
use Rattle.c_calls.specs.declared.statuses.TheConstants.{TOO_LARGE, UNEQUAL_LENGTHS, WELL}

-- the byte at a place of a list is there, and not 0
abbrev pub is_marked : List ℕ → ℕ → Bool
is_marked bytes k = not (nat_eq (slice_index_or bytes k 0) 0)

-- a face is free by the bytes of the inner faces: that of face 1 comes first
abbrev pub is_free_face : List ℕ → ℕ → Bool
is_free_face bytes f = if f == 0 then false else is_marked bytes (f - 1)

-- the segment stays in free faces, or it does not, and that is told
abbrev pub TellsSight : Triangulation → RawPoint → RawPoint → List ℕ → ℕ → Type 0
TellsSight t from to bytes seen =
    let Sees : Type 0 =
    IsInSight t (is_marked bytes) (whole (plain_point from)) (whole (plain_point to)) in
    ((seen ≡ 1) × Sees) ⊎ ((seen ≡ 0) × ¬ Sees)

-- how it ended that a line of sight was asked for
pub data FindsSight (t : Triangulation) (from to : RawPoint) (bytes : List ℕ)
    (status seen : ℕ) : Type 0 where
  sight_told : status ≡ WELL → length bytes ≡ length t.faces → MayAskLine from to
      → TellsSight t from to bytes seen → FindsSight t from to bytes status seen
  sight_unequal : status ≡ UNEQUAL_LENGTHS → length bytes ≢ length t.faces
      → FindsSight t from to bytes status seen
  sight_outside : status ≡ TOO_LARGE → ¬ MayAskLine from to
      → FindsSight t from to bytes status seen
