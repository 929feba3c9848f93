-- What C is told of the faces that ways join.
use Rattle.std.specs.Prelude.{◌≡◌, ◌≢◌, ◌+◌, ◌<◌, ℕ, List, length, Option, None, Some}
use Rattle.plane.specs.{Triangulation}
use Rattle.{delaunay_ways.specs.label_at, delaunay_ways.specs.Parts.AreLabels}
use Rattle.c_calls.specs.{Sight.is_marked, Written.Answered}
use Rattle.c_calls.specs.declared.statuses.TheConstants.{NONE, OUT_OF_MEMORY, TOO_SHORT}
use Rattle.c_calls.specs.declared.statuses.TheConstants.{UNEQUAL_LENGTHS, WELL}

-- a label, for C
abbrev pub raw_label : Option ℕ → ℕ
raw_label None = NONE
raw_label (Some l) = l

-- the label of the face at a place of C's list, which leaves out the outer face
abbrev pub IsLabelAt : List (Option ℕ) → ℕ → ℕ → Type 0
IsLabelAt labels k n = n ≡ raw_label (label_at labels (k + 1))

-- how it ended that the label of each face was to be listed
pub data ListsLabels (t : Triangulation) (bytes : List ℕ) (status was told : ℕ)
    (old new : List ℕ) : Type 0 where
  labels_listed : length bytes ≡ length t.faces → (labels : List (Option ℕ))
      → AreLabels t (is_marked bytes) labels → status ≡ WELL → told ≡ length t.faces
      → Answered (IsLabelAt labels) (length t.faces) old new
      → ListsLabels t bytes status was told old new
  labels_unequal : status ≡ UNEQUAL_LENGTHS → length bytes ≢ length t.faces → told ≡ was
      → new ≡ old → ListsLabels t bytes status was told old new
  labels_too_long : status ≡ TOO_SHORT → length old < length t.faces → told ≡ length t.faces
      → new ≡ old → ListsLabels t bytes status was told old new
  labels_refused : status ≡ OUT_OF_MEMORY → told ≡ length t.faces → new ≡ old
      → ListsLabels t bytes status was told old new
