-- The data of a face behind the outer one, which is the first.
use Rattle.std.proofs.Common.{◌≡◌, ℕ, suc, ◌<◌, List, ◌∷◌, length, get_or, Some, refl}
use Rattle.std.specs.Prelude.{slice_get, slice_set}
use Rattle.std.proofs.lemmas.Option.{slice_get_read}
use Rattle.half_edge_dcel.specs.{Contents, with_face}

-- what is read behind a first item
pub slice_get_behind : {X : Type 0} (o : X) (xs : List X) (i k : ℕ) (x : X) → suc k ≡ i
    → k < length xs → x ≡ get_or xs k x → slice_get (o ∷ xs) i ≡ Some x
slice_get_behind o xs i k x next within read =
    rw (← next) (slice_get_read xs _ k x refl within read)

-- other data of an inner face
pub with_face_behind : {V D U F : Type 0} (d : Contents V D U F) (f k : ℕ) (w : F) → suc k ≡ f
    → record d { faces = slice_set d.faces k w } ≡ with_face d f w
with_face_behind d f k w next = rw (← next) refl
