-- Which faces are wide, as C is told of it.
-- Lemmas: wide_told, flags_told.
use Rattle.std.proofs.Common.{◌≡◌, ◌<◌, ◌+◌, ℕ, ℤ, Bool, List, length, sym, subst, inl, inr}
use Rattle.std.specs.Prelude.{IfOk, IsTrue, Ok, Err, Result, false, slice_index_or}
use Rattle.std.specs.Prelude.{Option, None, Some, IsSomeAnd, slice_get}
use Rattle.{delaunay_ways.specs.AreWide, plane.specs.Triangulation}
use Rattle.c_calls.specs.{Answered, is_free_face, is_marked, Wide.IsFlagOf, Wide.IsWideFlag}
use Rattle.{c_calls.proofs.Seen.free_by_place, delaunay_shapes.specs.by_place}

-- wide faces by any name of the free ones
wide_same : (t : Triangulation) (f g : ℕ → Bool) → ((n : ℕ) → f n ≡ g n) → (width_2 : ℤ)
    → (wide : ℕ → Bool) → AreWide t f width_2 wide → AreWide t g width_2 wide
wide_same t f g same width_2 wide are = record {
  told = λ n. (
    λ told. let is = (are.told n).0 told in (is.0, subst IsTrue (same n) is.1, is.2),
    λ is. (are.told n).1 (is.0, subst IsTrue (sym (same n)) is.1, is.2),
  );
}

-- those that were found, where the number that was given is the squared width
pub wide_told : {W E : Type 0} (flags : W → List Bool) (bytes : List ℕ) (given width_2 : ℤ)
    → given ≡ width_2 → (s t : Triangulation) → s ≡ t → (r : Result W E)
    → IfOk r (λ w. AreWide s (by_place (is_free_face bytes)) given
    (by_place (λ n. slice_index_or (flags w) n false)))
    → IfOk r (λ w. AreWide t (is_marked bytes) width_2
    (by_place (λ n. slice_index_or (flags w) n false)))
wide_told flags bytes given width_2 width s t law (Ok w) are =
    let wide : ℕ → Bool = by_place (λ n. slice_index_or (flags w) n false) in
    subst (λ (z : ℤ). AreWide t (is_marked bytes) z wide) width
    (subst (λ (u : Triangulation). AreWide u (is_marked bytes) given wide) law
    (wide_same s (by_place (is_free_face bytes)) (is_marked bytes) (free_by_place bytes) given
    wide are))
wide_told flags bytes given width_2 width s t law (Err e) are = are

module _ (t : Triangulation) (bytes : List ℕ) (given width_2 : ℤ) (width : given ≡ width_2)
    (wide : List Bool)
    (are : AreWide t (is_marked bytes) given (by_place (λ n. slice_index_or wide n false)))
  where
    are_wide : AreWide t (is_marked bytes) width_2 (by_place (λ n. slice_index_or wide n false))
    are_wide = subst (λ (z : ℤ). AreWide t (is_marked bytes) z
        (by_place (λ n. slice_index_or wide n false))) width are

    -- a flag
    flag_told : (k : ℕ) → k < length t.faces → (flag : ℕ) → IsFlagOf wide k flag
        → IsWideFlag t bytes width_2 k flag
    flag_told k below flag (inl one) =
        let is = (are_wide.told k).0 one.1 in inl (one.0, (is.1, is.2))
    flag_told k below flag (inr none) =
        inr (none.0, λ is. none.1 ((are_wide.told k).1 (below, is.0, is.1)))

    some_told : (k : ℕ) → k < length t.faces → (flag : Option ℕ)
        → IsSomeAnd flag (IsFlagOf wide k) → IsSomeAnd flag (IsWideFlag t bytes width_2 k)
    some_told k below (Some flag) is = flag_told k below flag is
    some_told k below None is = is

    -- the flags that were written
    pub flags_told : (old new : List ℕ) → Answered (IsFlagOf wide) (length t.faces) old new
        → Answered (IsWideFlag t bytes width_2) (length t.faces) old new
    flags_told old new told = record {
      answers = λ k below. some_told k below (slice_get new k) (told.answers k below);
      others = told.others;
    }
