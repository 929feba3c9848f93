-- What calls leave in the lists that C hands in, place by place.
-- Lemmas: get_same, get_other, none_answered, one_more, all_answered, answer_at, ranges_more.
use Rattle.std.proofs.Common.{◌≡◌, ◌≢◌, ◌∙◌, ◌<◌, ◌+◌, ℕ, zero, suc, List, [], ◌∷◌, length, drop}
use Rattle.std.proofs.Common.{set, get_or, below_more, refl, sym, ap, subst, inl, inr, arith}
use Rattle.std.specs.Prelude.{Option, Some, IsSomeAnd, slice_get}
use Rattle.std.proofs.lemmas.Bool.{cases_eq}
use Rattle.std.proofs.lemmas.List.{drop-drop, drop-set-lt, get_or_default}
use Rattle.std.proofs.lemmas.Option.{slice_get-get_or}
use Rattle.c_calls.specs.{Answered, IsAnswerAt, IsRawInRange, RawPoint}

-- what was written at a place is read there
pub get_same : {A : Type 0} (xs : List A) (i : ℕ) (a : A) → i < length xs
    → slice_get (set xs i a) i ≡ Some a
get_same [] i a h = absurd (omega (arith, h))
get_same (x ∷ xs) zero a h = refl
get_same (x ∷ xs) (suc i) a h = get_same xs i a (omega (arith, h))

-- and at another what was there
pub get_other : {A : Type 0} (xs : List A) (i k : ℕ) (a : A) → k ≢ i
    → slice_get (set xs i a) k ≡ slice_get xs k
get_other [] i k a h = refl
get_other (x ∷ xs) zero zero a h = absurd (h refl)
get_other (x ∷ xs) zero (suc k) a h = refl
get_other (x ∷ xs) (suc i) zero a h = refl
get_other (x ∷ xs) (suc i) (suc k) a h = get_other xs i k a (λ e. h (ap suc e))

-- ---- answers, one after another
-- none so far
pub none_answered : {A : Type 0} (IsAnswer : ℕ → A → Type 0) (old : List A)
    → Answered IsAnswer 0 old old
none_answered IsAnswer old =
    record { answers = λ k h. absurd (omega (arith, h)); others = refl }

-- one more
pub one_more : {A : Type 0} (IsAnswer : ℕ → A → Type 0) (i : ℕ) (old now : List A) (a : A)
    → i < length now → Answered IsAnswer i old now → IsAnswer i a
    → Answered IsAnswer (i + 1) old (set now i a)
one_more {A} IsAnswer i old now a within so_far answer = record {
  answers = λ k h. elim (cases_eq k i) [
    | inl here ↦ subst (λ (j : ℕ). IsSomeAnd (slice_get (set now i a) j) (IsAnswer j)) (sym here)
        (subst (λ (o : Option A). IsSomeAnd o (IsAnswer i)) (sym (get_same now i a within)) answer)
    | inr other ↦ subst (λ (o : Option A). IsSomeAnd o (IsAnswer k))
        (sym (get_other now i k a other)) (so_far.answers k (omega (arith, h, other)))
  ];
  others = drop-set-lt (i + 1) now i a (omega arith) ∙ sym (drop-drop 1 i now)
      ∙ ap (drop 1) so_far.others ∙ drop-drop 1 i old;
}

-- all of them
pub all_answered : {A : Type 0} (IsAnswer : ℕ → A → Type 0) (i n : ℕ) (old new : List A) → i ≡ n
    → Answered IsAnswer i old new → Answered IsAnswer n old new
all_answered IsAnswer i n old new e h = subst (λ (j : ℕ). Answered IsAnswer j old new) e h

-- an answer to the query at a place
pub answer_at : {A : Type 0} (queries : List RawPoint) (IsAnswer : RawPoint → A → Type 0) (k : ℕ)
    (d : RawPoint) (a : A) → k < length queries → IsAnswer (get_or queries k d) a
    → IsAnswerAt queries IsAnswer k a
answer_at queries IsAnswer k d a below answer = subst (λ (o : Option RawPoint).
    IsSomeAnd o (λ q. IsAnswer q a)) (sym (slice_get-get_or queries k d below)) answer

-- one more query is in range
pub ranges_more : (queries : List RawPoint) (i : ℕ) (d : RawPoint) → i < length queries
    → ((k : ℕ) → k < i → (e : RawPoint) → IsRawInRange (get_or queries k e))
    → IsRawInRange (get_or queries i d) → (k : ℕ) → k < i + 1 → (e : RawPoint)
    → IsRawInRange (get_or queries k e)
ranges_more queries i d below so_far here =
    below_more (λ k. (e : RawPoint) → IsRawInRange (get_or queries k e)) i so_far
    (λ e. subst IsRawInRange (get_or_default queries i d e below) here)
