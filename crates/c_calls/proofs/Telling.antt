-- Answers that are told as far as there is room, one after another.
-- Notions: IsTold, IsTelling; none_told, told_more, all_told, telling_begins, telling_goes_on,
-- are_more, telling_ends.
use Rattle.std.proofs.Common.{◌≡◌, ◌∙◌, ◌<◌, ◌≤◌, ◌+◌, ◌++◌, ℕ, List, [], ◌∷◌, length, take, drop}
use Rattle.std.proofs.Common.{set, get_or, refl, sym, ap, subst, inl, inr, arith, append-nil}
use Rattle.std.proofs.Common.{append_assoc, length-take, length-append}
use Rattle.std.specs.Prelude.{if◌then◌else◌, nat_lt}
use Rattle.std.proofs.lemmas.Bool.{cases_lt}
use Rattle.std.proofs.lemmas.List.{drop_all, drop_more, length_push, set_at, set_past, take_all}
use Rattle.std.proofs.lemmas.List.{take-append-le}
use Rattle.c_calls.specs.{declared.statuses.TheConstants.TOO_SHORT, WELL, Written.Tells}

module _ {A : Type 0} where
  -- ---- a list whose first places have these answers, as far as there is room
  pub record IsTold (answers : List A) (count : ℕ) (old now : List A) : Type 0 where
    pub counted : count ≡ length answers
    pub written : now ≡ take (length old) answers ++ drop (length answers) old

  -- one more fits
  fits : (answers old : List A) (a : A) → length answers < length old
      → set (take (length old) answers ++ drop (length answers) old) (length answers) a
      ≡ take (length old) (answers ++ a ∷ []) ++ drop (length (answers ++ a ∷ [])) old
  fits answers old a h =
      let n : ℕ = length answers in
      let ys : List A = drop (n + 1) old in
      let all : take (length old) answers ≡ answers = take_all (length old) answers (omega arith) in
      let rest : drop n old ≡ get_or old n a ∷ ys = drop_more old n a h in
      let more : take (length old) (answers ++ a ∷ []) ≡ answers ++ a ∷ [] =
      take_all (length old) (answers ++ a ∷ []) (omega (arith, h, length_push answers a)) in
      ap (λ (l : List A). set (l ++ drop n old) n a) all
      ∙ ap (λ (l : List A). set (answers ++ l) n a) rest
      ∙ set_at answers (get_or old n a) ys a n refl
      ∙ sym (append_assoc answers (a ∷ []) ys)
      ∙ ap (λ (k : ℕ). (answers ++ a ∷ []) ++ drop k old) (sym (length_push answers a))
      ∙ ap (λ (l : List A). l ++ drop (length (answers ++ a ∷ [])) old) (sym more)

  -- one more has no room
  is_left_out : (answers old : List A) (a : A) → length old ≤ length answers
      → set (take (length old) answers ++ drop (length answers) old) (length answers) a
      ≡ take (length old) (answers ++ a ∷ []) ++ drop (length (answers ++ a ∷ [])) old
  is_left_out answers old a h =
      let n : ℕ = length answers in
      let front : List A = take (length old) answers in
      let none : drop n old ≡ [] = drop_all n old h in
      let none_more : drop (length (answers ++ a ∷ [])) old ≡ [] =
      drop_all (length (answers ++ a ∷ [])) old (omega (arith, h, length_push answers a)) in
      ap (λ (l : List A). set (front ++ l) n a) none
      ∙ ap (λ (l : List A). set l n a) (append-nil front)
      ∙ set_past front n a (omega (arith, h, length-take (length old) answers))
      ∙ sym (take-append-le (length old) answers (a ∷ []) h)
      ∙ sym (append-nil (take (length old) (answers ++ a ∷ [])))
      ∙ ap (λ (l : List A). take (length old) (answers ++ a ∷ []) ++ l) (sym none_more)

  -- none was told
  pub none_told : (old : List A) → IsTold [] 0 old old
  none_told old = record {
    counted = refl;
    written = sym (ap (λ (l : List A). l ++ drop 0 old) (take_all (length old) [] (omega arith)));
  }

  -- one more was
  pub told_more : (answers : List A) (count : ℕ) (old now : List A) (a : A)
      → IsTold answers count old now → IsTold (answers ++ a ∷ []) (count + 1) old (set now count a)
  told_more answers count old now a so_far = record {
    counted = ap (λ (n : ℕ). n + 1) so_far.counted ∙ sym (length_push answers a);
    written = ap (λ (l : List A). set l count a) so_far.written
        ∙ ap (λ (n : ℕ). set (take (length old) answers ++ drop (length answers) old) n a)
        so_far.counted
        ∙ elim (cases_lt (length answers) (length old)) [
          | inl room ↦ fits answers old a room
          | inr full ↦ is_left_out answers old a full
        ];
  }

  -- all were, and the status is by the room
  pub all_told : (answers : List A) (room count status : ℕ) (old new : List A) → room ≡ length old
      → IsTold answers count old new → status ≡ (if nat_lt room count then TOO_SHORT else WELL)
      → Tells answers status count old new
  all_told answers room count status old new same told ended = record {
    count = told.counted;
    written = told.written;
    ended = subst (λ (r : ℕ). status ≡ (if nat_lt r (length answers) then TOO_SHORT else WELL)) same
        (subst (λ (n : ℕ). status ≡ (if nat_lt room n then TOO_SHORT else WELL)) told.counted
        ended);
  }

  -- ---- a list of which the first elements were told, and the others are left
  pub record IsTelling (all left : List A) (count : ℕ) (old now : List A) : Type 0 where
    pub first : List A
    pub split : all ≡ first ++ left
    pub told : IsTold first count old now

  pub telling_begins : (all old : List A) → IsTelling all all 0 old old
  telling_begins all old = record { first = []; split = refl; told = none_told old }

  module _ (all left : List A) (count : ℕ) (old now : List A)
      (telling : IsTelling all left count old now) (a : A) (others : List A)
      (next : left ≡ a ∷ others) where
    pub telling_goes_on : IsTelling all others (count + 1) old (set now count a)
    telling_goes_on = record {
      first = telling.first ++ a ∷ [];
      split = telling.split ∙ ap (λ (l : List A). telling.first ++ l) next
          ∙ sym (append_assoc telling.first (a ∷ []) others);
      told = told_more telling.first count old now a telling.told;
    }

    -- there are more than were told
    pub are_more : count + 1 ≤ length all
    are_more =
        let split : length all ≡ length (telling.first ++ a ∷ others) =
        ap length (telling.split ∙ ap (λ (l : List A). telling.first ++ l) next) in
        let sum : length (telling.first ++ a ∷ others)
        ≡ length telling.first + length (a ∷ others) =
        length-append telling.first (a ∷ others) in
        let counted : count ≡ length telling.first = telling.told.counted in
        omega arith

  pub telling_ends : (all left : List A) (count : ℕ) (old now : List A) → left ≡ []
      → IsTelling all left count old now → IsTold all count old now
  telling_ends all left count old now none telling =
      subst (λ (l : List A). IsTold l count old now)
      (sym (telling.split ∙ ap (λ (l : List A). telling.first ++ l) none
      ∙ append-nil telling.first)) telling.told
