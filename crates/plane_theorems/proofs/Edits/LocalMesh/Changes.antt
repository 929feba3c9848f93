-- What follows from a change of faces and from a change of outer edges: where each face and edge
-- comes from, and totals.
-- face_from, face_kept: each new face was there or was made; each old face stays or is gone
-- IsOnce, Once: no entry is listed twice; the same as a tuple, for a list that is written out
-- once_none, once_cons: the empty list repeats no entry; nor does a list with a new first entry
-- Each, of_each, to_each: a property of each entry as a tuple; read by entries, and written by them
-- turn_of_all, corner_of_each: a property of the faces, read from each of their rotations
-- has_pair_or_not: a pair is in a list or is not
-- total_append: the sum over two lists is the sum of both sums
use Rattle.std.proofs.Common.{◌≡◌, ◌⊎◌, ◌<◌, ◌≤◌, [], ◌∷◌, ◌++◌, ◌∙◌, ℕ, zero, suc, List, length}
use Rattle.std.proofs.Common.{get_or, map, refl, sym, ap, subst, arith}
use mathlib.Core.Logic.{inl, inr, ◌≢◌}
use mathlib.Core.Bool.{Bool, true, false, ◌&&◌}
use lib.Dec.{eqb, eqb_refl}
use borrow.Author.Tests.{eqb-true}
use Rattle.std.specs.Prelude.{ℤ, pos, ◌+ℤ◌, ◌≤ℤ◌, ◌<ℤ◌, Contains, AllPairs, remove}
use Rattle.std.proofs.lemmas.Int.{ints}
use Rattle.std.proofs.lemmas.Bool.{cases_eq}
use Rattle.std.proofs.lemmas.List.Elements.{Contains-append_left, Contains-append_right}
use Rattle.std.proofs.lemmas.List.Elements.{Contains-append_cases}
use Rattle.std.proofs.lemmas.List.{length-map, get_or-map}
use Rattle.std.proofs.lemmas.List.Edits.{length-remove}
use Rattle.std.proofs.lemmas.List.Quantifiers.{all_pairs_remove}
use Rattle.plane.specs.{Face, face}
use Rattle.plane.proofs.{at_least_one_through, is_true}
use Rattle.plane_theorems.specs.{FacesChange, IsTurnFree, OuterChange, total}
use Rattle.plane_theorems.proofs.Tiling.Flows.{bit_nonneg, either, IsTurnOf, one_of_three}
use Rattle.plane_theorems.proofs.Tiling.Totals.{Contains-cases, Contains-head, Contains-later}
use Rattle.plane_theorems.proofs.Tiling.Totals.{Contains-none, get_or_any, total_at_least}
use Rattle.plane_theorems.proofs.Tiling.Totals.{total_nonneg, total_positive}

-- ---- a face of a list, counted
abbrev bit : Bool → ℤ
bit true = pos 1
bit false = pos 0

turned_and : (x y z : Bool) → (x && (y && z)) ≡ (y && (z && x))
turned_and true true true = refl
turned_and true true false = refl
turned_and true false true = refl
turned_and true false false = refl
turned_and false true true = refl
turned_and false true false = refl
turned_and false false true = refl
turned_and false false false = refl

-- 1 for the triple i j k, in this rotation alone
is_triple : ℕ → ℕ → ℕ → Face → ℤ
is_triple i j k f = bit (eqb f.a i && (eqb f.b j && eqb f.c k))

is_triple_turned : (i j k a b c : ℕ) → is_triple i j k (face a b c) ≡ is_triple j k i (face b c a)
unfolding is_triple
is_triple_turned i j k a b c = ap bit (turned_and (eqb a i) (eqb b j) (eqb c k))

is_triple_nonneg : (i j k : ℕ) (f : Face) → pos 0 ≤ℤ is_triple i j k f
unfolding is_triple
is_triple_nonneg i j k f = bit_nonneg (eqb f.a i && (eqb f.b j && eqb f.c k))

is_triple_own : (i j k : ℕ) → is_triple i j k (face i j k) ≡ pos 1
unfolding is_triple
is_triple_own i j k = λ o. bit (is_true (eqb i i) (eqb_refl i) o &&
    (is_true (eqb j j) (eqb_refl j) o && is_true (eqb k k) (eqb_refl k) o))

triple_found : (i j k : ℕ) (f : Face) → pos 0 <ℤ is_triple i j k f → f ≡ face i j k
unfolding is_triple
triple_found i j k f h = go (eqb f.a i) (eqb f.b j) (eqb f.c k) refl refl refl h
  where
    go : (x y z : Bool) → eqb f.a i ≡ x → eqb f.b j ≡ y → eqb f.c k ≡ z
        → pos 0 <ℤ bit (x && (y && z)) → f ≡ face i j k
    go true true true p q r l =
        λ o. face (eqb-true f.a i p o) (eqb-true f.b j q o) (eqb-true f.c k r o)
    go true true false p q r l = absurd l.lt
    go true false z p q r l = absurd l.lt
    go false y z p q r l = absurd l.lt

-- more than 0 for a face that is i j k, in any rotation
turns : ℕ → ℕ → ℕ → Face → ℤ
turns i j k f = is_triple i j k f +ℤ is_triple j k i f +ℤ is_triple k i j f

turns_turn_free : (i j k : ℕ) → IsTurnFree (turns i j k)
unfolding turns
turns_turn_free i j k a b c =
    let x = is_triple_turned i j k a b c in let y = is_triple_turned j k i a b c in
    let z = is_triple_turned k i j a b c in omega (arith, ints)

turns_nonneg : (i j k : ℕ) (f : Face) → pos 0 ≤ℤ turns i j k f
unfolding turns
turns_nonneg i j k f = let x = is_triple_nonneg i j k f in
    omega (arith, ints, is_triple_nonneg j k i f, is_triple_nonneg k i j f)

turns_own : (i j k : ℕ) → pos 1 ≤ℤ turns i j k (face i j k)
unfolding turns
turns_own i j k = let x = is_triple_own i j k in let y = is_triple_nonneg j k i (face i j k) in
    omega (arith, ints, is_triple_nonneg k i j (face i j k))

turn_count : (faces : List Face) (i j k : ℕ) (f : Face) → Contains faces f
    → pos 1 ≤ℤ turns i j k f → pos 1 ≤ℤ total (turns i j k) faces
turn_count faces i j k f h o = at_least_one_through (turns i j k f) _ o
    (total_at_least (turns i j k) _ (λ f _. turns_nonneg i j k f) f h)

turn_counts : (faces : List Face) (i j k : ℕ) → IsTurnOf faces i j k
    → pos 1 ≤ℤ total (turns i j k) faces
turn_counts faces i j k (inl h) = turn_count _ i j k _ h (turns_own i j k)
turn_counts faces i j k (inr (inl h)) = turn_count _ i j k _ h
    (rw (turns_turn_free i j k i j k) at (turns_own i j k))
turn_counts faces i j k (inr (inr h)) = turn_count _ i j k _ h
    (rw (turns_turn_free i j k k i j) (turns_own i j k))

turn_found : (faces : List Face) (i j k : ℕ) → pos 0 <ℤ total (turns i j k) faces
    → IsTurnOf faces i j k
unfolding turns
turn_found faces i j k h =
    let r = total_positive (turns i j k) _ h in
    go r.0 r.1 (one_of_three (is_triple i j k r.0) (is_triple j k i r.0) (is_triple k i j r.0) r.2)
  where
    go : (f : Face) → Contains faces f → (pos 0 <ℤ is_triple i j k f)
        ⊎ ((pos 0 <ℤ is_triple j k i f) ⊎ (pos 0 <ℤ is_triple k i j f)) → IsTurnOf faces i j k
    go f c (inl l) = inl (subst (Contains faces) (triple_found i j k f l) c)
    go f c (inr (inl l)) = inr (inl (subst (Contains faces) (triple_found j k i f l) c))
    go f c (inr (inr l)) = inr (inr (subst (Contains faces) (triple_found k i j f l) c))

one_of_two : (a b c d : ℤ) → a +ℤ b ≡ c +ℤ d → pos 1 ≤ℤ a → pos 0 ≤ℤ b → (pos 0 <ℤ c) ⊎ (pos 0 <ℤ d)
one_of_two a b c d e h k = either a b c d (omega (arith, ints)) e

module _ (old new gone made : List Face) (c : FacesChange old new gone made) where
  -- each new face was there or was made
  pub face_from : (i j k : ℕ) → IsTurnOf new i j k → IsTurnOf old i j k ⊎ IsTurnOf made i j k
  face_from i j k h = elim (one_of_two _ _ _ _ (c.totals (turns i j k) (turns_turn_free i j k))
      (turn_counts new i j k h) (total_nonneg (turns i j k) _ (λ f _. turns_nonneg i j k f)))
      [ inl l ↦ inl (turn_found old i j k l) | inr l ↦ inr (turn_found made i j k l) ]

  -- each old face stays or is gone
  pub face_kept : (i j k : ℕ) → IsTurnOf old i j k → IsTurnOf new i j k ⊎ IsTurnOf gone i j k
  face_kept i j k h = elim (one_of_two _ _ _ _ (sym (c.totals _ (turns_turn_free i j k)))
      (turn_counts old i j k h) (total_nonneg (turns i j k) _ (λ f _. turns_nonneg i j k f)))
      [ inl l ↦ inl (turn_found new i j k l) | inr l ↦ inr (turn_found gone i j k l) ]

-- a property of each element of a list that is written out
pub each_none : {X : Type 0} (P : X → Type 0) (x : X) → Contains [] x → P x
each_none P x h = absurd (Contains-none x h)

-- what holds of the first entry and of each later one holds of each entry
pub each : {X : Type 0} (P : X → Type 0) (a : X) (xs : List X) → P a
    → ((x : X) → Contains xs x → P x) → (x : X) → Contains (a ∷ xs) x → P x
each P a xs s rest x h = elim (Contains-cases a xs x h) [ inl e ↦ subst P e s | inr k ↦ rest x k ]

-- P holds of each entry, as a tuple for a list that is written out
abbrev pub Each : {X : Type 0} → (X → Type 0) → List X → Type 0
Each P [] = Unit {0}
Each P (x ∷ xs) = P x × Each P xs

-- read by entries
pub of_each : {X : Type 0} (P : X → Type 0) (xs : List X) → Each P xs → (x : X) → Contains xs x
    → P x
of_each P [] t = each_none P
of_each P (y ∷ ys) t = each P y ys t.0 (of_each P ys t.1)

-- and written by entries
pub to_each : {X : Type 0} (P : X → Type 0) (xs : List X) → ((x : X) → Contains xs x → P x)
    → Each P xs
to_each P [] f = tt
to_each P (x ∷ xs) f =
    (f x (Contains-head x xs), to_each P xs (λ y h. f y (Contains-later x xs y h)))

-- a property of triples that turns carry over, of each face of a list
pub turn_of_all : (faces : List Face) (P : ℕ → ℕ → ℕ → Type 0) → ((i j k : ℕ) → P i j k → P j k i)
    → ((f : Face) → Contains faces f → P f.a f.b f.c) → (i j k : ℕ) → IsTurnOf faces i j k → P i j k
turn_of_all faces P turn p i j k (inl h) = p (face i j k) h
turn_of_all faces P turn p i j k (inr (inl h)) = turn k i j (turn j k i (p (face j k i) h))
turn_of_all faces P turn p i j k (inr (inr h)) = turn k i j (p (face k i j) h)

-- of each corner of each face of a list that is written out, with the corners after it
pub corner_of_each : (faces : List Face) (P : ℕ → ℕ → ℕ → Type 0)
    → Each (λ f. P f.a f.b f.c × P f.b f.c f.a × P f.c f.a f.b) faces → (i j k : ℕ)
    → IsTurnOf faces i j k → P i j k
corner_of_each faces P t i j k h = go h
  where
    all : (f : Face) → Contains faces f → P f.a f.b f.c × P f.b f.c f.a × P f.c f.a f.b
    all = of_each (λ f. P f.a f.b f.c × P f.b f.c f.a × P f.c f.a f.b) _ t

    go : IsTurnOf faces i j k → P i j k
    go (inl h) = (all _ h).0
    go (inr (inl h)) = (all _ h).2
    go (inr (inr h)) = (all _ h).1

-- ---- lists without repetition
module _ {X : Type 0} where
  -- what is in the one list is in the other
  abbrev pub AreAmong : List X → List X → Type 0
  AreAmong xs ys = (x : X) → Contains xs x → Contains ys x

  -- nothing is in both lists
  abbrev pub ShareNone : List X → List X → Type 0
  ShareNone xs ys = (x : X) → Contains xs x → ¬ Contains ys x

  total_without : (f : X → ℤ) (xs : List X) (k : ℕ) (d : X) → k < length xs
      → total f xs ≡ f (get_or xs k d) +ℤ total f (remove xs k)
  total_without f [] k d h = absurd (omega arith)
  total_without f (x ∷ xs) zero d h = refl
  total_without f (x ∷ xs) (suc k) d h = omega (arith, ints, total_without f xs k d (omega arith))

  stays : (xs : List X) (k : ℕ) (x y : X) → k < length xs → get_or xs k x ≡ x → Contains xs y
      → y ≢ x → Contains (remove xs k) y
  stays [] k x y h e c n = absurd (omega arith)
  stays (z ∷ xs) zero x y h e c n =
      elim (Contains-cases z xs y c) [ inl o ↦ absurd (n (sym o ∙ e)) | inr o ↦ o ]
  stays (z ∷ xs) (suc k) x y h e c n = elim (Contains-cases z xs y c) [
    | inl o ↦ subst (Contains (z ∷ remove xs k)) o (Contains-head z (remove xs k))
    | inr o ↦ Contains-later z (remove xs k) y (stays xs k x y (omega arith) e o n)
  ]

  -- a list has what it has without one place
  was : (xs : List X) (k : ℕ) (y : X) → k < length xs → Contains (remove xs k) y → Contains xs y
  was [] k y h c = absurd (omega arith)
  was (z ∷ xs) zero y h c = Contains-later z xs y c
  was (z ∷ xs) (suc k) y h c = elim (Contains-cases z (remove xs k) y c) [
    | inl o ↦ subst (Contains (z ∷ xs)) o (Contains-head z xs)
    | inr o ↦ Contains-later z xs y (was xs k y (omega arith) o)
  ]

  -- no entry is there twice
  abbrev pub IsOnce : List X → Type 0
  IsOnce xs = AllPairs (λ d e. d ≢ e) xs

  -- the rest of a list without repetition has none
  pub once_tail : (x : X) (xs : List X) → IsOnce (x ∷ xs) → IsOnce xs
  once_tail x xs o k l d h i = o (suc k) (suc l) d (omega arith) (omega arith)

  -- the first entry of a list without repetition is not in the rest
  pub once_head : (x : X) (xs : List X) → IsOnce (x ∷ xs) → ¬ Contains xs x
  once_head x xs o c = o 0 (suc c.0) x (omega arith) (let h = c.1 in omega arith) (sym c.2)

  -- a new first entry repeats none
  pub once_cons : (x : X) (xs : List X) → ¬ Contains xs x → IsOnce xs → IsOnce (x ∷ xs)
  once_cons x xs n o zero zero d h i e = absurd (omega arith)
  once_cons x xs n o (suc k) zero d h i e = absurd (omega arith)
  once_cons x xs n o zero (suc l) d h i e =
      n (l, omega arith, get_or_any xs l x d (omega arith) ∙ sym e)
  once_cons x xs n o (suc k) (suc l) d h i e = o k l d (omega arith) (omega arith) e

  -- an empty list has no repetition
  pub once_none : IsOnce []
  once_none k l d h i = absurd (omega arith)

  -- the same as a tuple, for a list that is written out
  abbrev pub Once : List X → Type 0
  Once [] = Unit {0}
  Once (x ∷ xs) = Each (λ y. y ≢ x) xs × Once xs

  -- read by places
  pub of_once : (xs : List X) → Once xs → IsOnce xs
  of_once [] t = once_none
  of_once (x ∷ xs) t = once_cons x xs (λ h. of_each (λ y. y ≢ x) xs t.0 x h refl) (of_once xs t.1)

  -- and written by places
  pub to_once : (xs : List X) → IsOnce xs → Once xs
  to_once [] o = tt
  to_once (x ∷ xs) o = (
    to_each (λ y. y ≢ x) xs (λ y h e. once_head x xs o (subst (Contains xs) e h)),
    to_once xs (once_tail x xs o),
  )

  -- what is removed from a list without repetition is there no more
  gone_for_good : (xs : List X) (k : ℕ) (x : X) → k < length xs → get_or xs k x ≡ x → IsOnce xs
      → ¬ Contains (remove xs k) x
  gone_for_good [] k x h e o c = absurd (omega arith)
  gone_for_good (z ∷ xs) zero x h e o c = once_head z xs o (subst (Contains xs) (sym e) c)
  gone_for_good (z ∷ xs) (suc k) x h e o c = elim (Contains-cases z (remove xs k) x c) [
    | inl s ↦ once_head z xs o (k, omega arith, get_or_any xs k z x (omega arith) ∙ e ∙ sym s)
    | inr s ↦ gone_for_good xs k x (omega arith) e (once_tail z xs o) s
  ]

  -- lists without repetition that have the same elements have the same totals
  pub same_total : (f : X → ℤ) (xs ys : List X) → IsOnce xs → IsOnce ys → AreAmong xs ys
      → AreAmong ys xs → total f xs ≡ total f ys
  same_total f [] [] o p there back = refl
  same_total f [] (y ∷ ys) o p there back = absurd (Contains-none y (back y (Contains-head y ys)))
  same_total f (x ∷ xs) ys o p there back =
      let c = there x (Contains-head x xs) in
      let rest = remove ys c.0 in
      let out = gone_for_good ys c.0 x c.1 c.2 p in
      let r = same_total f xs rest (once_tail x xs o) (all_pairs_remove (λ d e. d ≢ e) ys c.0 c.1 p)
      (λ y h. stays ys c.0 x y c.1 c.2 (there y (Contains-later x xs y h))
      (λ e. once_head x xs o (subst (Contains xs) e h)))
      (λ y h. elim (Contains-cases x xs y (back y (was ys c.0 y c.1 h)))
      [ inl e ↦ absurd (out (subst (Contains rest) (sym e) h)) | inr k ↦ k ]) in
      (λ i. f (sym c.2 i) +ℤ r i) ∙ sym (total_without f ys c.0 x c.1)

  -- a list without repetition is no longer than one that has all its elements
  pub once_length : (xs ys : List X) → IsOnce xs → AreAmong xs ys → length xs ≤ length ys
  once_length [] ys o there = omega arith
  once_length (x ∷ xs) ys o there =
      let c = there x (Contains-head x xs) in
      let e = length-remove ys c.0 c.1 in
      let r = once_length xs (remove ys c.0) (once_tail x xs o) (λ y h. stays ys c.0 x y c.1 c.2
      (there y (Contains-later x xs y h)) (λ s. once_head x xs o (subst (Contains xs) s h))) in
      omega arith

  once_append : (xs ys : List X) → IsOnce xs → IsOnce ys → ShareNone xs ys → IsOnce (xs ++ ys)
  once_append [] ys o p apart = p
  once_append (x ∷ xs) ys o p apart = once_cons x _ (λ c. elim (Contains-append_cases xs ys x c)
      [ inl h ↦ once_head x xs o h | inr h ↦ apart x (Contains-head x xs) h ])
      (once_append xs ys (once_tail x xs o) p (λ y h. apart y (Contains-later x xs y h)))

  -- a sum over two lists is the sum of both sums
  pub total_append : (f : X → ℤ) (xs ys : List X) → total f (xs ++ ys) ≡ total f xs +ℤ total f ys
  total_append f [] ys = omega (arith, ints)
  total_append f (x ∷ xs) ys = next (f x) _ _ _ (total_append f xs ys)
    where
      next : (a s t u : ℤ) → s ≡ t +ℤ u → a +ℤ s ≡ (a +ℤ t) +ℤ u
      next a s t u e = omega (arith, ints)

  -- of a list without repetition some elements go and others come
  pub changed_total : (f : X → ℤ) (old new gone made : List X) → IsOnce old → IsOnce new
      → IsOnce gone → IsOnce made → AreAmong gone old → ShareNone made old
      → ((x : X) → Contains old x → Contains new x ⊎ Contains gone x) → AreAmong made new
      → ((x : X) → Contains new x → (Contains old x × ¬ Contains gone x) ⊎ Contains made x)
      → total f new +ℤ total f gone ≡ total f old +ℤ total f made
  changed_total f old new gone made o n g m there apart kept come only = sym (total_append f new _)
      ∙ same_total f _ _ (once_append new _ n g away) (once_append old _ o m (λ x h k. apart x k h))
      forth back ∙ total_append f old _
    where
      away : ShareNone new gone
      away x h k = elim (only x h) [ inl s ↦ s.1 k | inr s ↦ apart x s (there x k) ]

      forth : AreAmong (new ++ gone) (old ++ made)
      forth x h = elim (Contains-append_cases new gone x h) [
        | inl k ↦ elim (only x k) [
          | inl s ↦ Contains-append_left old made x s.0
          | inr s ↦ Contains-append_right old made x s
        ]
        | inr k ↦ Contains-append_left old made x (there x k)
      ]

      back : AreAmong (old ++ made) (new ++ gone)
      back x h = elim (Contains-append_cases old made x h) [
        | inl k ↦ elim (kept x k) [
          | inl s ↦ Contains-append_left new gone x s
          | inr s ↦ Contains-append_right new gone x s
        ]
        | inr k ↦ Contains-append_left new gone x (come x k)
      ]

-- ---- lists, each element renamed
module _ {X Y : Type 0} (f : X → Y) where
  -- what a list has, its image has
  pub mapped : (xs : List X) (x : X) → Contains xs x → Contains (map f xs) (f x)
  mapped [] x h = absurd (Contains-none x h)
  mapped (y ∷ ys) x h = elim (Contains-cases y ys x h) [
    | inl e ↦ subst (λ o. Contains (map f (y ∷ ys)) (f o)) e (0, omega arith, refl)
    | inr k ↦ Contains-later (f y) (map f ys) (f x) (mapped ys x k)
  ]

  -- what an image has comes from the list
  pub from_map : (xs : List X) (y : Y) → Contains (map f xs) y → (x : X) × Contains xs x × (f x ≡ y)
  from_map [] y h = absurd (Contains-none y h)
  from_map (x ∷ xs) y h = elim (Contains-cases (f x) (map f xs) y h) [
    | inl e ↦ (x, (0, omega arith, refl), e)
    | inr k ↦ (let r = from_map xs y k in (r.0, Contains-later x xs r.0 r.1, r.2))
  ]

  -- a sum over an image is a sum over the list
  pub total_map : (g : Y → ℤ) (xs : List X) → total g (map f xs) ≡ total (λ x. g (f x)) xs
  total_map g [] = refl
  total_map g (x ∷ xs) = λ i. g (f x) +ℤ total_map g xs i

-- under a map that tells listed pairs apart, a list without a pair twice stays one
pub once_under_map : (f : ℕ × ℕ → ℕ × ℕ) (pairs : List (ℕ × ℕ)) → IsOnce pairs → ((a b : ℕ × ℕ)
    → Contains pairs a → Contains pairs b → f a ≡ f b → a ≡ b) → IsOnce (map f pairs)
once_under_map f pairs once apart i j d low high e =
    let o = get_or pairs i d in
    once i j o low in_list (apart _ _ (entry i in_first)
    (entry j in_list) (sym (read i in_first) ∙ e ∙ read j in_list))
  where
    in_list : j < length pairs
    in_list = omega (arith, length-map pairs f)

    in_first : i < length pairs
    in_first = omega (arith, length-map pairs f)

    entry : (k : ℕ) → k < length pairs → Contains pairs (get_or pairs k (get_or pairs i d))
    entry k h = (k, h, get_or_any pairs k _ _ h)

    read : (k : ℕ) → k < length pairs
        → get_or (map f pairs) k d ≡ f (get_or pairs k (get_or pairs i d))
    read k h = get_or-map f pairs k _ d h

-- ---- a pair is in a list of pairs or not
-- a pair is in a list or is not
pub has_pair_or_not : (pairs : List (ℕ × ℕ)) (i j : ℕ)
    → Contains pairs (i, j) ⊎ (¬ Contains pairs (i, j))
has_pair_or_not [] i j = inr (λ h. Contains-none (i, j) h)
has_pair_or_not (e ∷ pairs) i j = go (cases_eq e.0 i) (cases_eq e.1 j) (has_pair_or_not pairs i j)
  where
    go : (e.0 ≡ i) ⊎ (e.0 ≡ i → ⊥) → (e.1 ≡ j) ⊎ (e.1 ≡ j → ⊥) → Contains pairs (i, j)
        ⊎ (¬ Contains pairs (i, j)) → Contains (e ∷ pairs) (i, j) ⊎ (¬ Contains (e ∷ pairs) (i, j))
    go a b (inl h) = inl (Contains-later e pairs (i, j) h)
    go (inl a) (inl b) (inr n) =
        inl (subst (Contains (e ∷ pairs)) (λ o. (a o, b o)) (Contains-head e pairs))
    go (inr a) b (inr n) = inr (λ h. elim
        (Contains-cases e pairs (i, j) h) [ inl s ↦ a (ap (λ (x : ℕ × ℕ). x.0) s) | inr s ↦ n s ])
    go (inl _) (inr b) (inr n) = inr (λ h. elim
        (Contains-cases e pairs (i, j) h) [ inl s ↦ b (ap (λ (x : ℕ × ℕ). x.1) s) | inr s ↦ n s ])

-- ---- one change of outer edges after another
module _ (old mid new gone made lost got gone' made' : List (ℕ × ℕ))
    (c : OuterChange old mid gone made) (d : OuterChange mid new lost got) where
  -- is one change: what goes then goes now or went before, and was there; what comes then comes now
  -- or came before, and is not lost
  pub change_after : AreAmong gone gone' → Each (λ e. Contains old e → Contains gone' e) lost
      → ((e : ℕ × ℕ) → Contains gone' e → Contains gone e ⊎ Contains lost e)
      → Each (λ e. (Contains made e × ¬ Contains lost e) ⊎ Contains got e) made'
      → Each (λ e. ¬ Contains lost e → Contains made' e) made → Each (Contains made') got
      → OuterChange old new gone' made'
  change_after more also of from kept came = record {
    kept = λ i j h away. d.kept i j (c.kept i j h (λ k. away (more (i, j) k)))
        (λ k. away (of_each (λ e. Contains old e → Contains gone' e) lost also (i, j) k h));
    come = λ i j h. elim (of_each (λ e. (Contains made e × ¬ Contains lost e) ⊎ Contains got e)
        made' from (i, j) h) [ inl o ↦ d.kept i j (c.come i j o.0) o.1 | inr o ↦ d.come i j o ];
    only = λ i j h. elim (d.only i j h) [
      | inl o ↦ elim (c.only i j o.0) [
        | inl s ↦ inl (s.0, λ k. elim (of (i, j) k) [ inl y ↦ s.1 y | inr y ↦ o.1 y ])
        | inr s ↦ inr (of_each (λ e. ¬ Contains lost e → Contains made' e) _ kept (i, j) s o.1)
      ]
      | inr o ↦ inr (of_each (Contains made') got came (i, j) o)
    ];
    once = d.once;
  }
