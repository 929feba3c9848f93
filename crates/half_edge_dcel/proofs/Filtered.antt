-- Filters of lists where an item gives way to another one, and of lists in another order.
-- Notions: Contains-filter; filter_gains, filter_loses, filter_stays, filter_all, filter_none,
-- filter_permutation, sorted_out, items_at, taken_all.
use Rattle.std.proofs.Common.{◌≡◌, ◌≢◌, ◌<◌, ◌≤◌, [], ◌∷◌, ◌++◌, ◌∙◌}
use Rattle.std.proofs.Common.{ℕ, zero, suc, Bool, true, false, cond, not, List, length, set, get_or}
use Rattle.std.proofs.Common.{refl, sym, ap, inl, inr, arith, append_assoc, append-nil}
use Rattle.std.specs.List.{filter, swap, All, Contains}
use Rattle.std.specs.List.Sorted.{IsPermutation}
use Rattle.std.proofs.lemmas.Bool.{cases_eq, false≢true, false_from_ne_true}
use Rattle.std.proofs.lemmas.List.{length-set, get_or-set_same, get_or-set_other}
use Rattle.std.proofs.lemmas.List.Elements.{All-contains, All-from_get_or, All-weaker}
use Rattle.std.proofs.lemmas.List.Elements.{Contains-append_cases, filter-append, filter_passes}
use Rattle.std.proofs.lemmas.List.Sorted.{Contains-permutation, IsPermutation-refl}
use Rattle.std.proofs.lemmas.List.Sorted.{IsPermutation-sym, IsPermutation-trans}
use Rattle.std.proofs.lemmas.List.Sorted.{IsPermutation-append_right, IsPermutation-append_comm}
use Rattle.std.proofs.lemmas.List.Sorted.{IsPermutation-append_left, IsPermutation-filter_both}
use Rattle.std.proofs.lemmas.List.Sorted.{IsPermutation-keeps, IsPermutation-middle}

module _ {X : Type 0} (p : X → Bool) where
  -- an item, if it passes
  passing : X → List X
  passing x = cond (p x) (x ∷ []) []

  filter_cons : (x : X) (xs : List X) → filter p (x ∷ xs) ≡ passing x ++ filter p xs
  unfolding passing
  filter_cons x xs = elim (p x) as (λ b. cond b (x ∷ filter p xs) (filter p xs) ≡ cond b (x ∷ []) []
      ++ filter p xs) [ true ↦ refl | false ↦ refl ]

  passing_true : (x : X) → p x ≡ true → passing x ≡ x ∷ []
  unfolding passing
  passing_true x is = ap (λ b. cond b (x ∷ []) []) is

  passing_false : (x : X) → p x ≡ false → passing x ≡ []
  unfolding passing
  passing_false x is = ap (λ b. cond b (x ∷ []) []) is

  -- blocks in another order
  exchange : (a b c : List X) → IsPermutation (a ++ (b ++ c)) (b ++ (a ++ c))
  exchange a b c = rw (← append_assoc a b c, ← append_assoc b a c)
      (IsPermutation-append_left c (a ++ b) (b ++ a) (IsPermutation-append_comm a b))

  -- item i gives way to y
  filter_set : (xs : List X) (i : ℕ) (y d : X) → i < length xs
      → IsPermutation (passing (get_or xs i d) ++ filter p (set xs i y)) (passing y ++ filter p xs)
  filter_set [] i y d within = absurd (omega (arith, within))
  filter_set (x ∷ xs) zero y d within =
      rw (filter_cons y xs, filter_cons x xs) (exchange (passing x) (passing y) (filter p xs))
  filter_set (x ∷ xs) (suc i) y d within =
      let q : List X = passing (get_or xs i d) in
      rw (filter_cons x (set xs i y), filter_cons x xs)
      (IsPermutation-trans _ _ _ (exchange q (passing x) (filter p (set xs i y)))
      (IsPermutation-trans _ _ _ (IsPermutation-append_right (passing x) _ _ (filter_set xs i y d
      (omega (arith, within)))) (exchange (passing x) (passing y) (filter p xs))))

  -- an item that did not pass gives way to one that does
  pub filter_gains : (xs : List X) (i : ℕ) (y d : X) → i < length xs → p (get_or xs i d) ≡ false
      → p y ≡ true → IsPermutation (filter p (set xs i y)) (y ∷ filter p xs)
  filter_gains xs i y d within was is =
      rw (passing_false _ was, passing_true y is) at (filter_set xs i y d within)

  -- an item that passed gives way to one that does not
  pub filter_loses : (xs : List X) (i : ℕ) (y d : X) → i < length xs → p (get_or xs i d) ≡ true
      → p y ≡ false → IsPermutation (filter p xs) (get_or xs i d ∷ filter p (set xs i y))
  filter_loses xs i y d within was is = IsPermutation-sym _ _
      (rw (passing_true _ was, passing_false y is) at (filter_set xs i y d within))

  -- neither passes
  pub filter_stays : (xs : List X) (i : ℕ) (y d : X) → i < length xs → p (get_or xs i d) ≡ false
      → p y ≡ false → IsPermutation (filter p (set xs i y)) (filter p xs)
  filter_stays xs i y d within was is =
      rw (passing_false _ was, passing_false y is) at (filter_set xs i y d within)

  -- all pass
  pub filter_all : (xs : List X) → All (λ x. p x ≡ true) xs → filter p xs ≡ xs
  filter_all [] all = refl
  filter_all (x ∷ xs) all = ap (λ b. cond b (x ∷ filter p xs) (filter p xs)) (all 0 x (omega arith))
      ∙ ap (λ q. x ∷ q) (filter_all xs (λ k d within. all (suc k) d (omega (arith, within))))

  -- none passes
  pub filter_none : (xs : List X) → All (λ x. p x ≡ false) xs → filter p xs ≡ []
  filter_none [] all = refl
  filter_none (x ∷ xs) all =
      ap (λ b. cond b (x ∷ filter p xs) (filter p xs)) (all 0 x (omega arith))
      ∙ filter_none xs (λ k d within. all (suc k) d (omega (arith, within)))

  -- two items change places
  swapped : (l : List X) (i j : ℕ) (d : X) → i < length l → j < length l
      → IsPermutation (filter p l) (filter p (set (set l i (get_or l j d)) j (get_or l i d)))
  swapped [] i j d a b = absurd (omega (arith, a))
  swapped (x ∷ xs) zero zero d a b = IsPermutation-refl _
  swapped (x ∷ xs) zero (suc j) d a b =
      rw (filter_cons x xs, filter_cons (get_or xs j d) (set xs j x))
      (IsPermutation-sym _ _ (filter_set xs j x d (omega (arith, b))))
  swapped (x ∷ xs) (suc i) zero d a b =
      rw (filter_cons x xs, filter_cons (get_or xs i d) (set xs i x))
      (IsPermutation-sym _ _ (filter_set xs i x d (omega (arith, a))))
  swapped (x ∷ xs) (suc i) (suc j) d a b =
      rw (filter_cons x xs, filter_cons x (set (set xs i (get_or xs j d)) j (get_or xs i d)))
      (IsPermutation-append_right (passing x) _ _
      (swapped xs i j d (omega (arith, a)) (omega (arith, b))))

  swap_keeps : (l : List X) (i j : ℕ) → i < length l → j < length l
      → IsPermutation (filter p l) (filter p (swap l i j))
  swap_keeps [] i j a b = absurd (omega (arith, a))
  swap_keeps (x ∷ xs) i j a b = swapped (x ∷ xs) i j x a b

  -- a list in another order
  pub filter_permutation : (xs ys : List X) → IsPermutation xs ys
      → IsPermutation (filter p xs) (filter p ys)
  filter_permutation xs ys =
      IsPermutation-keeps xs (λ l. IsPermutation (filter p xs) (filter p l)) (IsPermutation-refl _)
      (λ l i j a b is. IsPermutation-trans _ _ _ is (swap_keeps l i j a b)) ys

  -- an item that passes is left
  pub Contains-filter : (xs : List X) (x : X) → Contains xs x → p x ≡ true
      → Contains (filter p xs) x
  Contains-filter xs x at is =
      let q : X → Bool = λ y. not (p y) in
      let both = IsPermutation-filter_both p q (λ y. refl) xs in
      elim (Contains-append_cases (filter p xs) (filter q xs) x
      (Contains-permutation _ _ x both at)) [
        | inl here ↦ here
        | inr there ↦ let no : not (p x) ≡ true =
            All-contains (λ y. q y ≡ true) (filter q xs) x (filter_passes q xs) there in
            absurd (false≢true (ap not (sym is) ∙ no))
      ]

-- q passes what p does not
module _ {X : Type 0} (p q : X → Bool) (other : (x : X) → q x ≡ not (p x)) where
  -- what passes stands before what does not
  pub sorted_out : (xs ys zs : List X) → IsPermutation xs (ys ++ zs) → All (λ x. p x ≡ true) ys
      → All (λ x. p x ≡ false) zs → IsPermutation (filter p xs) ys × IsPermutation (filter q xs) zs
  sorted_out xs ys zs is passes fails =
      let first : filter p (ys ++ zs) ≡ ys = filter-append p ys zs
      ∙ (λ i. filter_all p ys passes i ++ filter_none p zs fails i) ∙ append-nil ys in
      let off : All (λ x. q x ≡ false) ys =
      All-weaker (λ x. p x ≡ true) (λ x. q x ≡ false) (λ x h. other x ∙ ap not h) ys passes in
      let on : All (λ x. q x ≡ true) zs =
      All-weaker (λ x. p x ≡ false) (λ x. q x ≡ true) (λ x h. other x ∙ ap not h) zs fails in
      let second : filter q (ys ++ zs) ≡ zs =
      filter-append q ys zs ∙ (λ i. filter_none q ys off i ++ filter_all q zs on i) in (
        rw first at (filter_permutation p xs (ys ++ zs) is),
        rw second at (filter_permutation q xs (ys ++ zs) is),
      )

-- the items at some indexes, which are all that pass
module _ {X : Type 0} (p : X → Bool) (a : ℕ → ℕ) (xs : List X) (d : X) (off : p d ≡ false) where
  -- the list with another item at the first indexes
  marked : ℕ → List X
  marked zero = xs
  marked (suc i) = set (marked i) (a i) d

  length-marked : (i : ℕ) → length (marked i) ≡ length xs
  unfolding marked
  length-marked zero = refl
  length-marked (suc i) = length-set (marked i) (a i) d ∙ length-marked i

  unmarked : (i j : ℕ) → ((t : ℕ) → t < i → a t ≢ j) → get_or (marked i) j d ≡ get_or xs j d
  unfolding marked
  unmarked zero j none = refl
  unmarked (suc i) j none =
      get_or-set_other (marked i) (a i) j d d (λ q. none i (omega arith) (sym q))
      ∙ unmarked i j (λ t less. none t (omega (arith, less)))

  -- the items at the first indexes, the last of them first
  unfoldable pub items_at : ℕ → List X
  items_at zero = []
  items_at (suc i) = get_or xs (a i) d ∷ items_at i

  module _ (k : ℕ) (within : (i : ℕ) → i < k → a i < length xs) (apart : (i j : ℕ) → i < j → j < k
      → a i ≢ a j) (pass : (i : ℕ) → i < k → p (get_or xs (a i) d) ≡ true) where
    taken : (i : ℕ) → i ≤ k → IsPermutation (filter p xs) (items_at i ++ filter p (marked i))
    unfolding items_at marked
    taken zero less = IsPermutation-refl _
    taken (suc i) less =
        let here = unmarked i (a i) (λ t before. apart t i before (omega (arith, less))) in
        let place : a i < length (marked i) =
        rw (length-marked i) (within i (omega (arith, less))) in
        let one = filter_loses p (marked i) (a i) d d place
        (ap p here ∙ pass i (omega (arith, less))) off in
        let one_is : IsPermutation (filter p (marked i))
        (get_or xs (a i) d ∷ filter p (set (marked i) (a i) d)) = rw here at one in
        IsPermutation-trans _ _ _ (taken i (omega (arith, less)))
        (IsPermutation-trans _ _ _ (IsPermutation-append_right (items_at i) _ _ one_is)
        (IsPermutation-middle (items_at i) (get_or xs (a i) d) _))

    still_passing : (i j : ℕ) → j < length xs → p (get_or (marked i) j d) ≡ true
        → (p (get_or xs j d) ≡ true) × ((t : ℕ) → t < i → a t ≢ j)
    unfolding marked
    still_passing zero j j_in is = (is, λ t less. absurd (omega (arith, less)))
    still_passing (suc i) j j_in is =
        elim (cases_eq j (a i)) [
          | inl q ↦ absurd
              (false≢true (sym off ∙ ap p (sym (ap (λ h. get_or (set (marked i) (a i) d) h d) q
              ∙ get_or-set_same (marked i) (a i) d d (rw (length-marked i, ← q) j_in))) ∙ is))
          | inr q ↦
              let before = still_passing i j j_in
              (ap p (sym (get_or-set_other (marked i) (a i) j d d q)) ∙ is) in (
                before.0,
                λ t less. elim (cases_eq t i) [
                  | inl last ↦ λ r. q (sym r ∙ ap a last)
                  | inr other ↦ before.1 t (omega (arith, less, other))
                ],
              )
        ]

    -- where no other item passes, these are what the filter leaves
    pub taken_all : ((j : ℕ) → j < length xs → p (get_or xs j d) ≡ true
        → (i : ℕ) × (i < k) × (a i ≡ j)) → IsPermutation (filter p xs) (items_at k)
    taken_all all =
        let none : All (λ x. p x ≡ false) (marked k) =
        All-from_get_or (λ x. p x ≡ false) (marked k) d (λ j j_in.
        let inside : j < length xs = rw (← length-marked k) j_in in
        false_from_ne_true (p (get_or (marked k) j d)) (λ is. let at = still_passing k j inside
        is in let found = all j inside at.0 in at.1 found.0 found.1 found.2)) in
        rw (filter_none p (marked k) none, append-nil (items_at k)) at (taken k (omega arith))
