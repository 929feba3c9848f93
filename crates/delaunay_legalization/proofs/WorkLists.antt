-- Lists that have each entry once, as they grow and shrink at their end.
-- contains_last, contains_before: a list with one more entry has that entry, and its former ones
-- last_or_before: and no other
-- once_after, once_before: each entry stays listed once with a new last entry; without the last
--   entry
-- last_not_before: the last entry is not among those before it
-- contains_map, contains_map_from: the values of a function over a list are its values at the
--   entries
-- at_most_so_many: a list of numbers below n, each once, has at most n entries
-- same_map: functions that agree on a list have the same values over it
use Rattle.std.proofs.Common.{◌≡◌, ◌⊎◌, ◌<◌, ◌≤◌, [], ◌∷◌, ◌++◌}
use Rattle.std.proofs.Common.{ℕ, zero, suc, List, length, map, refl, sym, ap, subst, arith}
use mathlib.Core.Logic.{inl, inr}
use Rattle.std.specs.Prelude.{Contains}
use Rattle.std.proofs.lemmas.Bool.{cases_eq}
use Rattle.std.proofs.lemmas.List.Elements.{Contains-append_left, Contains-append_right}
use Rattle.std.proofs.lemmas.List.Elements.{Contains-append_cases}
use Rattle.plane_theorems.proofs.{Contains-cases, Contains-head, Contains-later, Contains-none}
use Rattle.plane_theorems.proofs.{IsOnce, once_cons, once_head, once_none, once_tail}
use Rattle.plane_theorems.proofs.Edits.LocalMesh.Changes.{once_length}

-- a list contains the entry that was put at its end
pub contains_last : {X : Type 0} (xs : List X) (x : X) → Contains (xs ++ x ∷ []) x
contains_last xs x = Contains-append_right xs (x ∷ []) x (Contains-head x [])

-- a list with one more entry contains what it contained
pub contains_before : {X : Type 0} (xs : List X) (y x : X) → Contains xs x
    → Contains (xs ++ y ∷ []) x
contains_before xs y x h = Contains-append_left xs (y ∷ []) x h

-- what a list with one more entry contains is this entry, or was contained before
pub last_or_before : {X : Type 0} (xs : List X) (y x : X) → Contains (xs ++ y ∷ []) x
    → (x ≡ y) ⊎ Contains xs x
last_or_before xs y x h =
    elim (Contains-append_cases xs (y ∷ []) x h) as (λ _. (x ≡ y) ⊎ Contains xs x) [
      | inl c ↦ inr c
      | inr c ↦ elim (Contains-cases y [] x c) as
          (λ _. (x ≡ y) ⊎ Contains xs x)
          [ inl e ↦ inl (sym e) | inr d ↦ absurd (Contains-none x d) ]
    ]

-- the list without its last entry
pub once_before : {X : Type 0} (xs : List X) (x : X) → IsOnce (xs ++ x ∷ []) → IsOnce xs
once_before [] x o = once_none
once_before (y ∷ ys) x o =
    once_cons y ys (λ h. once_head y (ys ++ x ∷ []) o (contains_before ys x y h))
    (once_before ys x (once_tail y (ys ++ x ∷ []) o))

-- in a list with each entry once, the last entry is not among those before it
pub last_not_before : {X : Type 0} (xs : List X) (x : X) → IsOnce (xs ++ x ∷ []) → ¬ Contains xs x
last_not_before [] x o h = Contains-none x h
last_not_before (y ∷ ys) x o h = elim (Contains-cases y ys x h) as (λ _. ⊥) [
  | inl e ↦
      once_head y (ys ++ x ∷ []) o (subst (Contains (ys ++ x ∷ [])) (sym e) (contains_last ys x))
  | inr c ↦ last_not_before ys x (once_tail y (ys ++ x ∷ []) o) c
]

-- and with one more
pub once_after : {X : Type 0} (xs : List X) (x : X) → IsOnce xs → ¬ Contains xs x
    → IsOnce (xs ++ x ∷ [])
once_after [] x o n = once_cons x [] (λ h. Contains-none x h) once_none
once_after (y ∷ ys) x o n =
    once_cons y (ys ++ x ∷ []) (λ h. elim (last_or_before ys x y h) as (λ _. ⊥) [
      | inl e ↦ n (subst (Contains (y ∷ ys)) e (Contains-head y ys))
      | inr c ↦ once_head y ys o c
    ]) (once_after ys x (once_tail y ys o) (λ h. n (Contains-later y ys x h)))

-- the values of a function over a list contain its value at each entry
pub contains_map : {X Y : Type 0} (f : X → Y) (xs : List X) (x : X) → Contains xs x
    → Contains (map f xs) (f x)
contains_map f [] x h = absurd (Contains-none x h)
contains_map f (y ∷ ys) x h =
    elim (Contains-cases y ys x h) as (λ _. Contains (f y ∷ map f ys) (f x)) [
      | inl e ↦ subst (λ z. Contains (f y ∷ map f ys) (f z)) e (Contains-head (f y) (map f ys))
      | inr c ↦ Contains-later (f y) (map f ys) (f x) (contains_map f ys x c)
    ]

-- each of the values of a function over a list is its value at some entry
pub contains_map_from : {X Y : Type 0} (f : X → Y) (xs : List X) (y : Y) → Contains (map f xs) y
    → (x : X) × Contains xs x × (f x ≡ y)
contains_map_from {X = X} f [] y h = absurd (Contains-none y h)
contains_map_from {X = X} f (x ∷ xs) y h =
    elim (Contains-cases (f x) (map f xs) y h) as (λ _. (z : X) × Contains (x ∷ xs) z × (f z ≡ y)) [
      | inl e ↦ (x, Contains-head x xs, e)
      | inr c ↦ let r = contains_map_from f xs y c in (r.0, Contains-later x xs r.0 r.1, r.2)
    ]

-- functions that agree on a list
pub same_map : {X Y : Type 0} (f g : X → Y) (xs : List X) → ((x : X) → Contains xs x → f x ≡ g x)
    → map f xs ≡ map g xs
same_map f g [] h = refl
same_map f g (x ∷ xs) h = λ i. h x (Contains-head x xs) i
    ∷ same_map f g xs (λ y c. h y (Contains-later x xs y c)) i

-- ---- there are at most n different numbers below n
below : ℕ → List ℕ
below zero = []
below (suc n) = n ∷ below n

length_below : (n : ℕ) → length (below n) ≡ n
unfolding below
length_below zero = refl
length_below (suc n) = ap suc (length_below n)

in_below : (n k : ℕ) → k < n → Contains (below n) k
unfolding below
in_below zero k h = absurd (omega arith)
in_below (suc n) k h = elim (cases_eq n k) [
  | inl e ↦ subst (λ (x : ℕ). Contains (n ∷ below n) x) e (Contains-head n (below n))
  | inr d ↦ Contains-later n (below n) k (in_below n k (grind arith))
]

-- a list of numbers below n, each once, has at most n entries
pub at_most_so_many : (xs : List ℕ) (n : ℕ) → IsOnce xs → ((k : ℕ) → Contains xs k → k < n)
    → length xs ≤ n
at_most_so_many xs n o h = subst (λ (z : ℕ). length xs ≤ z) (length_below n)
    (once_length xs (below n) o (λ k c. in_below n k (h k c)))
