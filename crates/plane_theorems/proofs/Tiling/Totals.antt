-- Sums over a list: of equal terms, of terms that are 0 or 1, of one term that is not 0.
-- Contains-none, Contains-head, Contains-later: which entries the empty list has, and a longer list
-- Contains-cases: an entry is the first or in the rest
-- get_or_any: an entry within a list does not depend on the value for indexes past its end
-- total_nonneg: a sum of terms that are not negative is not negative
-- total_at_least: one of such terms is at most their sum
-- total_positive: a positive sum has a positive term
-- total_at_most_one, total_twice: a sum of terms 0 or 1 is at most 1 where no two are 1; two terms
--   of 1 make it at least 2
-- total_agree: sums of terms that agree on the list are equal
use Rattle.std.proofs.Common.{◌≡◌, ◌⊎◌, ◌<◌, [], ◌∷◌, ◌∙◌}
use Rattle.std.proofs.Common.{ℕ, zero, suc, List, length, get_or, refl, sym, ap, arith}
use mathlib.Core.Logic.{inl, inr, ◌≢◌}
use Rattle.std.specs.Prelude.{ℤ, pos, ◌+ℤ◌, ◌-ℤ◌, ◌≤ℤ◌, ◌<ℤ◌, Contains, AllPairs}
use Rattle.std.proofs.lemmas.Int.{ints}
use Rattle.plane.proofs.{lt_or_ge_ℤ, Signs.same_plus_zero, Signs.zero_plus_same, sum_not_negative}
use Rattle.plane_theorems.specs.{total}

sums_apart : (a b c d s t u : ℤ) → s ≡ t -ℤ u → (a -ℤ b) +ℤ s ≡ (a +ℤ t) -ℤ (b +ℤ u)
sums_apart a b c d s t u e = omega (arith, ints)

grown : (a b c : ℤ) → c ≤ℤ b → pos 0 ≤ℤ a → c ≤ℤ (a +ℤ b)
grown a b c h k = omega (arith, ints)

grown_first : (a b c : ℤ) → a ≡ c → pos 0 ≤ℤ b → c ≤ℤ (a +ℤ b)
grown_first a b c h k = omega (arith, ints)

none_left : (a b : ℤ) → pos 0 <ℤ (a +ℤ b) → a ≡ pos 0 → pos 0 <ℤ b
none_left a b h k = omega (arith, ints)

grown' : (a b c : ℤ) → c ≤ℤ a → pos 0 ≤ℤ b → c ≤ℤ (a +ℤ b)
grown' a b c h k = omega (arith, ints)

-- two numbers of at least 1 add up to at least 2
two' : (a b : ℤ) → pos 1 ≤ℤ a → pos 1 ≤ℤ b → pos 2 ≤ℤ (a +ℤ b)
two' a b h k = omega (arith, ints)

none_more : (a b : ℤ) → a ≡ pos 0 → b ≤ℤ pos 1 → (a +ℤ b) ≤ℤ pos 1
none_more a b h k = omega (arith, ints)

one_more : (a b : ℤ) → a ≡ pos 1 → b ≤ℤ pos 0 → (a +ℤ b) ≤ℤ pos 1
one_more a b h k = omega (arith, ints)

none_above : (a b : ℤ) → pos 0 <ℤ (a +ℤ b) → a ≤ℤ pos 0 → pos 0 <ℤ b
none_above a b h k = omega (arith, ints)

-- 1 and a number of at least 1 add up to at least 2
two : (a b : ℤ) → a ≡ pos 1 → pos 1 ≤ℤ b → pos 2 ≤ℤ (a +ℤ b)
two a b h k = omega (arith, ints)

sums_beside : (a b s t u : ℤ) → s ≡ t +ℤ u → (a +ℤ b) +ℤ s ≡ (a +ℤ t) +ℤ (b +ℤ u)
sums_beside a b s t u e = omega (arith, ints)

no_sum : pos 0 ≡ pos 0 +ℤ pos 0
no_sum = refl

module _ {X : Type 0} where
  -- a list has its first entry
  pub Contains-head : (x : X) (xs : List X) → Contains (x ∷ xs) x
  Contains-head x xs = (0, omega arith, refl)

  -- a longer list has what the rest of it has
  pub Contains-later : (y : X) (xs : List X) (x : X) → Contains xs x → Contains (y ∷ xs) x
  Contains-later y xs x h = (suc h.0, omega arith, h.2)

  -- an entry is the first or in the rest
  pub Contains-cases : (y : X) (xs : List X) (x : X) → Contains (y ∷ xs) x → (y ≡ x) ⊎ Contains xs x
  Contains-cases y xs x h = go h.0 h.1 h.2
    where
      go : (k : ℕ) → k < length (y ∷ xs) → get_or (y ∷ xs) k x ≡ x → (y ≡ x) ⊎ Contains xs x
      go zero l e = inl e
      go (suc k) l e = inr (k, omega arith, e)

  -- an empty list has no entry
  pub Contains-none : (x : X) → Contains [] x → ⊥
  Contains-none x h = let k = h.1 in omega arith

  -- an entry within the list does not depend on what is given beyond it
  pub get_or_any : (xs : List X) (k : ℕ) (d e : X) → k < length xs → get_or xs k d ≡ get_or xs k e
  get_or_any [] k d e h = absurd (omega arith)
  get_or_any (x ∷ xs) zero d e h = refl
  get_or_any (x ∷ xs) (suc k) d e h = get_or_any xs k d e (omega arith)

  -- sums of terms that agree on the list are equal
  pub total_agree : (f g : X → ℤ) (xs : List X) → ((x : X) → Contains xs x → f x ≡ g x)
      → total f xs ≡ total g xs
  total_agree f g [] h = refl
  total_agree f g (x ∷ xs) h =
      let a = h x (Contains-head x xs) in
      let b = total_agree f g xs (λ y k. h y (Contains-later x xs y k)) in
      λ i. a i +ℤ b i

  -- a sum of differences is the difference of the sums
  pub total-difference : (f g : X → ℤ) (xs : List X)
      → total (λ x. f x -ℤ g x) xs ≡ total f xs -ℤ total g xs
  total-difference f g [] = refl
  total-difference f g (x ∷ xs) = sums_apart (f x) (g x) (pos 0) (pos 0)
      (total (λ y. f y -ℤ g y) xs) (total f xs) (total g xs) (total-difference f g xs)

  -- a sum of sums is the sum of both
  pub total-sum : (f g : X → ℤ) (xs : List X)
      → total (λ x. f x +ℤ g x) xs ≡ total f xs +ℤ total g xs
  total-sum f g [] = no_sum
  total-sum f g (x ∷ xs) = sums_beside (f x) (g x) (total (λ y. f y +ℤ g y) xs) (total f xs)
      (total g xs) (total-sum f g xs)

  -- a sum of terms that are not negative is not negative
  pub total_nonneg : (f : X → ℤ) (xs : List X) → ((x : X) → Contains xs x → pos 0 ≤ℤ f x)
      → pos 0 ≤ℤ total f xs
  total_nonneg f [] h = record { le = tt }
  total_nonneg f (x ∷ xs) h = sum_not_negative (f x) (total f xs) (h x (Contains-head x xs))
      (total_nonneg f xs (λ y k. h y (Contains-later x xs y k)))

  -- one of the terms is at most the sum
  pub total_at_least : (f : X → ℤ) (xs : List X) → ((x : X) → Contains xs x → pos 0 ≤ℤ f x)
      → (x : X) → Contains xs x → f x ≤ℤ total f xs
  total_at_least f [] h x k = absurd (Contains-none x k)
  total_at_least f (y ∷ xs) h x k =
      go (Contains-cases y xs x k) (total_at_least f xs (λ z m. h z (Contains-later y xs z m)) x)
    where
      go : (y ≡ x) ⊎ Contains xs x → (Contains xs x → f x ≤ℤ total f xs)
          → f x ≤ℤ (f y +ℤ total f xs)
      go (inl e) r = grown_first (f y) (total f xs) (f x) (ap f e)
          (total_nonneg f xs (λ z m. h z (Contains-later y xs z m)))
      go (inr m) r = grown (f y) (total f xs) (f x) (r m) (h y (Contains-head y xs))

  -- a positive sum has a positive term
  pub total_positive : (f : X → ℤ) (xs : List X) → pos 0 <ℤ total f xs
      → (x : X) × Contains xs x × (pos 0 <ℤ f x)
  total_positive f [] p = absurd (omega (arith, ints))
  total_positive f (x ∷ xs) p = go (lt_or_ge_ℤ (pos 0) (f x)) (total_positive f xs)
    where
      go : (pos 0 <ℤ f x) ⊎ (f x ≤ℤ pos 0)
          → (pos 0 <ℤ total f xs → (y : X) × Contains xs y × (pos 0 <ℤ f y))
          → (y : X) × Contains (x ∷ xs) y × (pos 0 <ℤ f y)
      go (inl h) r = (x, Contains-head x xs, h)
      go (inr h) r = let s = r (none_above (f x) (total f xs) p h) in
          (s.0, Contains-later x xs s.0 s.1, s.2)

  -- a sum of terms that are 0 or 1 has a 1, if it is positive
  pub total_reached : (f : X → ℤ) (xs : List X)
      → ((x : X) → Contains xs x → (f x ≡ pos 0) ⊎ (f x ≡ pos 1)) → pos 0 <ℤ total f xs
      → (x : X) × Contains xs x × (f x ≡ pos 1)
  total_reached f [] h p = absurd (omega (arith, ints))
  total_reached f (x ∷ xs) h p =
      go (h x (Contains-head x xs)) (total_reached f xs (λ y k. h y (Contains-later x xs y k)))
    where
      go : (f x ≡ pos 0) ⊎ (f x ≡ pos 1)
          → (pos 0 <ℤ total f xs → (x : X) × Contains xs x × (f x ≡ pos 1))
          → (y : X) × Contains (x ∷ xs) y × (f y ≡ pos 1)
      go (inr e) r = (x, Contains-head x xs, e)
      go (inl e) r = let s = r (none_left (f x) (total f xs) p e) in
          (s.0, Contains-later x xs s.0 s.1, s.2)

  at_least_one : (f : X → ℤ) (xs : List X) → ((x : X) → Contains xs x → pos 0 ≤ℤ f x)
      → (k : ℕ) (d : X) → k < length xs → f (get_or xs k d) ≡ pos 1 → pos 1 ≤ℤ total f xs
  at_least_one f [] h k d l e = absurd (omega arith)
  at_least_one f (x ∷ xs) h zero d l e = grown_first (f x) (total f xs) (pos 1) e
      (total_nonneg f xs (λ y m. h y (Contains-later x xs y m)))
  at_least_one f (x ∷ xs) h (suc k) d l e = grown (f x) (total f xs) (pos 1) (at_least_one f xs
      (λ y m. h y (Contains-later x xs y m)) k d (omega arith) e) (h x (Contains-head x xs))

  -- two of the terms are 1
  pub total_twice : (f : X → ℤ) (xs : List X) → ((x : X) → Contains xs x → pos 0 ≤ℤ f x)
      → (k l : ℕ) (d : X) → k < l → l < length xs → f (get_or xs k d) ≡ pos 1
      → f (get_or xs l d) ≡ pos 1 → pos 2 ≤ℤ total f xs
  total_twice f [] h k l d a b e e' = absurd (omega arith)
  total_twice f (x ∷ xs) h k zero d a b e e' = absurd (omega arith)
  total_twice f (x ∷ xs) h zero (suc l) d a b e e' = two (f x) (total f xs) e
      (at_least_one f xs (λ y m. h y (Contains-later x xs y m)) l d (omega arith) e')
  total_twice f (x ∷ xs) h (suc k) (suc l) d a b e e' =
      grown (f x) (total f xs) (pos 2) (total_twice f xs (λ y m. h y (Contains-later x xs y m)) k l
      d (omega arith) (omega arith) e e') (h x (Contains-head x xs))

  at_least_one_somewhere : (f : X → ℤ) (xs : List X) → ((x : X) → Contains xs x → pos 0 ≤ℤ f x)
      → (k : ℕ) (d : X) → k < length xs → pos 1 ≤ℤ f (get_or xs k d) → pos 1 ≤ℤ total f xs
  at_least_one_somewhere f [] h k d l e = absurd (omega arith)
  at_least_one_somewhere f (x ∷ xs) h zero d l e =
      grown' (f x) (total f xs) (pos 1) e (total_nonneg f xs (λ y m. h y (Contains-later x xs y m)))
  at_least_one_somewhere f (x ∷ xs) h (suc k) d l e =
      grown (f x) (total f xs) (pos 1) (at_least_one_somewhere f xs
      (λ y m. h y (Contains-later x xs y m)) k d (omega arith) e) (h x (Contains-head x xs))

  -- two of the terms are 1 at least
  pub total_of_two : (f : X → ℤ) (xs : List X) → ((x : X) → Contains xs x → pos 0 ≤ℤ f x)
      → (k l : ℕ) (d : X) → k < l → l < length xs → pos 1 ≤ℤ f (get_or xs k d)
      → pos 1 ≤ℤ f (get_or xs l d) → pos 2 ≤ℤ total f xs
  total_of_two f [] h k l d a b e e' = absurd (omega arith)
  total_of_two f (x ∷ xs) h k zero d a b e e' = absurd (omega arith)
  total_of_two f (x ∷ xs) h zero (suc l) d a b e e' = two' (f x) (total f xs) e
      (at_least_one_somewhere f xs (λ y m. h y (Contains-later x xs y m)) l d (omega arith) e')
  total_of_two f (x ∷ xs) h (suc k) (suc l) d a b e e' =
      grown (f x) (total f xs) (pos 2) (total_of_two f xs (λ y m. h y (Contains-later x xs y m)) k l
      d (omega arith) (omega arith) e e') (h x (Contains-head x xs))

  -- terms that are 0 or 1, no two of them 1
  pub total_at_most_one : (f : X → ℤ) (xs : List X)
      → ((x : X) → Contains xs x → (f x ≡ pos 0) ⊎ (f x ≡ pos 1)) → ((k l : ℕ) (d : X) → k < l → l
      < length xs → f (get_or xs k d) ≡ pos 1 → f (get_or xs l d) ≡ pos 1 → ⊥) → total f xs ≤ℤ pos 1
  total_at_most_one f [] h n = record { le = tt }
  total_at_most_one f (x ∷ xs) h n =
      go (h x (Contains-head x xs)) (total_at_most_one f xs (λ y m. h y (Contains-later x xs y m))
      (λ k l d a b. n (suc k) (suc l) d (omega arith) (omega arith)))
      (lt_or_ge_ℤ (pos 0) (total f xs))
    where
      one_of : (y : X) → pos 0 <ℤ f y → (f y ≡ pos 0) ⊎ (f y ≡ pos 1) → f y ≡ pos 1
      one_of y p (inl e) = absurd (omega (arith, ints))
      one_of y p (inr e) = e

      again : f x ≡ pos 1 → pos 0 <ℤ total f xs → ⊥
      again e p =
          let r = total_positive f xs p in
          n 0 (suc r.1.0) x (omega arith) (let b = r.1.1 in
          omega arith) e (ap f (get_or_any xs r.1.0 x r.0 r.1.1 ∙ r.1.2)
          ∙ one_of r.0 r.2 (h r.0 (Contains-later x xs r.0 r.1)))

      go : (f x ≡ pos 0) ⊎ (f x ≡ pos 1) → total f xs ≤ℤ pos 1
          → (pos 0 <ℤ total f xs) ⊎ (total f xs ≤ℤ pos 0) → (f x +ℤ total f xs) ≤ℤ pos 1
      go (inl e) r q = none_more (f x) (total f xs) e r
      go (inr e) r (inl q) = absurd (again e q)
      go (inr e) r (inr q) = one_more (f x) (total f xs) e q

  -- a sum of zeros is zero
  pub all_none : (f : X → ℤ) (xs : List X) → ((x : X) → Contains xs x → f x ≡ pos 0)
      → total f xs ≡ pos 0
  all_none f [] h = refl
  all_none f (x ∷ xs) h = let a = h x (Contains-head x xs) in
      let b = all_none f xs (λ y k. h y (Contains-later x xs y k)) in λ i. a i +ℤ b i

  -- one entry, which stands there once, has the whole sum
  pub total_single : (f : X → ℤ) (xs : List X) (x : X) (c : ℤ) → Contains xs x
      → AllPairs (λ y z. y ≢ z) xs → f x ≡ c
      → ((y : X) → Contains xs y → (y ≡ x) ⊎ ((y ≢ x) × (f y ≡ pos 0))) → total f xs ≡ c
  total_single f [] x c m d e h = absurd (Contains-none x m)
  total_single f (y ∷ xs) x c m d e h = go (h y (Contains-head y xs)) (Contains-cases y xs x m)
      (λ k. total_single f xs x c k (λ i j z a b. d (suc i) (suc j) z (omega arith) (omega arith)) e
      (λ z n. h z (Contains-later y xs z n)))
    where
      apart : (y ≡ x) → (z : X) → Contains xs z → z ≡ x → ⊥
      apart s z n t =
          d 0 (suc n.0) z (omega arith) (let l = n.1 in omega arith) (s ∙ sym t ∙ sym n.2)

      left_none : (y ≡ x) → (z : X) → Contains xs z
          → (z ≡ x) ⊎ ((z ≢ x) × (f z ≡ pos 0)) → f z ≡ pos 0
      left_none s z n (inl t) = absurd (apart s z n t)
      left_none s z n (inr t) = t.1

      go : (y ≡ x) ⊎ ((y ≢ x) × (f y ≡ pos 0)) → (y ≡ x) ⊎ Contains xs x
          → (Contains xs x → total f xs ≡ c) → f y +ℤ total f xs ≡ c
      go (inl s) k r = same_plus_zero (f y) (total f xs) c (ap f s ∙ e)
          (all_none f xs (λ z n. left_none s z n (h z (Contains-later y xs z n))))
      go (inr s) (inl t) r = absurd (s.0 t)
      go (inr s) (inr k) r = zero_plus_same (f y) (total f xs) c s.1 (r k)

-- a sum over two lists, either first
pub total_exchanged : {X Y : Type 0} (f : X → Y → ℤ) (xs : List X) (ys : List Y)
    → total (λ x. total (f x) ys) xs ≡ total (λ y. total (λ x. f x y) xs) ys
total_exchanged f [] ys = sym (all_none (λ y. pos 0) ys (λ y h. refl))
total_exchanged f (x ∷ xs) ys = (λ i. total (f x) ys +ℤ total_exchanged f xs ys i)
    ∙ sym (total-sum (f x) (λ y. total (λ z. f z y) xs) ys)
