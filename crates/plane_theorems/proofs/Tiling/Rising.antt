-- Vertices in the order of a height: each way rises or falls. Faces and outer edges are counted by
-- the vertex at which they begin to rise again, which gives the number of edges.
-- Notions: up, rise; greatest, not_equal, equal, first, total_first, total_ones, begins_at,
-- leaves, leaves_found, leaves_bits, leaves_nonneg, leaves_counted, rises_nowhere, rises_once,
-- second_rise, count_at, total_counts, edges_counted, below_top.
use Rattle.std.proofs.Common.{◌≡◌, ◌⊎◌, ◌<◌, ◌≤◌, [], ◌∷◌, ◌∙◌}
use Rattle.std.proofs.Common.{ℕ, zero, suc, List, length, get_or, refl, sym, ap, subst, arith}
use mathlib.Core.Logic.{inl, inr, ◌≢◌}
use mathlib.Core.Bool.{Bool, true, false, ◌&&◌}
use lib.Dec.{eqb, eqb_refl}
use borrow.Author.Tests.{eqb-true}
use Rattle.std.specs.Prelude.{ℤ, pos, ◌+ℤ◌, ◌<ℤ◌, ◌≤ℤ◌, int_lt, Contains, AllPairs}
use Rattle.std.proofs.lemmas.Int.{ints}
use Rattle.std.proofs.lemmas.Bool.{cases_eq, cases_lt}
use Rattle.plane.proofs.{at_most_both_ways, below_and_not_below, below_or_last, is_true}
use Rattle.plane.proofs.{less_both_ways, less_by_test, lt_or_ge_ℤ, one_is_above_zero}
use Rattle.{plane.proofs.same_is_at_most, plane.proofs.test_true, plane.specs.Face}
use Rattle.plane.proofs.Signs.{at_most_then_less, less_in_a_ring, same_plus_zero, zero_plus_same}
use Rattle.plane_theorems.specs.{along, AreEdgesOf, around, total}
use Rattle.plane_theorems.proofs.Tiling.Flows.{bit, bit_is, bit_nonneg}
use Rattle.plane_theorems.proofs.Tiling.Totals.{get_or_any, total-sum, total_agree, total_at_least}
use Rattle.plane_theorems.proofs.Tiling.Totals.{total_at_most_one, total_exchanged}

-- ---- the greatest of some numbers
-- of finitely many numbers one is the greatest
pub greatest : (f : ℕ → ℤ) (n : ℕ) → 0 < n → (k : ℕ) × (k < n) × ((j : ℕ) → j < n → f j ≤ℤ f k)
greatest f zero h = absurd (omega arith)
greatest f (suc n) h = go (cases_lt 0 n) (greatest f n)
  where
    wide : {k : ℕ} → k < n → k < suc n
    wide h = omega arith

    none : {j : ℕ} → j < n → n ≤ 0 → ⊥
    none h k = omega arith

    longer : (k : ℕ) × (k < n) × ((j : ℕ) → j < n → f j ≤ℤ f k)
        → (k : ℕ) × (k < suc n) × ((j : ℕ) → j < suc n → f j ≤ℤ f k)
    longer (k, h, top) = elim (lt_or_ge_ℤ (f k) (f n)) [
      | inl l ↦ (
        n,
        omega arith,
        λ j i. elim (below_or_last n j i) [
          | inl b ↦ at_most_then_less (f j) (f k) (f n) (top j b) l
          | inr e ↦ same_is_at_most (f j) (f n) (ap f e)
        ],
      )
      | inr l ↦ (
        k,
        wide h,
        λ j i. elim
            (below_or_last n j i) [ inl b ↦ top j b | inr e ↦ subst (λ o. f o ≤ℤ f k) (sym e) l ],
      )
    ]

    go : (0 < n) ⊎ (n ≤ 0) → (0 < n → (k : ℕ) × (k < n) × ((j : ℕ) → j < n → f j ≤ℤ f k))
        → (k : ℕ) × (k < suc n) × ((j : ℕ) → j < suc n → f j ≤ℤ f k)
    go (inl l) rest = longer (rest l)
    go (inr l) rest = (
      n,
      omega arith,
      λ j i. elim (below_or_last n j i)
          [ inl b ↦ absurd (none b l) | inr e ↦ same_is_at_most (f j) (f n) (ap f e) ],
    )

-- ---- tests

if_falls : (a b : ℤ) → int_lt a b ≡ false → b ≤ℤ a
if_falls a b e =
    elim (lt_or_ge_ℤ a b) [ inl l ↦ absurd (let f = test_true a b l in cc) | inr l ↦ l ]

-- the test whether two numbers are equal fails where they differ
pub not_equal : (a b : ℕ) → a ≢ b → eqb a b ≡ false
not_equal a b n = go (eqb a b) refl
  where
    go : (t : Bool) → eqb a b ≡ t → t ≡ false
    go true e = absurd (n (eqb-true a b e))
    go false e = refl

-- the test whether two numbers are equal holds of a number and itself
pub equal : (a : ℕ) → eqb a a ≡ true
equal a = is_true (eqb a a) (eqb_refl a)

-- ---- the first n numbers
-- the numbers below n, the last one first
pub first : ℕ → List ℕ
first zero = []
first (suc n) = n ∷ first n

length_first : (n : ℕ) → length (first n) ≡ n
unfolding first
length_first zero = refl
length_first (suc n) = ap suc (length_first n)

module _ (f : ℕ → ℤ) where
  -- sums over the numbers below n of equal terms are equal
  pub total_first : (g : ℕ → ℤ) (n : ℕ) → ((k : ℕ) → k < n → f k ≡ g k)
      → total f (first n) ≡ total g (first n)
  unfolding first
  total_first g zero h = refl
  total_first g (suc n) h = λ i. h n (omega arith) i +ℤ total_first g n (λ k l. h k (omega arith)) i

at_other : (b : Bool) (v s : ℕ) → v ≢ s → bit (eqb v s && b) ≡ pos 0
at_other b v s n = λ i. bit (not_equal v s n i && b)

at_own : (b : Bool) (v s : ℕ) → v ≡ s → bit (eqb v s && b) ≡ bit b
at_own b v s e = (λ i. bit (eqb (e i) s && b)) ∙ (λ i. bit (equal s i && b))

none_of_first : (b : Bool) (n s : ℕ) → n < suc s → total (λ v. bit (eqb v s && b)) (first n) ≡ pos 0
unfolding first
none_of_first b zero s h = refl
none_of_first b (suc n) s h =
    zero_plus_same (bit (eqb n s && b)) (total (λ v. bit (eqb v s && b)) (first n)) (pos 0)
    (at_other b n s (omega arith)) (none_of_first b n s (omega arith))

-- one of the first n numbers, counted where a test holds
one_of_first : (b : Bool) (n s : ℕ) → s < n → total (λ v. bit (eqb v s && b)) (first n) ≡ bit b
unfolding first
one_of_first b zero s h = absurd (omega arith)
one_of_first b (suc n) s h = go (one_of_first b n s) (cases_eq n s)
  where
    below : s < suc n → (n ≡ s → ⊥) → s < n
    below h e = omega arith

    go : (s < n → total (λ v. bit (eqb v s && b)) (first n) ≡ bit b) → (n ≡ s) ⊎ (n ≡ s → ⊥)
        → bit (eqb n s && b) +ℤ total (λ v. bit (eqb v s && b)) (first n) ≡ bit b
    go rest (inl e) =
        same_plus_zero (bit (eqb n s && b)) (total (λ v. bit (eqb v s && b)) (first n)) (bit b)
        (at_own b n s e) (none_of_first b n s (omega arith))
    go rest (inr e) = zero_plus_same (bit (eqb n s && b))
        (total (λ v. bit (eqb v s && b)) (first n)) (bit b) (at_other b n s e) (rest (below h e))

-- the sum of ones over a list is its length
pub total_ones : {X : Type 0} (xs : List X) → total (λ x. pos 1) xs ≡ pos (length xs)
total_ones [] = refl
total_ones (x ∷ xs) = more (total (λ x. pos 1) xs) (length xs) (total_ones xs)
  where
    more : (t : ℤ) (n : ℕ) → t ≡ pos n → pos 1 +ℤ t ≡ pos (suc n)
    more t n d = omega (arith, ints)

-- of the three sides of a triangle one or two rise: two, where two that follow one another do
rising_sides : (x y z : Bool) → ((x ≡ true) → (y ≡ true) → (z ≡ true) → ⊥)
    → ((x ≡ false) → (y ≡ false) → (z ≡ false) → ⊥)
    → bit x +ℤ bit y +ℤ bit z ≡ pos 1 +ℤ (bit (x && z) +ℤ bit (y && x) +ℤ bit (z && y))
rising_sides true true true n m = absurd (n refl refl refl)
rising_sides true true false n m = refl
rising_sides true false true n m = refl
rising_sides true false false n m = refl
rising_sides false true true n m = refl
rising_sides false true false n m = refl
rising_sides false false true n m = refl
rising_sides false false false n m = absurd (m refl refl refl)

module _ (height : ℕ → ℤ) where
  -- whether the second vertex is above the first
  abbrev pub up : ℕ → ℕ → Bool
  up s t = int_lt (height s) (height t)

  -- v is s, where the sides from r and to t both rise
  abbrev begins : ℕ → ℕ → ℕ → ℕ → ℤ
  begins v s t r = bit (eqb v s && (up s t && up r s))

  -- v is the corner of f at which a second side rises
  unfoldable pub begins_at : ℕ → Face → ℤ
  begins_at v f = begins v f.a f.b f.c +ℤ begins v f.b f.c f.a +ℤ begins v f.c f.a f.b

  -- an outer edge rises from v
  unfoldable pub leaves : ℕ → ℕ × ℕ → ℤ
  leaves v e = bit (eqb v e.0 && up e.0 e.1)

  -- an outer edge that counts
  pub leaves_found : (v : ℕ) (e : ℕ × ℕ) → pos 0 <ℤ leaves v e
      → (v ≡ e.0) × (height e.0 <ℤ height e.1)
  unfolding leaves
  leaves_found v e h = go (eqb v e.0) (up e.0 e.1) refl refl h
    where
      go : (x y : Bool) → eqb v e.0 ≡ x → up e.0 e.1 ≡ y → pos 0 <ℤ bit (x && y)
          → (v ≡ e.0) × (height e.0 <ℤ height e.1)
      go true true a b k = (eqb-true v e.0 a, less_by_test (height e.0) (height e.1) b)
      go true false a b k = absurd k.lt
      go false y a b k = absurd k.lt

  -- an edge leaves a vertex once or not at all
  pub leaves_bits : (v : ℕ) (e : ℕ × ℕ) → (leaves v e ≡ pos 0) ⊎ (leaves v e ≡ pos 1)
  unfolding leaves
  leaves_bits v e = bit_is (eqb v e.0 && up e.0 e.1)

  -- no edge leaves a vertex less than not at all
  pub leaves_nonneg : (v : ℕ) (e : ℕ × ℕ) → pos 0 ≤ℤ leaves v e
  unfolding leaves
  leaves_nonneg v e = bit_nonneg (eqb v e.0 && up e.0 e.1)

  -- a rising outer edge from a vertex is counted there
  pub leaves_counted : (v : ℕ) (outer : List (ℕ × ℕ)) (a : ℕ) → Contains outer (v, a)
      → height v <ℤ height a → pos 1 ≤ℤ total (leaves v) outer
  unfolding leaves
  leaves_counted v outer a here h = at_least (leaves v (v, a)) (total (leaves v) outer)
      (λ i. bit (equal v i && test_true (height v) (height a) h i))
      (total_at_least (leaves v) outer (λ e _. leaves_nonneg v e) (v, a) here)
    where
      at_least : (a b : ℤ) → a ≡ pos 1 → a ≤ℤ b → pos 1 ≤ℤ b
      at_least a b e h = omega (arith, ints)

  -- where nothing at the upper end of an edge lies above v, no edge rises from v
  pub rises_nowhere : (v : ℕ) (outer : List (ℕ × ℕ))
      → ((e : ℕ × ℕ) → Contains outer e → height e.1 ≤ℤ height v) → (e : ℕ × ℕ) → Contains outer e
      → leaves v e ≡ pos 0
  rises_nowhere v outer top e h = go (leaves_bits v e)
    where
      go : (leaves v e ≡ pos 0) ⊎ (leaves v e ≡ pos 1) → leaves v e ≡ pos 0
      go (inl x) = x
      go (inr x) = absurd (let r = leaves_found v e (one_is_above_zero x) in
          below_and_not_below (height v) (height e.1)
          (subst (λ o. height o <ℤ height e.1) (sym r.0) r.1) (top e h))

  -- where two edges that rise from v have one end, at most one of them rises from v
  pub rises_once : (v : ℕ) (outer : List (ℕ × ℕ)) → AllPairs (λ d e. d ≢ e) outer
      → ((a b : ℕ) → Contains outer (v, a) → Contains outer (v, b) → height v <ℤ height a
      → height v <ℤ height b → a ≡ b) → total (leaves v) outer ≤ℤ pos 1
  rises_once v outer once same = total_at_most_one (leaves v) outer (λ e _. leaves_bits v e) twice
    where
      twice : (k l : ℕ) (d : ℕ × ℕ) → k < l → l < length outer → leaves v (get_or outer k d) ≡ pos 1
          → leaves v (get_or outer l d) ≡ pos 1 → ⊥
      twice k l d low high e e' =
          let f = get_or outer k d in
          let g = get_or outer l d in
          let x = leaves_found v f (one_is_above_zero e) in
          let y = leaves_found v g (one_is_above_zero e') in
          let here : Contains outer f = (k, omega arith, get_or_any outer k f d (omega arith)) in
          let there : Contains outer g = (l, high, get_or_any outer l g d high) in
          once k l d low high
          (λ i. (
            (sym x.0 ∙ y.0) i,
            same f.1 g.1 (subst (λ o. Contains outer (o, f.1)) (sym x.0)
                here) (subst (λ o. Contains outer (o, g.1)) (sym y.0) there) (subst (λ o. height o
                <ℤ height f.1) (sym x.0) x.1) (subst (λ o. height o <ℤ height g.1) (sym y.0) y.1) i,
          ))

  -- 1 where the second vertex is above the first, and 0 elsewhere
  abbrev pub rise : ℕ → ℕ → ℤ
  rise s t = bit (up s t)

  -- 1 where two sides of a face that follow each other rise, and 0 elsewhere
  pub second_rise : Face → ℤ
  second_rise f = bit (up f.a f.b && up f.c f.a) +ℤ bit (up f.b f.c && up f.a f.b)
      +ℤ bit (up f.c f.a && up f.b f.c)

  -- how many faces have their second rise at a vertex, and outer edges rise from it
  unfoldable pub count_at : List Face → List (ℕ × ℕ) → ℕ → ℤ
  count_at faces outer v = total (begins_at v) faces +ℤ total (leaves v) outer

  begins_once : (n : ℕ) (f : Face) → f.a < n → f.b < n → f.c < n
      → total (λ v. begins_at v f) (first n) ≡ second_rise f
  unfolding begins_at second_rise
  begins_once n f a b c =
      total-sum (λ v. begins v f.a f.b f.c +ℤ begins v f.b f.c f.a)
      (λ v. begins v f.c f.a f.b) (first n)
      ∙ (λ i. total-sum (λ v. begins v f.a f.b f.c) (λ v. begins v f.b f.c f.a) (first n) i
      +ℤ total (λ v. begins v f.c f.a f.b) (first n))
      ∙ (λ i. one_of_first (up f.a f.b && up f.c f.a) n f.a a i +ℤ one_of_first
      (up f.b f.c && up f.a f.b) n f.b b i +ℤ one_of_first (up f.c f.a && up f.b f.c) n f.c c i)

  leaves_once : (n : ℕ) (e : ℕ × ℕ) → e.0 < n → total (λ v. leaves v e) (first n) ≡ rise e.0 e.1
  unfolding leaves
  leaves_once n e a = one_of_first (up e.0 e.1) n e.0 a

  -- counted over all vertices
  pub total_counts : (n : ℕ) (faces : List Face) (outer : List (ℕ × ℕ))
      → ((f : Face) → Contains faces f → (f.a < n) × (f.b < n) × (f.c < n))
      → ((e : ℕ × ℕ) → Contains outer e → e.0 < n)
      → total (count_at faces outer) (first n) ≡ total second_rise faces +ℤ total (along rise) outer
  unfolding count_at
  total_counts n faces outer corners ends =
      total-sum (λ v. total (begins_at v) faces) (λ v. total (leaves v) outer) (first n)
      ∙ (λ i. total_exchanged begins_at (first n) faces i
      +ℤ total_exchanged leaves (first n) outer i)
      ∙ (λ i. total_agree (λ f. total (λ v. begins_at v f) (first n)) second_rise faces
      (λ f h. let c = corners f h in begins_once n f c.0 c.1 c.2) i +ℤ total_agree (λ e. total
      (λ v. leaves v e) (first n)) (along rise) outer (λ e h. leaves_once n e (ends e h)) i)

  module _ (n : ℕ) (distinct : (i j : ℕ) → i < n → j < n → i ≢ j → ¬ (height i ≡ height j)) where
    -- one of the two ways of an edge rises
    one_way_rises : (s t : ℕ) → s < n → t < n → s ≢ t → rise s t +ℤ rise t s ≡ pos 1
    one_way_rises s t hs ht a = go (up s t) (up t s) refl refl
      where
        go : (x y : Bool) → up s t ≡ x → up t s ≡ y → bit (up s t) +ℤ bit (up t s) ≡ pos 1
        go true true e d = absurd (less_both_ways (height s) (height t)
            (less_by_test (height s) (height t) e) (less_by_test (height t) (height s) d))
        go true false e d = λ i. bit (e i) +ℤ bit (d i)
        go false true e d = λ i. bit (e i) +ℤ bit (d i)
        go false false e d = absurd (distinct s t hs ht a (at_most_both_ways (height s) (height t)
            (if_falls (height t) (height s) d) (if_falls (height s) (height t) e)))

    around_rise : (f : Face) → f.a < n → f.b < n → f.a ≢ f.b
        → around rise f ≡ pos 1 +ℤ second_rise f
    unfolding second_rise
    around_rise f ha hb a = rising_sides (up f.a f.b) (up f.b f.c) (up f.c f.a)
        (λ x y z. less_in_a_ring (height f.a) (height f.b) (height f.c)
        (less_by_test (height f.a) (height f.b) x) (less_by_test (height f.b) (height f.c) y)
        (less_by_test (height f.c) (height f.a) z))
        (λ x y z. distinct f.a f.b ha hb a
        (level (height f.a) (height f.b) (height f.c) (if_falls (height f.a) (height f.b) x)
        (if_falls (height f.b) (height f.c) y) (if_falls (height f.c) (height f.a) z)))
      where
        level : (a b c : ℤ) → b ≤ℤ a → c ≤ℤ b → a ≤ℤ c → a ≡ b
        level a b c h k l = omega (arith, ints)

    -- as many edges as faces and vertices below the top
    pub edges_counted : (faces : List Face) (outer edges : List (ℕ × ℕ))
        → AreEdgesOf faces outer edges
        → ((f : Face) → Contains faces f → (f.a < n) × (f.b < n) × (f.c < n) × (f.a ≢ f.b))
        → ((e : ℕ × ℕ) → Contains outer e → e.0 < n)
        → ((e : ℕ × ℕ) → Contains edges e → (e.0 < n) × (e.1 < n) × (e.0 ≢ e.1)) → total
        (λ e. pos 1) edges ≡ total (λ f. pos 1) faces +ℤ total (count_at faces outer) (first n)
    edges_counted faces outer edges own corners ends apart =
        total_agree (λ e. pos 1) (λ e. rise e.0 e.1 +ℤ rise e.1 e.0) edges
        (λ e h. let c = apart e h in sym (one_way_rises e.0 e.1 c.0 c.1 c.2))
        ∙ own rise
        ∙ (λ i. total_agree (around rise) (λ f. pos 1 +ℤ second_rise f) faces
        (λ f h. let c = corners f h in around_rise f c.0 c.1 c.3) i +ℤ total (along rise) outer)
        ∙ (λ i. total-sum (λ f. pos 1) second_rise faces i +ℤ total (along rise) outer)
        ∙ gathered (total (λ f. pos 1) faces) (total second_rise faces) (total (along rise) outer)
        (total (count_at faces outer) (first n))
        (total_counts n faces outer (λ f h. let c = corners f h in (c.0, c.1, c.2)) ends)
      where
        gathered : (a b c d : ℤ) → d ≡ b +ℤ c → (a +ℤ b) +ℤ c ≡ a +ℤ d
        gathered a b c d e = omega (arith, ints)

-- ---- where each vertex but the top one, and that one not, is counted once
-- a sum that counts each vertex but the top once is one less than their number
pub below_top : (f : ℕ → ℤ) (n top : ℕ) → top < n
    → ((v : ℕ) → v < n → ((v ≡ top) × (f v ≡ pos 0)) ⊎ ((v ≢ top) × (f v ≡ pos 1)))
    → total f (first n) +ℤ pos 1 ≡ pos n
below_top f n top h each =
    (λ i. total f (first n) +ℤ sym (one_of_first true n top h) i)
    ∙ sym (total-sum f (λ v. bit (eqb v top && true)) (first n))
    ∙ total_first (λ v. f v +ℤ bit (eqb v top && true)) (λ v. pos 1) n
    (λ v k. with_top v (each v k))
    ∙ total_ones (first n) ∙ ap pos (length_first n)
  where
    with_top : (v : ℕ) → ((v ≡ top) × (f v ≡ pos 0)) ⊎ ((v ≢ top) × (f v ≡ pos 1))
        → f v +ℤ bit (eqb v top && true) ≡ pos 1
    with_top v (inl e) =
        zero_plus_same (f v) (bit (eqb v top && true)) (pos 1) e.1 (at_own true v top e.0)
    with_top v (inr e) =
        same_plus_zero (f v) (bit (eqb v top && true)) (pos 1) e.1 (at_other true v top e.0)
