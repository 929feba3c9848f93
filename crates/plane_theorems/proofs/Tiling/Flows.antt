-- What balance says of one pair of indexes: as many sides and outer edges go in one direction as in
-- the other.
-- IsTurnOf faces i j k: i j k is a face, in any rotation
-- HasSide faces u v: some face has the directed side from u to v
-- turned, no_turn: a face is one in its next rotation; the empty list has none
-- is_pair u v s t: 1 where the pair (s, t) is (u, v), and 0 else
-- side_counts, side_found: a face with the side adds to the count of a pair; a face that adds to it
--   has the side
-- outer_counts: an outer edge adds to the count of its pair
-- back_of_side, back_of_outer: the reverse of a side, and of an outer edge, is a side or an outer
--   edge
use Rattle.std.proofs.Common.{◌≡◌, ◌⊎◌, ℕ, List, [], refl, ap, ◌∙◌, subst, arith}
use mathlib.Core.Logic.{inl, inr}
use mathlib.Core.Bool.{Bool, true, false, ◌&&◌}
use lib.Dec.{eqb, eqb_refl}
use borrow.Author.Tests.{eqb-true}
use Rattle.std.specs.Prelude.{ℤ, pos, ◌+ℤ◌, ◌-ℤ◌, ◌≤ℤ◌, ◌<ℤ◌, neg_ℤ, Contains}
use Rattle.std.proofs.lemmas.Int.{ints}
use Rattle.plane.specs.{Face, face}
use Rattle.plane.proofs.{at_least_one_through, lt_or_ge_ℤ, sum_of_three_not_negative}
use Rattle.plane.proofs.Signs.{first_of_three_counts, second_of_three_counts, third_of_three_counts}
use Rattle.plane_theorems.specs.{along, AreBalanced, around, IsAntisymmetric, total}
use Rattle.plane_theorems.proofs.Tiling.Totals.{Contains-none, total-difference, total_agree}
use Rattle.plane_theorems.proofs.Tiling.Totals.{total_at_least, total_nonneg, total_positive}
pub use Rattle.plane.proofs.{is_true}

-- a truth value as a whole number: 1 where it holds, 0 where it fails
abbrev pub bit : Bool → ℤ
bit true = pos 1
bit false = pos 0

-- 1 for the pair (u, v)
pub is_pair : ℕ → ℕ → ℕ → ℕ → ℤ
is_pair u v s t = bit (eqb s u && eqb t v)

-- a bit is 0 or 1
pub bit_is : (b : Bool) → (bit b ≡ pos 0) ⊎ (bit b ≡ pos 1)
bit_is true = inr refl
bit_is false = inl refl

-- for each pair (s, t), this number is 0 or 1
pub is_pair_is : (u v s t : ℕ) → (is_pair u v s t ≡ pos 0) ⊎ (is_pair u v s t ≡ pos 1)
unfolding is_pair
is_pair_is u v s t = bit_is (eqb s u && eqb t v)

-- a bit is not below 0
pub bit_nonneg : (b : Bool) → pos 0 ≤ℤ bit b
bit_nonneg true = record { le = tt }
bit_nonneg false = record { le = tt }

-- for each pair (s, t), this number is not below 0
pub is_pair_nonneg : (u v s t : ℕ) → pos 0 ≤ℤ is_pair u v s t
unfolding is_pair
is_pair_nonneg u v s t = bit_nonneg (eqb s u && eqb t v)

-- for the pair (u, v) itself, this number is 1
pub is_pair_own : (u v : ℕ) → is_pair u v u v ≡ pos 1
unfolding is_pair
is_pair_own u v = λ i. bit (is_true (eqb u u) (eqb_refl u) i && is_true (eqb v v) (eqb_refl v) i)

-- where this number is above 0, the pair (s, t) is (u, v)
pub pair_found : (u v s t : ℕ) → pos 0 <ℤ is_pair u v s t → (s ≡ u) × (t ≡ v)
unfolding is_pair
pair_found u v s t h = go (eqb s u) (eqb t v) refl refl h
  where
    go : (a b : Bool) → eqb s u ≡ a → eqb t v ≡ b → pos 0 <ℤ bit (a && b) → (s ≡ u) × (t ≡ v)
    go true true e d k = (eqb-true s u e, eqb-true t v d)
    go true false e d k = absurd k.lt
    go false b e d k = absurd k.lt

and_swapped : (a b : Bool) → (a && b) ≡ (b && a)
and_swapped true true = refl
and_swapped true false = refl
and_swapped false true = refl
and_swapped false false = refl

is_pair_back : (u v s t : ℕ) → is_pair u v t s ≡ is_pair v u s t
unfolding is_pair
is_pair_back u v s t = ap bit (and_swapped (eqb t u) (eqb s v))

one_way : ℕ → ℕ → ℕ → ℕ → ℤ
one_way u v s t = is_pair u v s t -ℤ is_pair v u s t

swapped_difference : (a b c d : ℤ) → c ≡ b → d ≡ a → a -ℤ b ≡ neg_ℤ (c -ℤ d)
swapped_difference a b c d e f = omega (arith, ints)

one_way_antisymmetric : (u v : ℕ) → IsAntisymmetric (one_way u v)
unfolding one_way
one_way_antisymmetric u v s t = swapped_difference (is_pair u v s t) (is_pair v u s t)
    (is_pair u v t s) (is_pair v u t s) (is_pair_back u v s t) (is_pair_back v u s t)

three_differences : (a b c a' b' c' : ℤ)
    → (a -ℤ a') +ℤ (b -ℤ b') +ℤ (c -ℤ c') ≡ (a +ℤ b +ℤ c) -ℤ (a' +ℤ b' +ℤ c')
three_differences a b c a' b' c' = omega (arith, ints)

around_one_way : (u v : ℕ) (f : Face)
    → around (one_way u v) f ≡ around (is_pair u v) f -ℤ around (is_pair v u) f
unfolding one_way
around_one_way u v f = three_differences (is_pair u v f.a f.b) (is_pair u v f.b f.c)
    (is_pair u v f.c f.a) (is_pair v u f.a f.b) (is_pair v u f.b f.c) (is_pair v u f.c f.a)

moved_over : (s t a b c d : ℤ) → s +ℤ t ≡ pos 0 → s ≡ a -ℤ b → t ≡ c -ℤ d → a +ℤ c ≡ b +ℤ d
moved_over s t a b c d e h k = omega (arith, ints)

-- as many sides and outer edges go from u to v as from v to u
as_many_back : (faces : List Face) (outer : List (ℕ × ℕ)) → AreBalanced faces outer → (u v : ℕ)
    → total (around (is_pair u v)) faces +ℤ total (along (is_pair u v)) outer
    ≡ total (around (is_pair v u)) faces +ℤ total (along (is_pair v u)) outer
unfolding one_way
as_many_back faces outer balanced u v =
    moved_over (total (around (one_way u v)) faces) (total (along (one_way u v)) outer)
    (total (around (is_pair u v)) faces) (total (around (is_pair v u)) faces)
    (total (along (is_pair u v)) outer) (total (along (is_pair v u)) outer)
    (balanced (one_way u v) (one_way_antisymmetric u v))
    (total_agree (around (one_way u v))
    (λ f. around (is_pair u v) f -ℤ around (is_pair v u) f) faces (λ f _. around_one_way u v f)
    ∙ total-difference (around (is_pair u v)) (around (is_pair v u)) faces)
    (total-difference (along (is_pair u v)) (along (is_pair v u)) outer)

-- round a face, the sum of these numbers is not below 0
pub around_nonneg : (u v : ℕ) (f : Face) → pos 0 ≤ℤ around (is_pair u v) f
around_nonneg u v f =
    sum_of_three_not_negative (is_pair u v f.a f.b) (is_pair u v f.b f.c) (is_pair u v f.c f.a)
    (is_pair_nonneg u v f.a f.b) (is_pair_nonneg u v f.b f.c) (is_pair_nonneg u v f.c f.a)

-- i j k is a face, in this rotation or another
abbrev pub IsTurnOf : List Face → ℕ → ℕ → ℕ → Type 0
IsTurnOf faces i j k = Contains faces (face i j k)
    ⊎ (Contains faces (face j k i) ⊎ Contains faces (face k i j))

-- the way from u to v is a side of one of the faces
abbrev pub HasSide : List Face → ℕ → ℕ → Type 0
HasSide faces u v = (k : ℕ) × IsTurnOf faces u v k

-- where there is no face
pub no_turn : (i j k : ℕ) → IsTurnOf [] i j k → ⊥
no_turn i j k (inl h) = Contains-none (face i j k) h
no_turn i j k (inr (inl h)) = Contains-none (face j k i) h
no_turn i j k (inr (inr h)) = Contains-none (face k i j) h

-- a face is one in its next rotation
pub turned : (faces : List Face) (i j k : ℕ) → IsTurnOf faces i j k → IsTurnOf faces j k i
turned faces i j k (inl h) = inr (inr h)
turned faces i j k (inr (inl h)) = inl h
turned faces i j k (inr (inr h)) = inr (inl h)

-- where a sum of three is above 0, one of them is
pub one_of_three : (a b c : ℤ) → pos 0 <ℤ (a +ℤ b +ℤ c)
    → (pos 0 <ℤ a) ⊎ ((pos 0 <ℤ b) ⊎ (pos 0 <ℤ c))
one_of_three a b c h = go (lt_or_ge_ℤ (pos 0) a) (lt_or_ge_ℤ (pos 0) b)
  where
    go : (pos 0 <ℤ a) ⊎ (a ≤ℤ pos 0) → (pos 0 <ℤ b) ⊎ (b ≤ℤ pos 0)
        → (pos 0 <ℤ a) ⊎ ((pos 0 <ℤ b) ⊎ (pos 0 <ℤ c))
    go (inl k) l = inl k
    go (inr k) (inl l) = inr (inl l)
    go (inr k) (inr l) = inr (inr (omega (arith, ints)))

-- a face that counts has the side
pub side_found : (faces : List Face) (u v : ℕ) (f : Face) → Contains faces f
    → pos 0 <ℤ around (is_pair u v) f → HasSide faces u v
side_found faces u v f here h =
    go (one_of_three (is_pair u v f.a f.b) (is_pair u v f.b f.c) (is_pair u v f.c f.a) h)
  where
    go : (pos 0 <ℤ is_pair u v f.a f.b)
        ⊎ ((pos 0 <ℤ is_pair u v f.b f.c) ⊎ (pos 0 <ℤ is_pair u v f.c f.a)) → HasSide faces u v
    go (inl k) = let e = pair_found u v f.a f.b k in
        (f.c, inl (subst (Contains faces) (λ i. face (e.0 i) (e.1 i) f.c) here))
    go (inr (inl k)) = let e = pair_found u v f.b f.c k in
        (f.a, inr (inr (subst (Contains faces) (λ i. face f.a (e.0 i) (e.1 i)) here)))
    go (inr (inr k)) = let e = pair_found u v f.c f.a k in
        (f.b, inr (inl (subst (Contains faces) (λ i. face (e.1 i) f.b (e.0 i)) here)))

-- and a side counts
pub side_counts : (faces : List Face) (u v : ℕ) → HasSide faces u v
    → pos 1 ≤ℤ total (around (is_pair u v)) faces
side_counts faces u v s = go s.1
  where
    by : (f : Face) → Contains faces f → pos 1 ≤ℤ around (is_pair u v) f
        → pos 1 ≤ℤ total (around (is_pair u v)) faces
    by f here h =
        at_least_one_through (around (is_pair u v) f) (total (around (is_pair u v)) faces) h
        (total_at_least (around (is_pair u v)) faces (λ g _. around_nonneg u v g) f here)

    go : IsTurnOf faces u v s.0 → pos 1 ≤ℤ total (around (is_pair u v)) faces
    go (inl h) = by (face u v s.0) h (first_of_three_counts (is_pair u v u v) (is_pair u v v s.0)
        (is_pair u v s.0 u) (is_pair_own u v) (is_pair_nonneg u v v s.0) (is_pair_nonneg u v s.0 u))
    go (inr (inl h)) =
        by (face v s.0 u) h (third_of_three_counts (is_pair u v v s.0) (is_pair u v s.0 u)
        (is_pair u v u v) (is_pair_own u v) (is_pair_nonneg u v v s.0) (is_pair_nonneg u v s.0 u))
    go (inr (inr h)) =
        by (face s.0 u v) h (second_of_three_counts (is_pair u v s.0 u) (is_pair u v u v)
        (is_pair u v v s.0) (is_pair_own u v) (is_pair_nonneg u v s.0 u) (is_pair_nonneg u v v s.0))

-- an outer edge is counted at least once among the outer edges
pub outer_counts : (outer : List (ℕ × ℕ)) (u v : ℕ) → Contains outer (u, v)
    → pos 1 ≤ℤ total (along (is_pair u v)) outer
outer_counts outer u v h =
    from (total (along (is_pair u v)) outer) (is_pair u v u v) (is_pair_own u v)
    (total_at_least (along (is_pair u v)) outer (λ e _. is_pair_nonneg u v e.0 e.1) (u, v) h)
  where
    from : (t a : ℤ) → a ≡ pos 1 → a ≤ℤ t → pos 1 ≤ℤ t
    from t a e h = omega (arith, ints)

-- where a + b is at least 1 and is c + d too, c or d is above 0
pub either : (a b c d : ℤ) → pos 1 ≤ℤ (a +ℤ b) → a +ℤ b ≡ c +ℤ d → (pos 0 <ℤ c) ⊎ (pos 0 <ℤ d)
either a b c d h e = go (lt_or_ge_ℤ (pos 0) c)
  where
    go : (pos 0 <ℤ c) ⊎ (c ≤ℤ pos 0) → (pos 0 <ℤ c) ⊎ (pos 0 <ℤ d)
    go (inl k) = inl k
    go (inr k) = inr (omega (arith, ints))

-- a pair that is counted among sides or outer edges is a side or an outer edge
pub back_from_count : (faces : List Face) (outer : List (ℕ × ℕ)) (u v : ℕ)
    → (pos 0 <ℤ total (around (is_pair u v)) faces) ⊎ (pos 0 <ℤ total (along (is_pair u v)) outer)
    → HasSide faces u v ⊎ Contains outer (u, v)
back_from_count faces outer u v (inl h) =
    let r = total_positive (around (is_pair u v)) faces h in inl (side_found faces u v r.0 r.1 r.2)
back_from_count faces outer u v (inr h) = let r = total_positive (along (is_pair u v)) outer h in
    let e = pair_found u v r.0.0 r.0.1 r.2 in inr (subst (Contains outer) (λ i. (e.0 i, e.1 i)) r.1)

plus_nonneg : (a b : ℤ) → pos 1 ≤ℤ a → pos 0 ≤ℤ b → pos 1 ≤ℤ (a +ℤ b)
plus_nonneg a b h k = omega (arith, ints)

plus_nonneg' : (a b : ℤ) → pos 0 ≤ℤ a → pos 1 ≤ℤ b → pos 1 ≤ℤ (a +ℤ b)
plus_nonneg' a b h k = omega (arith, ints)

-- the way back of a side, or of an outer edge, is a side or an outer edge
pub back_of_side : (faces : List Face) (outer : List (ℕ × ℕ)) → AreBalanced faces outer → (u v : ℕ)
    → HasSide faces u v → HasSide faces v u ⊎ Contains outer (v, u)
back_of_side faces outer balanced u v s = back_from_count faces outer v u
    (either (total (around (is_pair u v)) faces) (total (along (is_pair u v)) outer)
    (total (around (is_pair v u)) faces) (total (along (is_pair v u)) outer)
    (plus_nonneg (total (around (is_pair u v)) faces) (total (along (is_pair u v)) outer)
    (side_counts faces u v s) (total_nonneg (along (is_pair u v)) outer
    (λ e _. is_pair_nonneg u v e.0 e.1))) (as_many_back faces outer balanced u v))

-- the way back of an outer edge is a side or an outer edge
pub back_of_outer : (faces : List Face) (outer : List (ℕ × ℕ)) → AreBalanced faces outer → (u v : ℕ)
    → Contains outer (u, v) → HasSide faces v u ⊎ Contains outer (v, u)
back_of_outer faces outer balanced u v s = back_from_count faces outer v u
    (either (total (around (is_pair u v)) faces) (total (along (is_pair u v)) outer)
    (total (around (is_pair v u)) faces) (total (along (is_pair v u)) outer)
    (plus_nonneg' (total (around (is_pair u v)) faces) (total (along (is_pair u v)) outer)
    (total_nonneg (around (is_pair u v)) faces (λ f _. around_nonneg u v f))
    (outer_counts outer u v s)) (as_many_back faces outer balanced u v))
