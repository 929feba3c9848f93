-- Neighbours on a line: a vertex with none is the only one, none has three, no three are neighbours
-- of one another, and two with no further ones are all.
-- Notions: HaveOwnHeights; spot, own_spots, below_edge, one_above, lone_vertex, lone_vertex_goes,
-- apart_neighbours, two_neighbours, only_pair.
use Rattle.std.proofs.Common.{◌≡◌, ◌⊎◌, ℕ, ◌<◌, List, length, sym, ap, subst, arith}
use mathlib.Core.Logic.{inl, inr, ◌≢◌}
use Rattle.std.specs.Prelude.{ℤ, pos, ◌-ℤ◌, ◌<ℤ◌, Contains}
use Rattle.std.proofs.lemmas.Int.{ints}
use Rattle.std.proofs.lemmas.Bool.{cases_eq}
use Rattle.plane.specs.{IsIndex, Point, whole}
use Rattle.plane.proofs.{at_most_both_ways, below_and_not_below, bracket, bracket-outer}
use Rattle.plane.proofs.{less_twice_is_not_same, lift, lt_or_ge_ℤ}
use Rattle.plane_theorems.specs.{LineMesh, LineMeshWithout}
use Rattle.plane_theorems.proofs.{Adjoin, at, line_by_signs, next_turned, point_at, SignLine}
use Rattle.plane_theorems.proofs.Tiling.LinePlaces as O

-- different vertices have different heights
abbrev pub HaveOwnHeights : (ℕ → ℤ) → ℕ → Type 0
HaveOwnHeights height n = (i j : ℕ) → i < n → j < n → i ≢ j → ¬ (height i ≡ height j)

-- ---- places along the line from vertex a to another vertex b
module _ (n : ℕ) (p : ℕ → Point) (outer : List (ℕ × ℕ)) (m : SignLine n p outer) (a b : ℕ)
    (a_in : a < n) (b_in : b < n) (apart : a ≢ b) where
  level : bracket (at p a) (at p b) (lift (p a)) ≡ pos 0
  level = bracket-outer (at p a) (at p b)

  -- b is not a either
  abbrev back : b ≢ a
  back e = apart (sym e)

  level' : bracket (at p b) (at p a) (lift (p a)) ≡ pos 0
  level' = O.turned_level n p outer m (whole (p a)) a b a_in b_in apart level

  -- how far along the line from a to b a vertex lies
  pub spot : ℕ → ℤ
  spot = O.spot n p outer m (whole (p a)) a b a_in b_in apart level

  -- the other way along
  spot' : ℕ → ℤ
  spot' = O.spot n p outer m (whole (p a)) b a b_in a_in back level'

  -- the place of a on the line from a to b
  mark : ℤ
  mark = O.mark n p outer m (whole (p a)) a b a_in b_in apart level

  -- its place the other way along
  mark' : ℤ
  mark' = O.mark n p outer m (whole (p a)) b a b_in a_in back level'

  from_marks : (j : ℕ) → spot' j -ℤ mark' ≡ mark -ℤ spot j
  unfolding spot spot' mark mark' level
  from_marks j = O.turned_spots n p outer m (whole (p a)) a b a_in b_in apart level level' j

  turned_order : (i j : ℕ) → spot' j -ℤ spot' i ≡ spot i -ℤ spot j
  turned_order i j =
      shifted (spot' i) (spot' j) mark' (spot i) (spot j) mark (from_marks i) (from_marks j)
    where
      shifted : (x y c s t d : ℤ) → x -ℤ c ≡ d -ℤ s → y -ℤ c ≡ d -ℤ t → y -ℤ x ≡ s -ℤ t
      shifted x y c s t d h k = omega (arith, ints)

  -- different vertices are at different places
  pub own_spots : HaveOwnHeights spot n
  unfolding spot
  own_spots i j hi hj d e =
      d (O.same_spot n p outer m (whole (p a)) a b a_in b_in apart level i j hi hj e)

  upper : (w : ℕ) → w < n → (j : ℕ) → O.IsBelow spot' n (spot' w) j → Contains outer (w, j)
  unfolding spot'
  upper = O.lower_edge n p outer m (whole (p a)) b a b_in a_in back level'

  under : (x y c d : ℤ) → y -ℤ x ≡ c -ℤ d → d <ℤ c → x <ℤ y
  under x y c d e h = omega (arith, ints)

  -- of two equal differences, where the one is a rise the other is too
  over : (x y c d : ℤ) → y -ℤ x ≡ c -ℤ d → x <ℤ y → d <ℤ c
  over x y c d e h = omega (arith, ints)

  differ : (i j : ℕ) → i < n → j < n → i ≢ j → (spot i <ℤ spot j) ⊎ (spot j <ℤ spot i)
  differ i j hi hj d = elim (lt_or_ge_ℤ (spot i) (spot j)) [
    | inl l ↦ inl l
    | inr l ↦ elim (lt_or_ge_ℤ (spot j) (spot i)) [
      | inl h ↦ inr h
      | inr h ↦ absurd (own_spots i j hi hj d (at_most_both_ways (spot i) (spot j) h l))
    ]
  ]

  -- with a vertex below it, w has a neighbour below it
  pub below_edge : (w x : ℕ) → w < n → x < n → spot x <ℤ spot w
      → (j : ℕ) × Contains outer (w, j) × (spot j <ℤ spot w)
  unfolding spot level
  below_edge w x hw hx l = elim (O.nearest_below spot n (spot w)) [
    | inl s ↦ (
      s.0,
      O.lower_edge n p outer m (whole (p a)) a b a_in b_in apart level w hw s.0 s.1,
      s.1.below,
    )
    | inr none ↦ absurd (below_and_not_below (spot x) (spot w) l (none x hx))
  ]

  -- and likewise above
  above_edge : (w x : ℕ) → w < n → x < n → spot w <ℤ spot x
      → (j : ℕ) × Contains outer (w, j) × (spot w <ℤ spot j)
  above_edge w x hw hx l = elim (O.nearest_below spot' n (spot' w)) [
    | inl s ↦ (
      s.0,
      upper w hw s.0 s.1,
      over (spot' s.0) (spot' w) (spot s.0) (spot w) (turned_order s.0 w) s.1.below,
    )
    | inr none ↦ absurd (below_and_not_below (spot' x) (spot' w)
        (under (spot' x) (spot' w) (spot x) (spot w) (turned_order x w) l) (none x hx))
  ]

  no_other : ((j : ℕ) → ¬ Contains outer (a, j)) → ⊥
  no_other lone = elim (differ a b a_in b_in apart) as (λ _. ⊥) [
    | inl l ↦ (let r = above_edge a b a_in b_in l in lone r.0 r.1)
    | inr l ↦ (let r = below_edge a b a_in b_in l in lone r.0 r.1)
  ]

  -- ---- neighbours
  turned : (i j : ℕ) → Adjoin n p i j → Adjoin n p j i
  turned i j s = next_turned n p i j s

  -- one between two neighbours
  rising : (i j k : ℕ) → Adjoin n p i j → k < n → spot i <ℤ spot k → spot k <ℤ spot j → ⊥
  unfolding spot level
  rising i j k s h x y = s.none_between k h
      (O.within_k n p outer m (whole (p a)) a b a_in b_in apart level i j k s.first s.second h x y)

  no_three : (c : ℕ) → Adjoin n p a b → Adjoin n p b c → Adjoin n p c a → ⊥
  no_three c ab bc ca = go (differ a b a_in b_in apart) (differ b c b_in bc.second bc.apart)
      (differ c a ca.first a_in ca.apart)
    where
      go : (spot a <ℤ spot b) ⊎ (spot b <ℤ spot a) → (spot b <ℤ spot c) ⊎ (spot c <ℤ spot b)
          → (spot c <ℤ spot a) ⊎ (spot a <ℤ spot c) → ⊥
      go (inl x) (inl y) z = rising a c b (turned c a ca) b_in x y
      go (inl x) (inr y) (inl z) = rising c b a (turned b c bc) a_in z x
      go (inl x) (inr y) (inr z) = rising a b c ab ca.first z y
      go (inr x) (inl y) (inl z) = rising b a c (turned a b ab) ca.first y z
      go (inr x) (inl y) (inr z) = rising b c a bc a_in x z
      go (inr x) (inr y) z = rising c a b ca b_in y x

  -- neighbours of v on one side of it are one
  one_below : (v x y : ℕ) → Adjoin n p v x → Adjoin n p v y → spot x <ℤ spot v
      → spot y <ℤ spot v → x ≢ y → ⊥
  one_below v x y f g h k d = elim (differ x y f.second g.second d) as (λ _. ⊥) [
    | inl l ↦ rising x v y (turned v x f) g.second l k
    | inr l ↦ rising y v x (turned v y g) f.second l h
  ]

  -- two neighbours of v above it are the same
  pub one_above : (v x y : ℕ) → Adjoin n p v x → Adjoin n p v y → spot v <ℤ spot x
      → spot v <ℤ spot y → x ≢ y → ⊥
  one_above v x y f g h k d = elim (differ x y f.second g.second d) as
      (λ _. ⊥) [ inl l ↦ rising v y x g f.second h l | inr l ↦ rising v x y f g.second k l ]

  no_third : (c d : ℕ) → Adjoin n p a b → Adjoin n p a c → Adjoin n p a d → b ≢ c
      → c ≢ d → b ≢ d → ⊥
  no_third c d ab ac ad bc cd bd = go (differ a b a_in b_in apart)
      (differ a c a_in ac.second ac.apart) (differ a d a_in ad.second ad.apart)
    where
      go : (spot a <ℤ spot b) ⊎ (spot b <ℤ spot a) → (spot a <ℤ spot c) ⊎ (spot c <ℤ spot a)
          → (spot a <ℤ spot d) ⊎ (spot d <ℤ spot a) → ⊥
      go (inl x) (inl y) z = one_above a b c ab ac x y bc
      go (inr x) (inr y) z = one_below a b c ab ac x y bc
      go (inl x) (inr y) (inl z) = one_above a b d ab ad x z bd
      go (inl x) (inr y) (inr z) = one_below a c d ac ad y z cd
      go (inr x) (inl y) (inl z) = one_above a c d ac ad y z cd
      go (inr x) (inl y) (inr z) = one_below a b d ab ad x z bd

  -- two neighbours with no further ones, the one below the other, and a third vertex
  no_further : (low high x : ℕ) → Adjoin n p low high
      → ((j : ℕ) → Contains outer (low, j) → j ≡ high)
      → ((j : ℕ) → Contains outer (high, j) → j ≡ low) → x < n → x ≢ low → x ≢ high
      → spot low <ℤ spot high → ⊥
  no_further low high x s from_low from_high hx not_low not_high rise =
      go (differ x low hx s.first not_low) (differ x high hx s.second not_high)
    where
      go : (spot x <ℤ spot low) ⊎ (spot low <ℤ spot x)
          → (spot x <ℤ spot high) ⊎ (spot high <ℤ spot x) → ⊥
      go (inl h) k = let r = below_edge low x s.first hx h in less_twice_is_not_same (spot r.0)
          (spot low) (spot high) r.2 rise (ap spot (from_low r.0 r.1))
      go (inr h) (inl k) = rising low high x s hx h k
      go (inr h) (inr k) = let r = above_edge high x s.second hx k in less_twice_is_not_same
          (spot low) (spot high) (spot r.0) rise r.2 (ap spot (sym (from_high r.0 r.1)))

-- ---- in a mesh of a line
module _ (points : List Point) (outer : List (ℕ × ℕ)) (m : LineMesh points outer) where
  signs : SignLine (length points) (point_at points) outer
  signs = line_by_signs points outer m

  next_of : (i j : ℕ) → Contains outer (i, j) → Adjoin (length points) (point_at points) i j
  next_of i j c = (signs.neighbours i j).0 c

  -- a vertex without neighbours is the only one
  pub lone_vertex : (v k : ℕ) → IsIndex points v → ((j : ℕ) → ¬ Contains outer (v, j))
      → IsIndex points k → v ≡ k
  lone_vertex v k here lone there = elim (cases_eq v k) [
    | inl e ↦ e
    | inr n ↦ absurd (no_other (length points) (point_at points) outer signs v k here there n lone)
  ]

  -- so no vertex is left without it
  pub lone_vertex_goes : (v : ℕ) → IsIndex points v → ((j : ℕ) → ¬ Contains outer (v, j))
      → LineMeshWithout v points outer
  lone_vertex_goes v here lone = record {
    distinct = λ i j h k n. m.distinct i j h.0 k.0 n;
    straight = λ i j k a b c. m.straight i j k a.0 b.0 c.0;
    neighbours = λ i j. (
      (λ h. absurd (lone j (subst (λ x. Contains outer (x, j))
          (sym (lone_vertex v i here lone ((m.neighbours i j).0 h).first)) h))),
      (λ s. absurd (s.first.1 (sym (lone_vertex v i here lone s.first.0)))),
    );
    once = m.once;
  }

  -- two neighbours of a vertex are no neighbours
  pub apart_neighbours : (v u w : ℕ) → Contains outer (v, u) → Contains outer (v, w)
      → ¬ Contains outer (u, w)
  apart_neighbours v u w f g h =
      let s = next_of v u f in
      no_three (length points) (point_at points) outer signs v u s.first s.second s.apart w s
      (next_of u w h) (next_turned (length points) (point_at points) v w (next_of v w g))

  -- a vertex has at most two neighbours
  pub two_neighbours : (v x y z : ℕ) → Contains outer (v, x) → Contains outer (v, y)
      → Contains outer (v, z) → x ≢ y → y ≢ z → x ≢ z → ⊥
  two_neighbours v x y z f g h a b c =
      let s = next_of v x f in no_third (length points) (point_at points) outer signs v x s.first
      s.second s.apart y z s (next_of v y g) (next_of v z h) a b c

  -- two vertices that have only one another are all
  pub only_pair : (v u x : ℕ) → Contains outer (v, u) → ((j : ℕ) → Contains outer (v, j) → j ≡ u)
      → ((j : ℕ) → Contains outer (u, j) → j ≡ v) → IsIndex points x → (x ≡ v) ⊎ (x ≡ u)
  only_pair v u x edge from_v from_u there = elim (cases_eq x v) [
    | inl e ↦ inl e
    | inr a ↦ elim (cases_eq x u) [
      | inl e ↦ inr e
      | inr b ↦ absurd (elim (differ (length points) (point_at points) outer signs v u s.first
          s.second s.apart v u s.first s.second s.apart) as (λ _. ⊥) [
            | inl l ↦ no_further (length points) (point_at points) outer signs v u s.first s.second
                s.apart v u x s from_v from_u there a b l
            | inr l ↦
                no_further (length points)
                (point_at points) outer signs v u s.first s.second s.apart u
                v x (next_turned (length points) (point_at points) v u s) from_u from_v there b a l
          ])
    ]
  ]
    where
      s : Adjoin (length points) (point_at points) v u
      s = next_of v u edge
