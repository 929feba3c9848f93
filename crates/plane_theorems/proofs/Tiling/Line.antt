-- Points on one line: what a mesh of them keeps, by signs, and two edits that keep it: a vertex
-- past an end, and one between two neighbours.
-- Notions: Adjoin, SignLine; next_turned, back_way, flat, extended, between.
use Rattle.std.proofs.Common.{◌≡◌, ◌⊎◌, ◌↔◌, ℕ, suc, ◌<◌, List, sym, ap, ◌∙◌, subst, arith}
use mathlib.Core.Logic.{inl, inr, ◌≢◌}
use Rattle.std.specs.Prelude.{ℤ, pos, ◌<ℤ◌, ◌≤ℤ◌, Contains, AllPairs}
use Rattle.std.proofs.lemmas.Int.{ints}
use Rattle.std.proofs.lemmas.Bool.{cases_eq}
use Rattle.plane.specs.{IsSamePair, Point, whole, WithinSegment}
use Rattle.plane.proofs.{AllDiffer, below_or_last, bracket, bracket-last, bracket-outer}
use Rattle.plane.proofs.{bracket-swap, bracket-turn, distinct_with_next, IsBetween, IsFresh}
use Rattle.plane.proofs.{IsOneToOne, LieOnLine, lift, lt_or_ge_ℤ, negated_left, not_on_line}
use Rattle.plane.proofs.{pair_turned, place_of_end, place_of_start, place_on, place_within}
use Rattle.plane.proofs.{Signs.zero_is_not_positive, trichotomy_ℤ, Vec3, within_places}
use Rattle.plane_theorems.proofs.Tiling.Counting.{at, same_place, within_turned}
use Rattle.plane_theorems.proofs.Tiling.Edges as E

-- i and j have no other of the first n points strictly between them
pub record Adjoin (n : ℕ) (p : ℕ → Point) (i j : ℕ) : Type 0 where
  pub apart : i ≢ j
  pub first : i < n
  pub second : j < n
  pub none_between : (k : ℕ) → k < n → ¬ WithinSegment (whole (p i)) (whole (p j)) (whole (p k))

-- the first n points are on one line, and the outer edges are the two ways of each pair of
-- neighbours
pub record SignLine (n : ℕ) (p : ℕ → Point) (outer : List (ℕ × ℕ)) : Type 0 where
  pub distinct : AllDiffer n p
  pub straight : (i j k : ℕ) → i < n → j < n → k < n → bracket (at p i) (at p j) (at p k) ≡ pos 0
  pub neighbours : (i j : ℕ) → Contains outer (i, j) ↔ Adjoin n p i j
  pub once : AllPairs (λ d e. d ≢ e) outer

-- neighbours are neighbours in either order
pub next_turned : (n : ℕ) (p : ℕ → Point) (i j : ℕ) → Adjoin n p i j → Adjoin n p j i
next_turned n p i j s = record {
  apart = λ e. s.apart (sym e);
  first = s.second;
  second = s.first;
  none_between = λ k h w. s.none_between k h (within_turned (p j) (p i) (p k) w);
}

-- each edge of a line is listed both ways
pub back_way : (n : ℕ) (p : ℕ → Point) (outer : List (ℕ × ℕ)) → SignLine n p outer → (i j : ℕ)
    → Contains outer (i, j) → Contains outer (j, i)
back_way n p outer m i j h = (m.neighbours j i).1 (next_turned n p i j ((m.neighbours i j).0 h))

-- three points of the line through two different points are on one line
pub flat : (u v : Point) (a b c : Vec3) → ¬ (u ≡ v) → bracket (lift u) (lift v) a ≡ pos 0
    → bracket (lift u) (lift v) b ≡ pos 0 → bracket (lift u) (lift v) c ≡ pos 0
    → bracket a b c ≡ pos 0
flat u v a b c apart ea eb ec = go (trichotomy_ℤ (bracket a b c))
  where
    go : (bracket a b c <ℤ pos 0) ⊎ ((bracket a b c ≡ pos 0) ⊎ (pos 0 <ℤ bracket a b c))
        → bracket a b c ≡ pos 0
    go (inl h) =
        absurd (apart (not_on_line b a c u v (negated_left (bracket-swap b a c) h) eb ea ec))
    go (inr (inl h)) = h
    go (inr (inr h)) = absurd (apart (not_on_line a b c u v h ea eb ec))

-- ---- steps on places
outside_gap : (a b z : ℤ) → a <ℤ b → (IsBetween a b z → ⊥) → (z ≤ℤ a) ⊎ (b ≤ℤ z)
outside_gap a b z h n = go (lt_or_ge_ℤ a z) (lt_or_ge_ℤ z b)
  where
    go : (a <ℤ z) ⊎ (z ≤ℤ a) → (z <ℤ b) ⊎ (b ≤ℤ z) → (z ≤ℤ a) ⊎ (b ≤ℤ z)
    go (inr k) l = inl k
    go (inl k) (inr l) = inr l
    go (inl k) (inl l) = absurd (n (inl (k, l)))

-- what is between x and y is not above both
not_above : (x y z a : ℤ) → x ≤ℤ a → y ≤ℤ a → a <ℤ z → IsBetween x y z ⊎ ((x ≡ z) × (z ≡ y)) → ⊥
not_above x y z a h k l (inl (inl b)) = let c = b.1 in omega (arith, ints)
not_above x y z a h k l (inl (inr b)) = let c = b.1 in omega (arith, ints)
not_above x y z a h k l (inr b) = let c = b.0 in omega (arith, ints)

module _ (n : ℕ) (p : ℕ → Point) (outer new : List (ℕ × ℕ)) (m : SignLine n p outer) where
  wider : {k : ℕ} → k < n → k < suc n
  wider h = omega arith

  last_index : n < suc n
  last_index = omega arith

  not_last : {k : ℕ} → k < n → k ≢ n
  not_last h e = omega arith

  -- a new point that is on the line of two points on which all others are, apart from them
  module _ (u v : Point) (apart : ¬ (u ≡ v)) (level : LieOnLine n p u v)
      (own_level : bracket (lift u) (lift v) (at p n) ≡ pos 0) (fresh : IsFresh n p) where
    all_level : LieOnLine (suc n) p u v
    all_level k h = elim (below_or_last n k h) [
      | inl l ↦ level k l
      | inr e ↦ subst (λ i. bracket (lift u) (lift v) (at p i) ≡ pos 0) (sym e) own_level
    ]

    all_distinct : AllDiffer (suc n) p
    all_distinct = distinct_with_next n p m.distinct fresh

    widened : ((i j : ℕ) → Contains new (i, j) ↔ Adjoin (suc n) p i j) → AllPairs (λ d e. d ≢ e) new
        → SignLine (suc n) p new
    widened neighbours once = record {
      distinct = all_distinct;
      straight = λ i j k a b c. flat u v (at p i) (at p j) (at p k) apart (all_level i a)
          (all_level j b) (all_level k c);
      neighbours = neighbours;
      once = once;
    }

    -- how far along the line from u to v a vertex lies
    spot : ℕ → ℤ
    spot k = place_on u v (at p k)

    in_order : (i j k : ℕ) → WithinSegment (whole (p i)) (whole (p j)) (whole (p k))
        → IsBetween (spot i) (spot j) (spot k) ⊎ ((spot i ≡ spot k) × (spot k ≡ spot j))
    unfolding spot
    in_order i j k w = place_within u v (p i) (p j) (p k) w

    ordered : (i j k : ℕ) → i < suc n → j < suc n → k < suc n → IsBetween (spot i) (spot j) (spot k)
        → WithinSegment (whole (p i)) (whole (p j)) (whole (p k))
    unfolding spot
    ordered i j k a b c o =
        within_places u v apart (p i) (p j) (p k) (all_level i a) (all_level j b) (all_level k c) o

    one_spot : IsOneToOne (suc n) spot
    unfolding spot
    one_spot i j a b e =
        same_place (suc n) p all_distinct u v apart i j a b (all_level i a) (all_level j b) e

    -- still next to one another
    still_next : (i j : ℕ) → Adjoin n p i j
        → ¬ WithinSegment (whole (p i)) (whole (p j)) (whole (p n)) → Adjoin (suc n) p i j
    still_next i j s away = record {
      apart = s.apart;
      first = wider s.first;
      second = wider s.second;
      none_between = λ k h w. elim (below_or_last n k h) [
        | inl l ↦ s.none_between k l w
        | inr e ↦ away (subst (λ o. WithinSegment (whole (p i)) (whole (p j)) (whole (p o))) e w)
      ];
    }

    -- were next to one another before
    next_before : (i j : ℕ) → i < n → j < n → Adjoin (suc n) p i j → Adjoin n p i j
    next_before i j a b s = record {
      apart = s.apart;
      first = a;
      second = b;
      none_between = λ k h. s.none_between k (wider h);
    }

  -- ---- past the end i
  module _ (i : ℕ) (i_index : i < n) (fresh : IsFresh n p)
      (past : (k : ℕ) → k < n → k ≢ i → WithinSegment (whole (p n)) (whole (p k)) (whole (p i)))
      (change : (a b : ℕ) → Contains new (a, b) ↔ (Contains outer (a, b) ⊎ IsSamePair a b i n))
      (once : AllPairs (λ d e. d ≢ e) new) where
    end_apart : ¬ (p i ≡ p n)
    end_apart = fresh i i_index

    end_level : LieOnLine n p (p i) (p n)
    end_level k h = go (cases_eq k i)
      where
        go : (k ≡ i) ⊎ (k ≡ i → ⊥) → bracket (at p i) (at p n) (at p k) ≡ pos 0
        go (inl e) = subst (λ o. bracket (at p i) (at p n) (at p o) ≡ pos 0) (sym e)
            (bracket-outer (at p i) (at p n))
        go (inr e) = bracket-turn (at p i) (at p n) (at p k)
            ∙ E.within_on (p n) (p k) (whole (p i)) (past k h e)

    -- the new vertex is on the line of i and itself
    own : bracket (lift (p i)) (lift (p n)) (at p n) ≡ pos 0
    own = bracket-last (at p i) (at p n)

    -- how far along the line from i to the new vertex a vertex lies
    spot' : ℕ → ℤ
    spot' = spot (p i) (p n) end_apart end_level own fresh

    from_zero : spot' i ≡ pos 0
    unfolding spot' spot
    from_zero = place_of_start (p i) (p n)

    -- the new vertex has a place above 0 on the way from i
    high : pos 0 <ℤ spot' n
    unfolding spot' spot
    high = place_of_end (p i) (p n) end_apart

    in_order' : (a b k : ℕ) → WithinSegment (whole (p a)) (whole (p b)) (whole (p k))
        → IsBetween (spot' a) (spot' b) (spot' k) ⊎ ((spot' a ≡ spot' k) × (spot' k ≡ spot' b))
    unfolding spot'
    in_order' = in_order (p i) (p n) end_apart end_level own fresh

    -- an old vertex has none above 0 there
    low : (k : ℕ) → k < n → spot' k ≤ℤ pos 0
    low k h = go (cases_eq k i)
      where
        under : (a b c : ℤ) → a ≡ pos 0 → pos 0 <ℤ b
            → IsBetween b c a ⊎ ((b ≡ a) × (a ≡ c)) → c ≤ℤ pos 0
        under a b c e l (inl (inl o)) = absurd (let q = o.0 in omega (arith, ints))
        under a b c e l (inl (inr o)) = let q = o.0 in omega (arith, ints)
        under a b c e l (inr o) = absurd (let q = o.0 in omega (arith, ints))

        go : (k ≡ i) ⊎ (k ≡ i → ⊥) → spot' k ≤ℤ pos 0
        go (inl e) = zero_is_not_positive (spot' k) (ap spot' e ∙ from_zero)
        go (inr e) =
            under (spot' i) (spot' n) (spot' k) from_zero high (in_order' n k i (past k h e))

    new_next : Adjoin (suc n) p i n
    new_next = record {
      apart = not_last i_index;
      first = wider i_index;
      second = last_index;
      none_between = λ k h w. none k (below_or_last n k h) (in_order' i n k w);
    }
      where
        none : (k : ℕ) → (k < n) ⊎ (k ≡ n) → IsBetween (spot' i) (spot' n) (spot' k)
            ⊎ ((spot' i ≡ spot' k) × (spot' k ≡ spot' n)) → ⊥
        none k (inl h) o = under (spot' i) (spot' n) (spot' k) from_zero high (low k h) o
          where
            under : (a b c : ℤ) → a ≡ pos 0 → pos 0 <ℤ b → c ≤ℤ pos 0
                → IsBetween a b c ⊎ ((a ≡ c) × (c ≡ b)) → ⊥
            under a b c e l q (inl (inl o)) = let r = o.0 in omega (arith, ints)
            under a b c e l q (inl (inr o)) = let r = o.0 in omega (arith, ints)
            under a b c e l q (inr o) = let r = o.1 in omega (arith, ints)
        none k (inr h) o = at_end (spot' i) (spot' n) (spot' k) from_zero high (ap spot' h) o
          where
            at_end : (a b c : ℤ) → a ≡ pos 0 → pos 0 <ℤ b → c ≡ b
                → IsBetween a b c ⊎ ((a ≡ c) × (c ≡ b)) → ⊥
            at_end a b c e l q (inl (inl o)) = let r = o.1 in omega (arith, ints)
            at_end a b c e l q (inl (inr o)) = let r = o.0 in omega (arith, ints)
            at_end a b c e l q (inr o) = let r = o.0 in omega (arith, ints)

    -- a line with a vertex joined to its end is one
    pub extended : SignLine (suc n) p new
    extended = widened (p i) (p n) end_apart end_level own fresh
        (λ a b. (
          (λ c. there a b ((change a b).0 c)),
          (λ s. (change a b).1
              (back a b s (below_or_last n a s.first) (below_or_last n b s.second))),
        )) once
      where
        there : (a b : ℕ) → Contains outer (a, b) ⊎ IsSamePair a b i n → Adjoin (suc n) p a b
        there a b (inl h) =
            let s = (m.neighbours a b).0 h in
            still_next (p i) (p n) end_apart end_level own fresh a b s
            (λ w. not_above (spot' a) (spot' b) (spot' n) (pos 0) (low a s.first)
            (low b s.second) high (in_order' a b n w))
        there a b (inr (inl e)) =
            subst (λ (o : ℕ × ℕ). Adjoin (suc n) p o.0 o.1) (λ j. (sym e.0 j, sym e.1 j)) new_next
        there a b (inr (inr e)) = subst (λ (o : ℕ × ℕ). Adjoin (suc n) p o.0 o.1)
            (λ j. (sym e.0 j, sym e.1 j)) (next_turned (suc n) p i n new_next)

        end_is : (b : ℕ) → b < n → ((k : ℕ) → k < suc n
            → ¬ WithinSegment (whole (p n)) (whole (p b)) (whole (p k))) → b ≡ i
        end_is b h none =
            elim (cases_eq b i) [ inl e ↦ e | inr e ↦ absurd (none i (wider i_index) (past b h e)) ]

        back : (a b : ℕ) → Adjoin (suc n) p a b → (a < n) ⊎ (a ≡ n) → (b < n) ⊎ (b ≡ n)
            → Contains outer (a, b) ⊎ IsSamePair a b i n
        back a b s (inl x) (inl y) = inl
            ((m.neighbours a b).1 (next_before (p i) (p n) end_apart end_level own fresh a b x y s))
        back a b s (inl x) (inr y) =
            inr (inl (
              end_is a x (λ k h w. s.none_between k h (within_turned (p b) (p a) (p k)
                  (subst (λ o. WithinSegment (whole (p o)) (whole (p a)) (whole (p k)))
                  (sym y) w))),
              y,
            ))
        back a b s (inr x) (inl y) = inr (inr (
          x,
          end_is b y (λ k h w. s.none_between k h
              (subst (λ o. WithinSegment (whole (p o)) (whole (p b)) (whole (p k))) (sym x) w)),
        ))
        back a b s (inr x) (inr y) = absurd (s.apart (x ∙ sym y))

  -- ---- strictly within the pair of neighbours i and j
  module _ (i j : ℕ) (edge : Contains outer (i, j))
      (within : WithinSegment (whole (p i)) (whole (p j)) (whole (p n)))
      (change : (a b : ℕ) → Contains new (a, b) ↔ ((Contains outer (a, b) × ¬ IsSamePair a b i j)
      ⊎ (IsSamePair a b i n ⊎ IsSamePair a b j n))) (once : AllPairs (λ d e. d ≢ e) new) where
    own_next : Adjoin n p i j
    own_next = (m.neighbours i j).0 edge

    between_fresh : IsFresh n p
    between_fresh k h e = own_next.none_between k h
        (subst (λ o. WithinSegment (whole (p i)) (whole (p j)) (whole o)) (sym e) within)

    ends_apart : ¬ (p i ≡ p j)
    ends_apart = m.distinct i j own_next.first own_next.second own_next.apart

    line_level : LieOnLine n p (p i) (p j)
    line_level k h = m.straight i j k own_next.first own_next.second h

    within_level : bracket (lift (p i)) (lift (p j)) (at p n) ≡ pos 0
    within_level = E.within_on (p i) (p j) (whole (p n)) within

    -- how far along the line from i to j a vertex lies
    mark : ℕ → ℤ
    mark = spot (p i) (p j) ends_apart line_level within_level between_fresh

    marks : (a b k : ℕ) → WithinSegment (whole (p a)) (whole (p b)) (whole (p k))
        → IsBetween (mark a) (mark b) (mark k) ⊎ ((mark a ≡ mark k) × (mark k ≡ mark b))
    unfolding mark
    marks = in_order (p i) (p j) ends_apart line_level within_level between_fresh

    marked : (a b k : ℕ) → a < suc n → b < suc n → k < suc n → IsBetween (mark a) (mark b) (mark k)
        → WithinSegment (whole (p a)) (whole (p b)) (whole (p k))
    unfolding mark
    marked = ordered (p i) (p j) ends_apart line_level within_level between_fresh

    one_mark : IsOneToOne (suc n) mark
    unfolding mark
    one_mark = one_spot (p i) (p j) ends_apart line_level within_level between_fresh

    start_mark : mark i ≡ pos 0
    unfolding mark spot
    start_mark = place_of_start (p i) (p j)

    end_mark : pos 0 <ℤ mark j
    unfolding mark spot
    end_mark = place_of_end (p i) (p j) ends_apart

    middle : (mark i <ℤ mark n) × (mark n <ℤ mark j)
    middle = go (mark i) (mark j) (mark n) start_mark end_mark (marks i j n within)
      where
        go : (a b c : ℤ) → a ≡ pos 0 → pos 0 <ℤ b → IsBetween a b c ⊎ ((a ≡ c) × (c ≡ b))
            → (a <ℤ c) × (c <ℤ b)
        go a b c e l (inl (inl o)) = o
        go a b c e l (inl (inr o)) = absurd (let r = o.0 in let q = o.1 in omega (arith, ints))
        go a b c e l (inr o) = absurd (let r = o.0 in let q = o.1 in omega (arith, ints))

    -- no old vertex has its mark strictly between those of i and j
    outside : (k : ℕ) → k < n → (mark k ≤ℤ mark i) ⊎ (mark j ≤ℤ mark k)
    outside k h = outside_gap (mark i) (mark j) (mark k)
        (order (mark i) (mark j) start_mark end_mark) (λ o. own_next.none_between k h
        (marked i j k (wider own_next.first) (wider own_next.second) (wider h) o))
      where
        order : (a b : ℤ) → a ≡ pos 0 → pos 0 <ℤ b → a <ℤ b
        order a b e l = omega (arith, ints)

    -- between i or j and the new vertex there is none
    first_half : Adjoin (suc n) p i n
    first_half = record {
      apart = not_last own_next.first;
      first = wider own_next.first;
      second = last_index;
      none_between = λ k h w. none k (below_or_last n k h) (marks i n k w);
    }
      where
        between : (a b c k : ℤ) → (a <ℤ b) × (b <ℤ c) → (k ≤ℤ a) ⊎ (c ≤ℤ k)
            → IsBetween a b k ⊎ ((a ≡ k) × (k ≡ b)) → ⊥
        between a b c k q (inl x) (inl (inl o)) = let r = o.0 in omega (arith, ints)
        between a b c k q (inr x) (inl (inl o)) = let r = o.1 in let s = q.1 in omega (arith, ints)
        between a b c k q x (inl (inr o)) =
            let r = o.0 in let t = o.1 in let s = q.0 in omega (arith, ints)
        between a b c k q x (inr o) =
            let r = o.0 in let t = o.1 in let s = q.0 in omega (arith, ints)

        own_end : (a b k : ℤ) → a <ℤ b → k ≡ b → IsBetween a b k ⊎ ((a ≡ k) × (k ≡ b)) → ⊥
        own_end a b k l e (inl (inl o)) = let r = o.1 in omega (arith, ints)
        own_end a b k l e (inl (inr o)) = let r = o.0 in omega (arith, ints)
        own_end a b k l e (inr o) = let r = o.0 in omega (arith, ints)

        none : (k : ℕ) → (k < n) ⊎ (k ≡ n)
            → IsBetween (mark i) (mark n) (mark k) ⊎ ((mark i ≡ mark k) × (mark k ≡ mark n)) → ⊥
        none k (inl h) o = between (mark i) (mark n) (mark j) (mark k) middle (outside k h) o
        none k (inr h) o = own_end (mark i) (mark n) (mark k) middle.0 (ap mark h) o

    second_half : Adjoin (suc n) p j n
    second_half = record {
      apart = not_last own_next.second;
      first = wider own_next.second;
      second = last_index;
      none_between = λ k h w. none k (below_or_last n k h) (marks j n k w);
    }
      where
        between : (a b c k : ℤ) → (a <ℤ b) × (b <ℤ c) → (k ≤ℤ a) ⊎ (c ≤ℤ k)
            → IsBetween c b k ⊎ ((c ≡ k) × (k ≡ b)) → ⊥
        between a b c k q (inl x) (inl (inr o)) = let r = o.0 in let s = q.0 in omega (arith, ints)
        between a b c k q (inr x) (inl (inr o)) = let r = o.1 in omega (arith, ints)
        between a b c k q x (inl (inl o)) =
            let r = o.0 in let t = o.1 in let s = q.1 in omega (arith, ints)
        between a b c k q x (inr o) =
            let r = o.0 in let t = o.1 in let s = q.1 in omega (arith, ints)

        own_end : (a b k : ℤ) → b <ℤ a → k ≡ b → IsBetween a b k ⊎ ((a ≡ k) × (k ≡ b)) → ⊥
        own_end a b k l e (inl (inl o)) = let r = o.0 in let t = o.1 in omega (arith, ints)
        own_end a b k l e (inl (inr o)) = let r = o.0 in omega (arith, ints)
        own_end a b k l e (inr o) = let r = o.0 in omega (arith, ints)

        none : (k : ℕ) → (k < n) ⊎ (k ≡ n)
            → IsBetween (mark j) (mark n) (mark k) ⊎ ((mark j ≡ mark k) × (mark k ≡ mark n)) → ⊥
        none k (inl h) o = between (mark i) (mark n) (mark j) (mark k) middle (outside k h) o
        none k (inr h) o = own_end (mark j) (mark n) (mark k) middle.1 (ap mark h) o

    -- an old vertex that has none between it and the new one is i or j
    end_is : (b : ℕ) → b < n
        → ((k : ℕ) → k < suc n → ¬ WithinSegment (whole (p b)) (whole (p n)) (whole (p k)))
        → (b ≡ i) ⊎ (b ≡ j)
    end_is b h none = elim (outside b h) [ inl x ↦ inl (low x) | inr x ↦ inr (high x) ]
      where
        low : mark b ≤ℤ mark i → b ≡ i
        low x = elim (at_most (mark b) (mark i) x) [
          | inl e ↦ one_mark b i (wider h) (wider own_next.first) e
          | inr l ↦ absurd (none i (wider own_next.first)
              (marked b n i (wider h) last_index (wider own_next.first) (inl (l, middle.0))))
        ]
          where
            at_most : (x y : ℤ) → x ≤ℤ y → (x ≡ y) ⊎ (x <ℤ y)
            at_most x y h =
                elim (lt_or_ge_ℤ x y) [ inl l ↦ inr l | inr g ↦ inl (omega (arith, ints)) ]

        high : mark j ≤ℤ mark b → b ≡ j
        high x = elim (at_least (mark b) (mark j) x) [
          | inl e ↦ one_mark b j (wider h) (wider own_next.second) e
          | inr l ↦ absurd (none j (wider own_next.second)
              (marked b n j (wider h) last_index (wider own_next.second) (inr (middle.1, l))))
        ]
          where
            at_least : (x y : ℤ) → y ≤ℤ x → (x ≡ y) ⊎ (y <ℤ x)
            at_least x y h =
                elim (lt_or_ge_ℤ y x) [ inl l ↦ inr l | inr g ↦ inl (omega (arith, ints)) ]

    -- neighbours with the new vertex between them are i and j
    parted : (a b : ℕ) → Adjoin n p a b → mark a <ℤ mark n → mark n <ℤ mark b → (a ≡ i) × (b ≡ j)
    parted a b s x y = (first (lt_or_ge_ℤ (mark a) (mark i)), second (lt_or_ge_ℤ (mark j) (mark b)))
      where
        ai : mark a ≤ℤ mark i
        ai = elim (outside a s.first)
            [ inl k ↦ k | inr k ↦ absurd (let q = middle.1 in omega (arith, ints)) ]

        jb : mark j ≤ℤ mark b
        jb = elim (outside b s.second)
            [ inl k ↦ absurd (let q = middle.0 in omega (arith, ints)) | inr k ↦ k ]

        first : (mark a <ℤ mark i) ⊎ (mark i ≤ℤ mark a) → a ≡ i
        first (inl l) =
            absurd (s.none_between i own_next.first (marked a b i (wider s.first) (wider s.second)
            (wider own_next.first) (inl (l, (let q = middle.0 in omega (arith, ints))))))
        first (inr l) =
            one_mark a i (wider s.first) (wider own_next.first) (let q = ai in omega (arith, ints))

        second : (mark j <ℤ mark b) ⊎ (mark b ≤ℤ mark j) → b ≡ j
        second (inl l) =
            absurd (s.none_between j own_next.second (marked a b j (wider s.first) (wider s.second)
            (wider own_next.second) (inl ((let q = middle.1 in omega (arith, ints)), l))))
        second (inr l) = one_mark b j (wider s.second) (wider own_next.second) (let q = jb in
            omega (arith, ints))

    not_parted : (a b : ℕ) → Adjoin n p a b → ¬ IsSamePair a b i j
        → ¬ WithinSegment (whole (p a)) (whole (p b)) (whole (p n))
    not_parted a b s other w = go (marks a b n w)
      where
        go : IsBetween (mark a) (mark b) (mark n) ⊎ ((mark a ≡ mark n) × (mark n ≡ mark b)) → ⊥
        go (inl (inl o)) = other (inl (parted a b s o.0 o.1))
        go (inl (inr o)) =
            let r = parted b a (next_turned n p a b s) o.0 o.1 in other (inr (r.1, r.0))
        go (inr o) = not_last s.first (one_mark a n (wider s.first) last_index o.0)

    -- a line of which one edge is replaced by two through a vertex between is one
    pub between : SignLine (suc n) p new
    between = widened (p i) (p j) ends_apart line_level within_level between_fresh
        (λ a b. (
          (λ c. there a b ((change a b).0 c)),
          (λ s. (change a b).1
              (back a b s (below_or_last n a s.first) (below_or_last n b s.second))),
        )) once
      where
        ends : (c d a b : ℕ) → Adjoin (suc n) p c d → IsSamePair a b c d → Adjoin (suc n) p a b
        ends c d a b s (inl e) =
            subst (λ (o : ℕ × ℕ). Adjoin (suc n) p o.0 o.1) (λ j. (sym e.0 j, sym e.1 j)) s
        ends c d a b s (inr e) = subst (λ (o : ℕ × ℕ). Adjoin (suc n) p o.0 o.1)
            (λ j. (sym e.0 j, sym e.1 j)) (next_turned (suc n) p c d s)

        there : (a b : ℕ) → (Contains outer (a, b) × ¬ IsSamePair a b i j)
            ⊎ (IsSamePair a b i n ⊎ IsSamePair a b j n) → Adjoin (suc n) p a b
        there a b (inl h) =
            let s = (m.neighbours a b).0 h.0 in
            still_next (p i) (p j) ends_apart line_level within_level between_fresh a b s
            (not_parted a b s h.1)
        there a b (inr (inl e)) = ends i n a b first_half e
        there a b (inr (inr e)) = ends j n a b second_half e

        to_new : (a b : ℕ) → a < n → b ≡ n → Adjoin (suc n) p a b
            → IsSamePair a b i n ⊎ IsSamePair a b j n
        to_new a b x y s = elim (end_is a x (λ k h w. s.none_between k h
            (subst (λ o. WithinSegment (whole (p a)) (whole (p o)) (whole (p k))) (sym y) w)))
            [ inl e ↦ inl (inl (e, y)) | inr e ↦ inr (inl (e, y)) ]

        back : (a b : ℕ) → Adjoin (suc n) p a b → (a < n) ⊎ (a ≡ n) → (b < n) ⊎ (b ≡ n)
            → (Contains outer (a, b) × ¬ IsSamePair a b i j)
            ⊎ (IsSamePair a b i n ⊎ IsSamePair a b j n)
        back a b s (inl x) (inl y) = inl (
          (m.neighbours a b).1 (next_before (p i)
              (p j) ends_apart line_level within_level between_fresh a b x y s),
          other,
        )
          where
            other : ¬ IsSamePair a b i j
            other (inl e) = s.none_between n last_index (subst (λ (o : ℕ × ℕ). WithinSegment
                (whole (p o.0)) (whole (p o.1)) (whole (p n))) (λ j. (sym e.0 j, sym e.1 j)) within)
            other (inr e) = s.none_between n last_index
                (subst (λ (o : ℕ × ℕ). WithinSegment (whole (p o.0)) (whole (p o.1)) (whole (p n)))
                (λ j. (sym e.0 j, sym e.1 j)) (within_turned (p i) (p j) (p n) within))
        back a b s (inl x) (inr y) = inr (to_new a b x y s)
        back a b s (inr x) (inl y) = inr (elim (to_new b a y x (next_turned (suc n) p a b s))
            [ inl e ↦ inl (pair_turned b a i n e) | inr e ↦ inr (pair_turned b a j n e) ])
        back a b s (inr x) (inr y) = absurd (s.apart (x ∙ sym y))
