-- Where a point is among points on one line: at a vertex, strictly within an edge, left of an edge
-- or past an end, and in one of these ways alone.
-- Notions: IsBelow, ArePlaces, IsAtPoint, IsOnEdge, IsBeyond, IsBesideEdge; nearest_below,
-- none_between_places, next_below, spot, mark, same_spot, spot_at, within_k, order_k, places,
-- lower_edge, turned_level, turned_spots, somewhere, point_unique, point_not_on_edge, on_one_edge,
-- point_not_beside, edge_not_beside.
use Rattle.std.proofs.Common.{◌≡◌, ◌⊎◌, ◌<◌, [], ◌∷◌, ◌∙◌}
use Rattle.std.proofs.Common.{ℕ, zero, suc, List, sym, ap, subst, arith}
use mathlib.Core.Logic.{inl, inr, ◌≢◌}
use Rattle.std.specs.Prelude.{ℤ, pos, ◌+ℤ◌, ◌-ℤ◌, ◌*ℤ◌, ◌<ℤ◌, ◌≤ℤ◌, neg_ℤ, Contains}
use Rattle.std.proofs.lemmas.Int.{ints}
use Rattle.std.proofs.lemmas.Bool.{cases_eq}
use Rattle.plane.specs.{Fraction, IsSame, IsSamePair, Point, whole, WithinSegment}
use Rattle.plane.proofs.{◌⊕◌, ◌⊖◌, ◌⊗◌, ahead, at_most_both_ways, below_and_not_below}
use Rattle.plane.proofs.{below_or_last, bracket, bracket-outer, bracket-swap, IsOneToOne}
use Rattle.plane.proofs.{left_not_zero, less_by_negative_difference, less_if_not_same}
use Rattle.plane.proofs.{less_is_not_same, less_twice_is_not_same, lt_or_ge_ℤ, more_by_difference}
use Rattle.plane.proofs.{mul-neg_of_pos_neg_ℤ, mul-pos_ℤ, mul_cancel_ℤ, negated_left, no_difference}
use Rattle.plane.proofs.{num, place_on, pos-ne-zero_ℤ, pos_of_mul-pos_ℤ, ring_in}
use Rattle.plane.proofs.{same_have_no_difference, same_if_level, same_is_at_most, same_is_not_less}
use Rattle.plane.proofs.{trichotomy_ℤ, vec, within_if_ahead, zero-mul_ℤ}
use Rattle.plane.proofs.LineOrder.{ahead_if_within, AreOneSign, level_if_same}
use Rattle.plane.proofs.Signs.{at_most_then_less, less_by_negations, less_in_a_ring}
use Rattle.plane_theorems.proofs.Tiling.Counting.{at, same_place}
use Rattle.plane_theorems.proofs.Tiling.Edges.{turned_within, within_on}
use Rattle.plane_theorems.proofs.Tiling.Line.{Adjoin, back_way, flat, next_turned, SignLine}
use Rattle.plane_theorems.proofs.Tiling.Places.{bracket_at, one_vertex_at, same_within}

-- ---- the greatest number below a bound
-- k has the greatest number below t
pub record IsBelow (f : ℕ → ℤ) (n : ℕ) (t : ℤ) (k : ℕ) : Type 0 where
  pub index : k < n
  pub below : f k <ℤ t
  pub top : (j : ℕ) → j < n → f j <ℤ t → f j ≤ℤ f k

-- of n numbers there is a greatest one below t, or none is below t
pub nearest_below : (f : ℕ → ℤ) (n : ℕ) (t : ℤ)
    → ((k : ℕ) × IsBelow f n t k) ⊎ ((j : ℕ) → j < n → t ≤ℤ f j)
nearest_below f zero t = inr (λ j h. absurd (omega arith))
nearest_below f (suc n) t = go (nearest_below f n t) (lt_or_ge_ℤ (f n) t)
  where
    at_last : (f n <ℤ t) → ((j : ℕ) → j < n → f j <ℤ t → f j ≤ℤ f n)
        → (k : ℕ) × IsBelow f (suc n) t k
    at_last l top = (
      n,
      record {
        index = omega arith;
        below = l;
        top = λ j i b. elim (below_or_last n j i)
            [ inl h ↦ top j h b | inr e ↦ same_is_at_most (f j) (f n) (ap f e) ];
      },
    )

    go : ((k : ℕ) × IsBelow f n t k) ⊎ ((j : ℕ) → j < n → t ≤ℤ f j) → (f n <ℤ t) ⊎ (t ≤ℤ f n)
        → ((k : ℕ) × IsBelow f (suc n) t k) ⊎ ((j : ℕ) → j < suc n → t ≤ℤ f j)
    go (inl (k, s)) (inl l) = inl (elim (lt_or_ge_ℤ (f k) (f n)) [
      | inl h ↦ at_last l (λ j i b. at_most_then_less (f j) (f k) (f n) (s.top j i b) h)
      | inr h ↦ (
        k,
        record {
          index = wide s.index;
          below = s.below;
          top = λ j i b. elim (below_or_last n j i)
              [ inl x ↦ s.top j x b | inr e ↦ subst (λ o. f o ≤ℤ f k) (sym e) h ];
        },
      )
    ])
      where
        wide : k < n → k < suc n
        wide h = omega arith
    go (inl (k, s)) (inr l) = inl (
      k,
      record {
        index = wide s.index;
        below = s.below;
        top = λ j i b. elim (below_or_last n j i) [
          | inl x ↦ s.top j x b
          | inr e ↦ absurd (below_and_not_below (f n) t (subst (λ o. f o <ℤ t) e b) l)
        ];
      },
    )
      where
        wide : k < n → k < suc n
        wide h = omega arith
    go (inr none) (inl l) =
        inl (at_last l (λ j i b. absurd (below_and_not_below (f j) t b (none j i))))
    go (inr none) (inr l) = inr (λ j i. elim
        (below_or_last n j i) [ inl x ↦ none j x | inr e ↦ subst (λ o. t ≤ℤ f o) (sym e) l ])

-- ---- places
-- a point whose number is strictly between two others is strictly between their points
abbrev TellWithin : ℕ → (ℕ → Point) → (ℕ → ℤ) → Type 0
TellWithin n p spot = (i j k : ℕ) → i < n → j < n → k < n → spot i <ℤ spot k → spot k <ℤ spot j
    → WithinSegment (whole (p i)) (whole (p j)) (whole (p k))

-- and one strictly between two others has its number there, one way or the other, unless all three
-- numbers are one
abbrev TellOrder : (ℕ → Point) → (ℕ → ℤ) → Type 0
TellOrder p spot = (i j k : ℕ) → WithinSegment (whole (p i)) (whole (p j)) (whole (p k))
    → ((spot i <ℤ spot k) × (spot k <ℤ spot j)) ⊎ (((spot j <ℤ spot k) × (spot k <ℤ spot i))
    ⊎ ((spot i ≡ spot k) × (spot k ≡ spot j)))

-- the numbers are places of the first n points along a line
pub record ArePlaces (n : ℕ) (p : ℕ → Point) (spot : ℕ → ℤ) : Type 0 where
  pub same : IsOneToOne n spot
  pub within : TellWithin n p spot
  pub order : TellOrder p spot

module _ (n : ℕ) (p : ℕ → Point) (spot : ℕ → ℤ) (q : ArePlaces n p spot) where
  -- no vertex has its place strictly between those of two neighbours
  pub none_between_places : (i j k : ℕ) → Adjoin n p i j → k < n → spot i <ℤ spot k
      → spot k <ℤ spot j → ⊥
  none_between_places i j k s h a b = s.none_between k h (q.within i j k s.first s.second h a b)

module _ (n : ℕ) (p : ℕ → Point) (outer : List (ℕ × ℕ)) (m : SignLine n p outer) (spot : ℕ → ℤ)
    (q : ArePlaces n p spot) where
  -- the vertex next below one that has one below it is its neighbour
  pub next_below : (k : ℕ) → k < n → (j : ℕ) → IsBelow spot n (spot k) j → Contains outer (k, j)
  next_below k h j s = (m.neighbours k j).1 (record {
    apart = λ e. less_is_not_same (spot j) (spot k) s.below (ap spot (sym e));
    first = h;
    second = s.index;
    none_between = λ i hi w. none i hi (q.order k j i w);
  })
    where
      none : (i : ℕ) → i < n → ((spot k <ℤ spot i) × (spot i <ℤ spot j))
          ⊎ (((spot j <ℤ spot i) × (spot i <ℤ spot k)) ⊎ ((spot k ≡ spot i) × (spot i ≡ spot j)))
          → ⊥
      none i hi (inl o) = less_in_a_ring (spot k) (spot i) (spot j) o.0 o.1 s.below
      none i hi (inr (inl o)) = below_and_not_below (spot j) (spot i) o.0 (s.top i hi o.1)
      none i hi (inr (inr o)) = less_is_not_same (spot j) (spot k) s.below (sym (o.0 ∙ o.1))

-- ---- steps on numbers
from_difference : (d t f : ℤ) → d ≡ t -ℤ f → f <ℤ t → pos 0 <ℤ d
from_difference d t f e h = omega (arith, ints)

-- what is strictly between two numbers is above the one and below the other
strictly : (a b t : ℤ) → AreOneSign (t -ℤ a) (b -ℤ t)
    → ((a <ℤ t) × (t <ℤ b)) ⊎ (((b <ℤ t) × (t <ℤ a)) ⊎ ((a ≡ t) × (t ≡ b)))
strictly a b t (inl h) = inl (omega (arith, ints), omega (arith, ints))
strictly a b t (inr (inl h)) = inr (inl (omega (arith, ints), omega (arith, ints)))
strictly a b t (inr (inr h)) = inr (inr (omega (arith, ints), omega (arith, ints)))

module _ (n : ℕ) (p : ℕ → Point) (outer : List (ℕ × ℕ)) (m : SignLine n p outer)
    (y : Fraction) where
  -- y is at the vertex v
  pub record IsAtPoint : Type 0 where
    pub v : ℕ
    pub index : v < n
    pub same : IsSame y (whole (p v))

  -- y is strictly within the edge of i and j
  pub record IsOnEdge : Type 0 where
    pub i : ℕ
    pub j : ℕ
    pub edge : Contains outer (i, j)
    pub within : WithinSegment (whole (p i)) (whole (p j)) y

  -- i is strictly between y and each other vertex
  abbrev pub IsBeyond : ℕ → Type 0
  IsBeyond i = (k : ℕ) → k < n → k ≢ i → WithinSegment y (whole (p k)) (whole (p i))

  -- y is on the left of a directed edge, or beyond its start in the line's direction
  pub record IsBesideEdge : Type 0 where
    pub i : ℕ
    pub j : ℕ
    pub edge : Contains outer (i, j)
    pub out : (pos 0 <ℤ bracket (at p i) (at p j) (vec y)) ⊎ IsBeyond i

  -- ---- y is on the line, which goes from vertex c to vertex d
  module _ (c d : ℕ) (c_index : c < n) (d_index : d < n) (c_not_d : c ≢ d)
      (level : bracket (at p c) (at p d) (vec y) ≡ pos 0) where
    apart : ¬ (p c ≡ p d)
    apart = m.distinct c d c_index d_index c_not_d

    levels : (k : ℕ) → k < n → bracket (at p c) (at p d) (at p k) ≡ pos 0
    levels k h = m.straight c d k c_index d_index h

    -- places, times the denominator of y
    pub spot : ℕ → ℤ
    spot k = y.w *ℤ place_on (p c) (p d) (at p k)

    -- the place of y on the line from c to d
    pub mark : ℤ
    mark = place_on (p c) (p d) (vec y)

    from_vertex : (k : ℕ) → ahead (p c) (p d) (whole (p k)) y ≡ mark -ℤ spot k
    unfolding ahead spot mark
    from_vertex k = one_times (place_on (p c) (p d) (vec y)) (y.w *ℤ place_on (p c) (p d) (at p k))
      where
        one_times : (a b : ℤ) → pos 1 *ℤ a -ℤ b ≡ a -ℤ b
        one_times a b = omega (arith, ints)

    to_vertex : (k : ℕ) → ahead (p c) (p d) y (whole (p k)) ≡ spot k -ℤ mark
    unfolding ahead spot mark
    to_vertex k = one_times (y.w *ℤ place_on (p c) (p d) (at p k)) (place_on (p c) (p d) (vec y))
      where
        one_times : (a b : ℤ) → a -ℤ pos 1 *ℤ b ≡ a -ℤ b
        one_times a b = omega (arith, ints)

    of_vertices : (i k : ℕ)
        → y.w *ℤ ahead (p c) (p d) (whole (p i)) (whole (p k)) ≡ spot k -ℤ spot i
    unfolding ahead spot
    of_vertices i k = shared y.w (place_on (p c) (p d) (at p i)) (place_on (p c) (p d) (at p k))
      where
        shared : (w a b : ℤ) → w *ℤ (pos 1 *ℤ b -ℤ pos 1 *ℤ a) ≡ w *ℤ b -ℤ w *ℤ a
        shared w a b = ring_in (w ∷ a ∷ b ∷ []) (λ w a b. w ⊗ (num 1 ⊗ b ⊖ num 1 ⊗ a))
            (λ w a b. w ⊗ b ⊖ w ⊗ a) tt

    vertices_ahead : (i k : ℕ) → spot i <ℤ spot k
        → pos 0 <ℤ ahead (p c) (p d) (whole (p i)) (whole (p k))
    vertices_ahead i k h = pos_of_mul-pos_ℤ y.positive (from_difference (y.w
        *ℤ ahead (p c) (p d) (whole (p i)) (whole (p k))) (spot k) (spot i) (of_vertices i k) h)

    -- vertices at one place are one
    pub same_spot : IsOneToOne n spot
    unfolding spot
    same_spot i k hi hk e = same_place n p m.distinct (p c) (p d) apart i k hi hk (levels i hi)
        (levels k hk) (mul_same (place_on (p c) (p d) (at p i)) (place_on (p c) (p d) (at p k)) e)
      where
        mul_same : (a b : ℤ) → y.w *ℤ a ≡ y.w *ℤ b → a ≡ b
        mul_same a b e = mul_cancel_ℤ (pos-ne-zero_ℤ y.positive) e

    at_spot : (k : ℕ) → k < n → spot k ≡ mark → IsAtPoint
    at_spot k h e = record {
      v = k;
      index = h;
      same = same_if_level (p c) (p d) apart y (whole (p k)) level (levels k h)
          (to_vertex k ∙ same_have_no_difference (spot k) mark e);
    }

    -- a vertex at y has its place
    pub spot_at : (k : ℕ) → IsSame y (whole (p k)) → spot k ≡ mark
    spot_at k s = equal (ahead (p c) (p d) y (whole (p k))) (spot k) mark (to_vertex k)
        (level_if_same (p c) (p d) y (whole (p k)) s)
      where
        equal : (d a b : ℤ) → d ≡ a -ℤ b → d ≡ pos 0 → a ≡ b
        equal d a b e z = omega (arith, ints)

    -- y strictly between two vertices, and a vertex between two others
    within_y : (i j : ℕ) → i < n → j < n → spot i <ℤ mark → mark <ℤ spot j
        → WithinSegment (whole (p i)) (whole (p j)) y
    within_y i j hi hj a b = within_if_ahead (p c) (p d) apart (whole (p i)) (whole (p j)) y
        (levels i hi) (levels j hj) level
        (from_difference (ahead (p c) (p d) (whole (p i)) y) mark (spot i) (from_vertex i) a)
        (from_difference (ahead (p c) (p d) y (whole (p j))) (spot j) mark (to_vertex j) b)

    -- a place between two others is within their segment
    pub within_k : TellWithin n p spot
    within_k i j k hi hj hk a b =
        within_if_ahead (p c) (p d) apart (whole (p i)) (whole (p j)) (whole (p k)) (levels i hi)
        (levels j hj) (levels k hk) (vertices_ahead i k a) (vertices_ahead k j b)

    order_y : (i j : ℕ) → WithinSegment (whole (p i)) (whole (p j)) y
        → ((spot i <ℤ mark) × (mark <ℤ spot j))
        ⊎ (((spot j <ℤ mark) × (mark <ℤ spot i)) ⊎ ((spot i ≡ mark) × (mark ≡ spot j)))
    order_y i j w = strictly (spot i) (spot j) mark
        (read (ahead (p c) (p d) (whole (p i)) y) (ahead (p c) (p d) y (whole (p j)))
        (from_vertex i) (to_vertex j) (ahead_if_within (p c) (p d) (whole (p i)) (whole (p j)) y w))
      where
        read : (x z : ℤ) {s t : ℤ} → x ≡ s → z ≡ t → AreOneSign x z → AreOneSign s t
        read x z e f o = subst (λ (q : ℤ × ℤ). AreOneSign q.0 q.1) (λ i. (e i, f i)) o

    -- places rise along the line as its points do
    pub order_k : TellOrder p spot
    order_k i j k w =
        strictly (spot i) (spot j) (spot k) (scaled (ahead (p c) (p d) (whole (p i)) (whole (p k)))
        (ahead (p c) (p d) (whole (p k)) (whole (p j))) (of_vertices i k) (of_vertices k j)
        (ahead_if_within (p c) (p d) (whole (p i)) (whole (p j)) (whole (p k)) w))
      where
        scaled : (x z : ℤ) {s t : ℤ} → y.w *ℤ x ≡ s → y.w *ℤ z ≡ t → AreOneSign x z → AreOneSign s t
        scaled x z e f (inl o) = inl (
          subst (λ q. pos 0 <ℤ q) e (mul-pos_ℤ y.positive o.0),
          subst (λ q. pos 0 <ℤ q) f (mul-pos_ℤ y.positive o.1),
        )
        scaled x z e f (inr (inl o)) =
            inr (inl (
              subst (λ q. q <ℤ pos 0) e (mul-neg_of_pos_neg_ℤ y.positive o.0),
              subst (λ q. q <ℤ pos 0) f (mul-neg_of_pos_neg_ℤ y.positive o.1),
            ))
        scaled x z e f (inr (inr o)) =
            inr (inr (sym e ∙ zero-mul_ℤ y.w o.0, sym f ∙ zero-mul_ℤ y.w o.1))

    -- these are places along the line
    pub places : ArePlaces n p spot
    places = record { same = same_spot; within = within_k; order = order_k }

    -- i strictly between y and k
    order_i : (k i : ℕ) → WithinSegment y (whole (p k)) (whole (p i))
        → ((mark <ℤ spot i) × (spot i <ℤ spot k))
        ⊎ (((spot k <ℤ spot i) × (spot i <ℤ mark)) ⊎ ((mark ≡ spot i) × (spot i ≡ spot k)))
    order_i k i w = strictly mark (spot k) (spot i) (scaled (ahead (p c) (p d) y (whole (p i)))
        (ahead (p c) (p d) (whole (p i)) (whole (p k))) (to_vertex i) (of_vertices i k)
        (ahead_if_within (p c) (p d) y (whole (p k)) (whole (p i)) w))
      where
        scaled : (x z : ℤ) {s t : ℤ} → x ≡ s → y.w *ℤ z ≡ t → AreOneSign x z → AreOneSign s t
        scaled x z e f (inl o) = inl
            (subst (λ q. pos 0 <ℤ q) e o.0, subst (λ q. pos 0 <ℤ q) f (mul-pos_ℤ y.positive o.1))
        scaled x z e f (inr (inl o)) = inr (inl (
          subst (λ q. q <ℤ pos 0) e o.0,
          subst (λ q. q <ℤ pos 0) f (mul-neg_of_pos_neg_ℤ y.positive o.1),
        ))
        scaled x z e f (inr (inr o)) = inr (inr (sym e ∙ o.0, sym f ∙ zero-mul_ℤ y.w o.1))

    -- ---- somewhere
    -- next below a vertex that has one below it
    pub lower_edge : (k : ℕ) → k < n → (j : ℕ) → IsBelow spot n (spot k) j → Contains outer (k, j)
    lower_edge = next_below n p outer m spot places

    -- some vertex has an edge
    some_edge : (i j : ℕ) × Contains outer (i, j)
    some_edge = go (lt_or_ge_ℤ (spot c) (spot d))
      where
        below : (a b : ℕ) → a < n → b < n → spot a <ℤ spot b → (i j : ℕ) × Contains outer (i, j)
        below a b ha hb l = elim (nearest_below spot n (spot b)) [
          | inl s ↦ (b, s.0, lower_edge b hb s.0 s.1)
          | inr none ↦ absurd (below_and_not_below (spot a) (spot b) l (none a ha))
        ]

        strict : (a b : ℤ) → b ≤ℤ a → (b <ℤ a) ⊎ (a ≡ b)
        strict a b h = elim (lt_or_ge_ℤ b a) [ inl l ↦ inl l | inr l ↦ inr (omega (arith, ints)) ]

        go : (spot c <ℤ spot d) ⊎ (spot d ≤ℤ spot c) → (i j : ℕ) × Contains outer (i, j)
        go (inl l) = below c d c_index d_index l
        go (inr l) = elim (strict (spot c) (spot d) l) [
          | inl k ↦ below d c d_index c_index k
          | inr e ↦ absurd (c_not_d (same_spot c d c_index d_index e))
        ]

    -- k is below y, and all others are below k
    past_last : (k : ℕ) → k < n → spot k <ℤ mark → ((j : ℕ) → j < n → spot j ≤ℤ spot k)
        → IsBesideEdge
    past_last k h l top =
        let e = lowest (nearest_below spot n (spot k)) in
        record {
          i = k;
          j = e.0;
          edge = e.1;
          out = inr (λ j hj other. turned_within (whole (p j)) y (whole (p k)) (within_if_ahead
              (p c) (p d) apart (whole (p j)) y (whole (p k)) (levels j hj) level (levels k h)
              (vertices_ahead j k (less_if_not_same (spot j) (spot k) (top j hj)
              (λ e. other (same_spot j k hj h e)))) (from_difference
              (ahead (p c) (p d) (whole (p k)) y) mark (spot k) (from_vertex k) l)));
        }
      where
        level_with : (a b t : ℤ) → a ≤ℤ t → t ≤ℤ a → b ≤ℤ t → t ≤ℤ b → a ≡ b
        level_with a b t h k i j = omega (arith, ints)

        lowest : ((j : ℕ) × IsBelow spot n (spot k) j) ⊎ ((j : ℕ) → j < n → spot k ≤ℤ spot j)
            → (j : ℕ) × Contains outer (k, j)
        lowest (inl s) = (s.0, lower_edge k h s.0 s.1)
        lowest (inr none) = absurd (c_not_d (same_spot c d c_index d_index (level_with (spot c)
            (spot d) (spot k) (top c c_index) (none c c_index) (top d d_index) (none d d_index))))

    -- no vertex is behind y, or it is at a vertex, within an edge or past the last
    from_behind : (IsAtPoint ⊎ (IsOnEdge ⊎ IsBesideEdge)) ⊎ ((k : ℕ) → k < n → mark <ℤ spot k)
    from_behind = go (nearest_below spot n (mark +ℤ pos 1))
      where
        above : (a b : ℤ) → (a +ℤ pos 1) ≤ℤ b → a <ℤ b
        above a b h = omega (arith, ints)

        under : (a b : ℤ) → a <ℤ (b +ℤ pos 1) → (a ≡ b) ⊎ (a <ℤ b)
        under a b h = elim (lt_or_ge_ℤ a b) [ inl l ↦ inr l | inr l ↦ inl (omega (arith, ints)) ]

        within : (k : ℕ) → IsBelow spot n (mark +ℤ pos 1) k → spot k <ℤ mark
            → ((j : ℕ) × IsBelow (λ i. pos 0 -ℤ spot i) n (pos 0 -ℤ mark) j)
            ⊎ ((j : ℕ) → j < n → (pos 0 -ℤ mark) ≤ℤ (pos 0 -ℤ spot j)) → IsOnEdge ⊎ IsBesideEdge
        within k s l (inl (j, t)) = inl (record {
          i = k;
          j = j;
          edge = (m.neighbours k j).1 (record {
            apart = λ e. less_twice_is_not_same (spot k) mark (spot j) l
                (less_by_negations (spot j) mark t.below) (ap spot e);
            first = s.index;
            second = t.index;
            none_between = λ i hi w. none i hi (order_k k j i w);
          });
          within = within_y k j s.index t.index l (less_by_negations (spot j) mark t.below);
        })
          where
            chain : (a b c t : ℤ) → a <ℤ t → t <ℤ b → c <ℤ a → b <ℤ c → ⊥
            chain a b c t h k l n = omega (arith, ints)

            middle : (a b t z : ℤ) → a <ℤ z → z <ℤ b → (z <ℤ (t +ℤ pos 1) → z ≤ℤ a)
                → ((pos 0 -ℤ z) <ℤ (pos 0 -ℤ t) → (pos 0 -ℤ z) ≤ℤ (pos 0 -ℤ b)) → ⊥
            middle a b t z h k low high = elim (lt_or_ge_ℤ t z) [
              | inl x ↦ (let q = high (omega (arith, ints)) in omega (arith, ints))
              | inr x ↦ (let q = low (omega (arith, ints)) in omega (arith, ints))
            ]

            none : (i : ℕ) → i < n → ((spot k <ℤ spot i) × (spot i <ℤ spot j))
                ⊎ (((spot j <ℤ spot i) × (spot i <ℤ spot k))
                ⊎ ((spot k ≡ spot i) × (spot i ≡ spot j))) → ⊥
            none i hi (inl o) =
                middle (spot k) (spot j) mark (spot i) o.0 o.1 (s.top i hi) (t.top i hi)
            none i hi (inr (inl o)) = chain (spot k) (spot j) (spot i) mark l
                (less_by_negations (spot j) mark t.below) o.1 o.0
            none i hi (inr (inr o)) = less_twice_is_not_same (spot k) mark (spot j) l
                (less_by_negations (spot j) mark t.below) (o.0 ∙ o.1)
        within k s l (inr none) =
            inr (past_last k s.index l (λ j hj. s.top j hj (low (spot j) mark (none j hj))))
          where
            low : (a b : ℤ) → (pos 0 -ℤ b) ≤ℤ (pos 0 -ℤ a) → a <ℤ (b +ℤ pos 1)
            low a b h = omega (arith, ints)

        go : ((k : ℕ) × IsBelow spot n (mark +ℤ pos 1) k)
            ⊎ ((j : ℕ) → j < n → (mark +ℤ pos 1) ≤ℤ spot j)
            → (IsAtPoint ⊎ (IsOnEdge ⊎ IsBesideEdge)) ⊎ ((k : ℕ) → k < n → mark <ℤ spot k)
        go (inl (k, s)) = inl (elim (under (spot k) mark s.below) [
          | inl e ↦ inl (at_spot k s.index e)
          | inr l ↦ inr (within k s l (nearest_below (λ i. pos 0 -ℤ spot i) n (pos 0 -ℤ mark)))
        ])
        go (inr none) = inr (λ k h. above mark (spot k) (none k h))

    -- ---- in one way alone
    edge_unique : (a b s t : ℕ) → Adjoin n p a b → Adjoin n p s t
        → ((spot a <ℤ mark) × (mark <ℤ spot b)) → ((spot s <ℤ mark) × (mark <ℤ spot t))
        → (a ≡ s) × (b ≡ t)
    edge_unique a b s t f g x z =
        (first (trichotomy_ℤ (spot a -ℤ spot s)), second (trichotomy_ℤ (spot b -ℤ spot t)))
      where
        through : (a b s t k : ℤ) → (a <ℤ k) × (k <ℤ b) → (s <ℤ k) × (k <ℤ t) → (a <ℤ t) × (s <ℤ b)
        through a b s t k x z = (omega (arith, ints), omega (arith, ints))

        across : (spot a <ℤ spot t) × (spot s <ℤ spot b)
        across = through (spot a) (spot b) (spot s) (spot t) mark x z

        first : ((spot a -ℤ spot s) <ℤ pos 0)
            ⊎ ((spot a -ℤ spot s ≡ pos 0) ⊎ (pos 0 <ℤ (spot a -ℤ spot s))) → a ≡ s
        first (inl h) = absurd (f.none_between s g.first (within_k a b s f.first f.second g.first
            (less_by_negative_difference (spot a) (spot s) h) across.1))
        first (inr (inl h)) = same_spot a s f.first g.first (no_difference (spot a) (spot s) h)
        first (inr (inr h)) = absurd (g.none_between a f.first (within_k s t a g.first g.second
            f.first (more_by_difference (spot a) (spot s) h) across.0))

        second : ((spot b -ℤ spot t) <ℤ pos 0)
            ⊎ ((spot b -ℤ spot t ≡ pos 0) ⊎ (pos 0 <ℤ (spot b -ℤ spot t))) → b ≡ t
        second (inl h) = absurd (g.none_between b f.second (within_k s t b g.first g.second f.second
            across.1 (less_by_negative_difference (spot b) (spot t) h)))
        second (inr (inl h)) = same_spot b t f.second g.second (no_difference (spot b) (spot t) h)
        second (inr (inr h)) = absurd (f.none_between t g.second (within_k a b t f.first f.second
            g.second across.0 (more_by_difference (spot b) (spot t) h)))

    -- on two edges: they are one
    one_edge : (a b s t : ℕ) → Adjoin n p a b → Adjoin n p s t
        → WithinSegment (whole (p a)) (whole (p b)) y → WithinSegment (whole (p s)) (whole (p t)) y
        → IsSamePair s t a b
    one_edge a b s t f g w v = go (order_y a b w) (order_y s t v)
      where
        flat_edge : (i j : ℕ) → Adjoin n p i j → (spot i ≡ mark) × (mark ≡ spot j) → ⊥
        flat_edge i j e o = e.apart (same_spot i j e.first e.second (o.0 ∙ o.1))

        go : ((spot a <ℤ mark) × (mark <ℤ spot b))
            ⊎ (((spot b <ℤ mark) × (mark <ℤ spot a)) ⊎ ((spot a ≡ mark) × (mark ≡ spot b)))
            → ((spot s <ℤ mark) × (mark <ℤ spot t))
            ⊎ (((spot t <ℤ mark) × (mark <ℤ spot s)) ⊎ ((spot s ≡ mark) × (mark ≡ spot t)))
            → IsSamePair s t a b
        go (inl x) (inl z) = let e = edge_unique a b s t f g x z in inl (sym e.0, sym e.1)
        go (inl x) (inr (inl z)) =
            let e = edge_unique a b t s f (next_turned n p s t g) x z in inr (sym e.1, sym e.0)
        go (inr (inl x)) (inl z) =
            let e = edge_unique b a s t (next_turned n p a b f) g x z in inr (sym e.0, sym e.1)
        go (inr (inl x)) (inr (inl z)) =
            let e = edge_unique b a t s (next_turned n p a b f) (next_turned n p s t g) x z in
            inl (sym e.1, sym e.0)
        go (inr (inr x)) z = absurd (flat_edge a b f x)
        go x (inr (inr z)) = absurd (flat_edge s t g z)

    -- past the end i: y is not where i is, and all vertices are on one side of it
    past_apart : (i j : ℕ) → Adjoin n p i j → IsBeyond i → ¬ (spot i ≡ mark)
    past_apart i j e beyond r = go (order_i j i (beyond j e.second (λ q. e.apart (sym q)))) r
      where
        go : ((mark <ℤ spot i) × (spot i <ℤ spot j))
            ⊎ (((spot j <ℤ spot i) × (spot i <ℤ mark)) ⊎ ((mark ≡ spot i) × (spot i ≡ spot j)))
            → spot i ≡ mark → ⊥
        go (inl o) r = let a = o.0 in omega (arith, ints)
        go (inr (inl o)) r = let a = o.1 in omega (arith, ints)
        go (inr (inr o)) r = e.apart (same_spot i j e.first e.second o.1)

    -- no vertex is level with y, and y is not strictly between two
    module _ (i j : ℕ) (e : Adjoin n p i j) (beyond : IsBeyond i) where
      others_high : mark <ℤ spot i → (k : ℕ) → k < n → mark <ℤ spot k
      others_high l k h = elim (cases_eq k i) [
        | inl q ↦ subst (λ o. mark <ℤ spot o) (sym q) l
        | inr q ↦ high (mark) (spot i) (spot k) l (order_i k i (beyond k h q))
      ]
        where
          high : (t a b : ℤ) → t <ℤ a
              → ((t <ℤ a) × (a <ℤ b)) ⊎ (((b <ℤ a) × (a <ℤ t)) ⊎ ((t ≡ a) × (a ≡ b))) → t <ℤ b
          high t a b l (inl o) = let q = o.1 in omega (arith, ints)
          high t a b l (inr (inl o)) = absurd (let q = o.1 in omega (arith, ints))
          high t a b l (inr (inr o)) = absurd (let q = o.0 in omega (arith, ints))

      others_low : spot i <ℤ mark → (k : ℕ) → k < n → spot k <ℤ mark
      others_low l k h = elim (cases_eq k i) [
        | inl q ↦ subst (λ o. spot o <ℤ mark) (sym q) l
        | inr q ↦ low (mark) (spot i) (spot k) l (order_i k i (beyond k h q))
      ]
        where
          low : (t a b : ℤ) → a <ℤ t
              → ((t <ℤ a) × (a <ℤ b)) ⊎ (((b <ℤ a) × (a <ℤ t)) ⊎ ((t ≡ a) × (a ≡ b))) → b <ℤ t
          low t a b l (inl o) = absurd (let q = o.0 in omega (arith, ints))
          low t a b l (inr (inl o)) = let q = o.0 in omega (arith, ints)
          low t a b l (inr (inr o)) = absurd (let q = o.0 in omega (arith, ints))

      one_sided : ((k : ℕ) → k < n → mark <ℤ spot k) ⊎ ((k : ℕ) → k < n → spot k <ℤ mark)
      one_sided = elim (lt_or_ge_ℤ mark (spot i)) [
        | inl l ↦ inl (others_high l)
        | inr l ↦ elim (lt_or_ge_ℤ (spot i) mark) [
          | inl k ↦ inr (others_low k)
          | inr k ↦ absurd (past_apart i j e beyond (at_most_both_ways (spot i) mark l k))
        ]
      ]

      vertex_not_past : (v : ℕ) → v < n → IsSame y (whole (p v)) → ⊥
      vertex_not_past v h s = elim one_sided [
        | inl o ↦ above (spot v) mark (spot_at v s) (o v h)
        | inr o ↦ same_is_not_less (spot v) mark (spot_at v s) (o v h)
      ]
        where
          above : (a b : ℤ) → a ≡ b → b <ℤ a → ⊥
          above a b h k = omega (arith, ints)

      edge_not_past : (a b : ℕ) → a < n → b < n → WithinSegment (whole (p a)) (whole (p b)) y → ⊥
      edge_not_past a b ha hb w = elim one_sided [
        | inl o ↦ above (spot a) (spot b) mark (o a ha) (o b hb) (order_y a b w)
        | inr o ↦ under (spot a) (spot b) mark (o a ha) (o b hb) (order_y a b w)
      ]
        where
          above : (a b t : ℤ) → t <ℤ a → t <ℤ b
              → ((a <ℤ t) × (t <ℤ b)) ⊎ (((b <ℤ t) × (t <ℤ a)) ⊎ ((a ≡ t) × (t ≡ b))) → ⊥
          above a b t h k (inl o) = let q = o.0 in omega (arith, ints)
          above a b t h k (inr (inl o)) = let q = o.0 in omega (arith, ints)
          above a b t h k (inr (inr o)) = let q = o.0 in omega (arith, ints)

          under : (a b t : ℤ) → a <ℤ t → b <ℤ t
              → ((a <ℤ t) × (t <ℤ b)) ⊎ (((b <ℤ t) × (t <ℤ a)) ⊎ ((a ≡ t) × (t ≡ b))) → ⊥
          under a b t h k (inl o) = let q = o.1 in omega (arith, ints)
          under a b t h k (inr (inl o)) = let q = o.1 in omega (arith, ints)
          under a b t h k (inr (inr o)) = let q = o.0 in omega (arith, ints)

  -- ---- the line's direction turned
  module _ (c d : ℕ) (c_index : c < n) (d_index : d < n) (c_not_d : c ≢ d) where
    -- y is on the line of two vertices in either order
    pub turned_level : bracket (at p c) (at p d) (vec y) ≡ pos 0
        → bracket (at p d) (at p c) (vec y) ≡ pos 0
    turned_level e = bracket-swap (at p d) (at p c) (vec y) ∙ ap neg_ℤ e

    -- the places along the line turned round are those along it, turned
    pub turned_spots : (level : bracket (at p c) (at p d) (vec y) ≡ pos 0)
        (level' : bracket (at p d) (at p c) (vec y) ≡ pos 0) (k : ℕ) → spot d c d_index c_index
        (λ e. c_not_d (sym e)) level' k -ℤ mark d c d_index c_index (λ e. c_not_d (sym e)) level'
        ≡ mark c d c_index d_index c_not_d level -ℤ spot c d c_index d_index c_not_d level k
    unfolding spot mark place_on
    turned_spots level level' k =
        ring_in ((p c).x ∷ (p c).y ∷ (p d).x ∷ (p d).y ∷ (p k).x ∷ (p k).y ∷ y.x ∷ y.y ∷ y.w ∷ [])
        (λ cx cy dx dy kx ky yx yy yw. yw ⊗ ((cx ⊖ dx) ⊗ (kx ⊖ num 1 ⊗ dx) ⊕ (cy ⊖ dy)
        ⊗ (ky ⊖ num 1 ⊗ dy)) ⊖ ((cx ⊖ dx) ⊗ (yx ⊖ yw ⊗ dx) ⊕ (cy ⊖ dy) ⊗ (yy ⊖ yw ⊗ dy)))
        (λ cx cy dx dy kx ky yx yy yw. ((dx ⊖ cx) ⊗ (yx ⊖ yw ⊗ cx) ⊕ (dy ⊖ cy) ⊗ (yy ⊖ yw ⊗ cy))
        ⊖ yw ⊗ ((dx ⊖ cx) ⊗ (kx ⊖ num 1 ⊗ cx) ⊕ (dy ⊖ cy) ⊗ (ky ⊖ num 1 ⊗ cy))) tt

    -- on the line, y is somewhere
    somewhere_on_line : bracket (at p c) (at p d) (vec y) ≡ pos 0
        → IsAtPoint ⊎ (IsOnEdge ⊎ IsBesideEdge)
    somewhere_on_line level = elim (from_behind c d c_index d_index c_not_d level) [
      | inl r ↦ r
      | inr high ↦
          second (from_behind d c d_index c_index (λ e. c_not_d (sym e)) (turned_level level)) high
    ]
      where
        second : (IsAtPoint ⊎ (IsOnEdge ⊎ IsBesideEdge)) ⊎ ((k : ℕ) → k < n
            → mark d c d_index c_index (λ e. c_not_d (sym e)) (turned_level level)
            <ℤ spot d c d_index c_index (λ e. c_not_d (sym e)) (turned_level level) k)
            → ((k : ℕ) → k < n → mark c d c_index d_index c_not_d level
            <ℤ spot c d c_index d_index c_not_d level k) → IsAtPoint ⊎ (IsOnEdge ⊎ IsBesideEdge)
        second (inl r) high = r
        second (inr low) high =
            absurd (clash (spot d c d_index c_index (λ e. c_not_d (sym e)) (turned_level level) c)
            (mark d c d_index c_index (λ e. c_not_d (sym e)) (turned_level level))
            (mark c d c_index d_index c_not_d level) (spot c d c_index d_index c_not_d level c)
            (turned_spots level (turned_level level) c) (low c c_index) (high c c_index))
          where
            clash : (a b s t : ℤ) → a -ℤ b ≡ s -ℤ t → b <ℤ a → s <ℤ t → ⊥
            clash a b s t e h k = omega (arith, ints)

-- ---- the ways, for at least two points
module _ (n : ℕ) (p : ℕ → Point) (outer : List (ℕ × ℕ)) (m : SignLine n p outer)
    (y : Fraction) where
  -- each point is at a vertex, on an edge, or beside the line
  pub somewhere : 1 < n
      → IsAtPoint n p outer m y ⊎ (IsOnEdge n p outer m y ⊎ IsBesideEdge n p outer m y)
  somewhere several = go (trichotomy_ℤ (bracket (at p i) (at p j) (vec y)))
    where
      first : 0 < n
      first = omega arith

      edge : (i j : ℕ) × Contains outer (i, j)
      edge = some_edge n p outer m (whole (p 0)) 0 1 first several (λ e. omega arith)
          (bracket-outer (at p 0) (at p 1))

      i : ℕ
      i = edge.0

      j : ℕ
      j = edge.1

      next : Adjoin n p i j
      next = (m.neighbours i j).0 edge.2

      go : (bracket (at p i) (at p j) (vec y) <ℤ pos 0)
          ⊎ ((bracket (at p i) (at p j) (vec y) ≡ pos 0)
          ⊎ (pos 0 <ℤ bracket (at p i) (at p j) (vec y)))
          → IsAtPoint n p outer m y ⊎ (IsOnEdge n p outer m y ⊎ IsBesideEdge n p outer m y)
      go (inl h) = inr (inr (record {
        i = j;
        j = i;
        edge = back_way n p outer m i j edge.2;
        out = inl (negated_left (bracket-swap (at p j) (at p i) (vec y)) h);
      }))
      go (inr (inl h)) = somewhere_on_line n p outer m y i j next.first next.second next.apart h
      go (inr (inr h)) = inr (inr (record { i = i; j = j; edge = edge.2; out = inl h }))

  -- y is at one vertex at most
  pub point_unique : (a b : IsAtPoint n p outer m y) → a.v ≡ b.v
  point_unique a b = one_vertex_at n p m.distinct y a.v b.v a.index b.index a.same b.same

  -- a point at a vertex is within no edge
  pub point_not_on_edge : IsAtPoint n p outer m y → IsOnEdge n p outer m y → ⊥
  point_not_on_edge a o = ((m.neighbours o.i o.j).0 o.edge).none_between a.v a.index
      (same_within (p o.i) (p o.j) (p a.v) y a.same o.within)

  -- y is within one edge at most, in either direction
  pub on_one_edge : (a b : IsOnEdge n p outer m y) → IsSamePair b.i b.j a.i a.j
  on_one_edge a b =
      let s = (m.neighbours a.i a.j).0 a.edge in
      one_edge n p outer m y a.i a.j s.first s.second s.apart (within_on (p a.i) (p a.j) y a.within)
      a.i a.j b.i b.j s ((m.neighbours b.i b.j).0 b.edge) a.within b.within

  -- a point at a vertex is not beside the line
  pub point_not_beside : IsAtPoint n p outer m y → IsBesideEdge n p outer m y → ⊥
  point_not_beside a o = go o.out
    where
      s : Adjoin n p o.i o.j
      s = (m.neighbours o.i o.j).0 o.edge

      level : bracket (at p o.i) (at p o.j) (vec y) ≡ pos 0
      level = bracket_at (at p o.i) (at p o.j) (p a.v) y a.same
          ∙ zero-mul_ℤ y.w (m.straight o.i o.j a.v s.first s.second a.index)

      go : (pos 0 <ℤ bracket (at p o.i) (at p o.j) (vec y)) ⊎ IsBeyond n p outer m y o.i → ⊥
      go (inl h) = left_not_zero h level
      go (inr h) = vertex_not_past n p outer m y o.i o.j s.first s.second s.apart level o.i o.j s h
          a.v a.index a.same

  -- a point within an edge is not beside the line
  pub edge_not_beside : IsOnEdge n p outer m y → IsBesideEdge n p outer m y → ⊥
  edge_not_beside a o = go o.out
    where
      r : Adjoin n p a.i a.j
      r = (m.neighbours a.i a.j).0 a.edge

      s : Adjoin n p o.i o.j
      s = (m.neighbours o.i o.j).0 o.edge

      level : bracket (at p o.i) (at p o.j) (vec y) ≡ pos 0
      level = flat (p a.i) (p a.j) (at p o.i) (at p o.j) (vec y) (m.distinct a.i a.j r.first
          r.second r.apart) (m.straight a.i a.j o.i r.first r.second s.first)
          (m.straight a.i a.j o.j r.first r.second s.second) (within_on (p a.i) (p a.j) y a.within)

      go : (pos 0 <ℤ bracket (at p o.i) (at p o.j) (vec y)) ⊎ IsBeyond n p outer m y o.i → ⊥
      go (inl h) = left_not_zero h level
      go (inr h) = edge_not_past n p outer m y o.i o.j s.first s.second s.apart level o.i o.j s h
          a.i a.j r.first r.second a.within
