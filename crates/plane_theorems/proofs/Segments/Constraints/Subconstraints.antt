-- A path of constraints between two vertices: its first subconstraint, and the path of the rest.
-- Notions: On; on_parts, on_of_mean, path_begins, path_goes_on, path_ends, next_is_neighbours.
use Rattle.std.proofs.Common.{◌≡◌, ◌⊎◌, ◌↔◌, ◌<◌, [], ◌∷◌, ◌∙◌}
use Rattle.std.proofs.Common.{ℕ, List, length, refl, sym, ap, subst, subst₂, arith}
use mathlib.Core.Logic.{inl, inr}
use Rattle.std.specs.Prelude.{ℤ, pos, ◌+ℤ◌, ◌-ℤ◌, ◌*ℤ◌, ◌≤ℤ◌, ◌<ℤ◌}
use Rattle.std.proofs.lemmas.Int.{ints}
use Rattle.std.proofs.lemmas.Bool.{cases_eq}
use Rattle.plane.specs.{AreNeighboursOn, Fraction, IsIndex, IsNotNegative, IsPositive, IsSame}
use Rattle.plane.specs.{IsSamePair, OnSegment, place, Point, whole, WithinSegment}
use Rattle.plane.proofs.{◌⊕◌, ◌⊖◌, ◌⊗◌, at_most_and_more, bracket, bracket-last, bracket-outer}
use Rattle.plane.proofs.{bracket_of_two, decide_below, decide_both, decide_on_segment, Decision}
use Rattle.plane.proofs.{end_on_segment, IsBetween, less_by_negative_difference, less_is_at_most}
use Rattle.plane.proofs.{less_through, lift, lt_or_ge_ℤ, mean_of_two, more_by_difference}
use Rattle.plane.proofs.{no_difference, num, on_of_within, only_point, place_of_end, place_of_start}
use Rattle.plane.proofs.{place_on, place_within, pos-ne-zero_ℤ, ring_in_from, same-refl}
use Rattle.plane.proofs.{same_by_places, same_is_not_less, start_on_segment, sum_of_zeros}
use Rattle.plane.proofs.{trichotomy_ℤ, two_weights, TwoWeights, within_places, zero-mul_ℤ}
use Rattle.plane.proofs.{zero_below_positive, zero_of_mul-zero_ℤ, zero_or_left}
use Rattle.plane.proofs.Signs.{at_most_through, same_is_at_most_of}
use Rattle.plane_theorems.specs.{AreNextOn, ArePlacedApart, point_of}
use Rattle.plane_theorems.specs.Segments.Constraints.{PathBegins, PathEnds, PathGoesOn}
use Rattle.plane_theorems.proofs.Segments.Crossing.Chosen.{IsLastBelow, last_below}
use Rattle.plane_theorems.proofs.{Segments.Crossing.EitherWay.one_point, Tiling.Edges.turned_within}

-- ---- the points of a closed segment
second_part : (k l n a aw b bw p pw : ℤ) → n *ℤ p ≡ k *ℤ a +ℤ l *ℤ b → n *ℤ pw ≡ k *ℤ aw +ℤ l *ℤ bw
    → k ≡ pos 0 → n *ℤ (p *ℤ bw -ℤ b *ℤ pw) ≡ pos 0
second_part k l n a aw b bw p pw e d c = ring_in_from (k ∷ l ∷ n ∷ a ∷ aw ∷ b ∷ bw ∷ p ∷ pw ∷ [])
    (λ k l n a aw b bw p pw. n ⊗ (p ⊗ bw ⊖ b ⊗ pw)) (λ k l n a aw b bw p pw. num 0)
    (λ k l n a aw b bw p pw. (bw, n ⊗ p, k ⊗ a ⊕ l ⊗ b) ∷ (num 0 ⊖ b, n ⊗ pw, k ⊗ aw ⊕ l ⊗ bw)
    ∷ (a ⊗ bw ⊖ aw ⊗ b, k, num 0) ∷ []) (e, (d, (c, tt))) tt

first_part : (k l n a aw b bw p pw : ℤ) → n *ℤ p ≡ k *ℤ a +ℤ l *ℤ b → n *ℤ pw ≡ k *ℤ aw +ℤ l *ℤ bw
    → l ≡ pos 0 → n *ℤ (p *ℤ aw -ℤ a *ℤ pw) ≡ pos 0
first_part k l n a aw b bw p pw e d c = ring_in_from (k ∷ l ∷ n ∷ a ∷ aw ∷ b ∷ bw ∷ p ∷ pw ∷ [])
    (λ k l n a aw b bw p pw. n ⊗ (p ⊗ aw ⊖ a ⊗ pw)) (λ k l n a aw b bw p pw. num 0)
    (λ k l n a aw b bw p pw. (aw, n ⊗ p, k ⊗ a ⊕ l ⊗ b) ∷ (num 0 ⊖ a, n ⊗ pw, k ⊗ aw ⊕ l ⊗ bw)
    ∷ (b ⊗ aw ⊖ bw ⊗ a, l, num 0) ∷ []) (e, (d, (c, tt))) tt

-- an end, or strictly within
pub on_parts : (u v p : Fraction) → OnSegment u v p
    → IsSame p u ⊎ (IsSame p v ⊎ WithinSegment u v p)
on_parts u v p h = go (zero_or_left t.k_allowed) (zero_or_left t.l_allowed)
  where
    t : TwoWeights IsNotNegative u v p
    t = two_weights IsNotNegative u v p h

    none : {z : ℤ} → t.n *ℤ z ≡ pos 0 → z ≡ pos 0
    none e = zero_of_mul-zero_ℤ (pos-ne-zero_ℤ t.positive) e

    go : (t.k ≡ pos 0) ⊎ (pos 0 <ℤ t.k) → (t.l ≡ pos 0) ⊎ (pos 0 <ℤ t.l)
        → IsSame p u ⊎ (IsSame p v ⊎ WithinSegment u v p)
    go (inl e) d = inr (inl (record {
      x = no_difference (p.x *ℤ v.w) (v.x *ℤ p.w)
          (none (second_part t.k t.l t.n u.x u.w v.x v.w p.x p.w t.x t.w e));
      y = no_difference (p.y *ℤ v.w) (v.y *ℤ p.w)
          (none (second_part t.k t.l t.n u.y u.w v.y v.w p.y p.w t.y t.w e));
    }))
    go (inr k) (inl e) = inl (record {
      x = no_difference (p.x *ℤ u.w) (u.x *ℤ p.w)
          (none (first_part t.k t.l t.n u.x u.w v.x v.w p.x p.w t.x t.w e));
      y = no_difference (p.y *ℤ u.w) (u.y *ℤ p.w)
          (none (first_part t.k t.l t.n u.y u.w v.y v.w p.y p.w t.y t.w e));
    })
    go (inr k) (inr l) = inr (inr (mean_of_two IsPositive u v p (record {
      k = t.k;
      l = t.l;
      n = t.n;
      k_allowed = k;
      l_allowed = l;
      positive = t.positive;
      x = t.x;
      y = t.y;
      w = t.w;
    })))

compare : (a b : ℤ) → (a <ℤ b) ⊎ ((b <ℤ a) ⊎ (a ≡ b))
compare a b = elim (trichotomy_ℤ (a -ℤ b)) [
  | inl h ↦ inl (less_by_negative_difference a b h)
  | inr o ↦ elim o
      [ inl e ↦ inr (inr (no_difference a b e)) | inr h ↦ inr (inl (more_by_difference a b h)) ]
]

module _ (u v : Point) (apart : ¬ (u ≡ v)) where
  -- how far along the line from u to v a point lies
  abbrev F : Point → ℤ
  F z = place_on u v (lift z)

  -- the point is on the segment of i and j
  abbrev pub On : Point → Type 0
  On z = bracket (lift u) (lift v) (lift z) ≡ pos 0

  -- what is between two points of the segment is on it
  pub on_of_mean : (a b z : Point) → On a → On b
      → WithinSegment (whole a) (whole b) (whole z) → On z
  on_of_mean a b z on_a on_b h = let t = two_weights IsPositive (whole a) (whole b) (whole z) h in
      zero_of_mul-zero_ℤ (pos-ne-zero_ℤ t.positive) (bracket_of_two IsPositive (lift u) (lift v)
      (whole a) (whole b) (whole z) t ∙ sum_of_zeros (t.k *ℤ bracket (lift u) (lift v) (lift a))
      (t.l *ℤ bracket (lift u) (lift v) (lift b)) (zero-mul_ℤ t.k on_a) (zero-mul_ℤ t.l on_b))

  abbrev InRange : Point → Point → Point → Type 0
  InRange a b z = On z × (F a ≤ℤ F z) × (F z ≤ℤ F b)

  -- on the closed segment is on the line, with a place from the start's to the end's
  range : (a b z : Point) → On a → On b → F a ≤ℤ F b → OnSegment (whole a) (whole b) (whole z)
      → InRange a b z
  range a b z on_a on_b h o = go (on_parts (whole a) (whole b) (whole z) o)
    where
      back : (x y z : ℤ) → x ≤ℤ y → y <ℤ z → z <ℤ x → ⊥
      back x y z h k l = omega (arith, ints)

      within : On z → IsBetween (F a) (F b) (F z) ⊎ ((F a ≡ F z) × (F z ≡ F b)) → InRange a b z
      within on_z (inl (inl k)) = (on_z, less_is_at_most k.0, less_is_at_most k.1)
      within on_z (inl (inr k)) = absurd (back (F a) (F b) (F z) h k.0 k.1)
      within on_z (inr k) = (on_z, same_is_at_most_of k.0, same_is_at_most_of k.1)

      go : IsSame (whole z) (whole a)
          ⊎ (IsSame (whole z) (whole b) ⊎ WithinSegment (whole a) (whole b) (whole z))
          → InRange a b z
      go (inl s) =
          subst (λ q. InRange a b q) (sym (one_point z a s)) (on_a, same_is_at_most_of refl, h)
      go (inr (inl s)) =
          subst (λ q. InRange a b q) (sym (one_point z b s)) (on_b, h, same_is_at_most_of refl)
      go (inr (inr w)) = within (on_of_mean a b z on_a on_b w) (place_within u v a b z w)

  segment : (a b z : Point) → On a → On b → InRange a b z → OnSegment (whole a) (whole b) (whole z)
  segment a b z on_a on_b r = go (compare (F a) (F z)) (compare (F z) (F b))
    where
      go : (F a <ℤ F z) ⊎ ((F z <ℤ F a) ⊎ (F a ≡ F z)) → (F z <ℤ F b) ⊎ ((F b <ℤ F z) ⊎ (F z ≡ F b))
          → OnSegment (whole a) (whole b) (whole z)
      go (inr (inr e)) d = subst (λ q. OnSegment (whole a) (whole b) (whole q))
          (same_by_places u v apart a z on_a r.0 e) (start_on_segment (whole a) (whole b))
      go (inr (inl k)) d = absurd (at_most_and_more (F a) (F z) r.1 k)
      go (inl k) (inr (inl l)) = absurd (at_most_and_more (F z) (F b) r.2 l)
      go (inl k) (inr (inr e)) = subst (λ q. OnSegment (whole a) (whole b) (whole q))
          (sym (same_by_places u v apart z b r.0 on_b e)) (end_on_segment (whole a) (whole b))
      go (inl k) (inl l) = on_of_within (whole a) (whole b) (whole z)
          (within_places u v apart a b z on_a on_b r.0 (inl (k, l)))

-- ---- the first subconstraint
module _ (points : List Point) (distinct : ArePlacedApart points) (i j : ℕ) (hi : IsIndex points i)
    (hj : IsIndex points j) (i_not_j : ¬ (i ≡ j)) where
  abbrev p : ℕ → Point
  p = point_of points

  apart : ¬ (p i ≡ p j)
  apart e = distinct i j hi hj i_not_j (ap whole e)

  -- how far along the line from i to j a vertex lies
  abbrev f : ℕ → ℤ
  f k = place_on (point_of points i) (point_of points j) (lift (point_of points k))

  abbrev OnLine : ℕ → Type 0
  OnLine k = bracket (lift (point_of points i)) (lift (point_of points j))
      (lift (point_of points k)) ≡ pos 0

  -- i is on the line of i and j
  on_i : OnLine i
  on_i = bracket-outer (lift (p i)) (lift (p j))

  -- and so is j
  on_j : OnLine j
  on_j = bracket-last (lift (p i)) (lift (p j))

  forward : f i ≤ℤ f j
  forward =
      zero_below_positive (f i) (f j) (place_of_start (p i) (p j)) (place_of_end (p i) (p j) apart)

  in_range : (k : ℕ) → OnSegment (place points i) (place points j) (place points k)
      → InRange (p i) (p j) apart (p i) (p j) (p k)
  in_range k o = range (p i) (p j) apart (p i) (p j) (p k) on_i on_j forward o

  one_index : (a b : ℕ) → IsIndex points a → IsIndex points b → OnLine a → OnLine b
      → f a ≡ f b → a ≡ b
  one_index a b ha hb on_a on_b e = elim (cases_eq a b) [
    | inl s ↦ s
    | inr n ↦ absurd
        (distinct a b ha hb n (ap whole (same_by_places (p i) (p j) apart (p a) (p b) on_a on_b e)))
  ]

  -- past i
  past : (k : ℕ) → IsIndex points k → ¬ (k ≡ i) → OnLine k → f i ≤ℤ f k → f i <ℤ f k
  past k hk n on_k h = elim (compare (f i) (f k)) [
    | inl l ↦ l
    | inr o ↦ elim o [
      | inl l ↦ absurd (at_most_and_more (f i) (f k) h l)
      | inr e ↦ absurd (n (sym (one_index i k hi hk on_i on_k e)))
    ]
  ]

  abbrev Candidate : ℕ → Type 0
  Candidate k = OnSegment (place points i) (place points j) (place points k) × ¬ (k ≡ i)

  decide_not : (k : ℕ) → Decision (¬ (k ≡ i))
  decide_not k = elim (cases_eq k i) [ inl e ↦ inr (λ n. n e) | inr n ↦ inl n ]

  begins : (w : ℕ) × AreNextOn points i j i w
  begins = go (last_below Candidate (λ a b. f b <ℤ f a) (λ k. decide_both
      (decide_on_segment (place points i) (place points j) (place points k)) (decide_not k))
      (λ a b. decide_below (f b) (f a)) (λ a b c _ _ _ h k. less_through (f c) (f b) (f a) k h)
      (λ a h. itself (f a) h) (length points))
    where
      itself : (x : ℤ) → x <ℤ x → ⊥
      itself x h = omega (arith, ints)

      back : (x y z : ℤ) → x ≤ℤ y → y <ℤ z → z <ℤ x → ⊥
      back x y z h k l = omega (arith, ints)

      subconstraint : (w : ℕ) → IsLastBelow Candidate (λ a b. f b <ℤ f a) (length points) w
          → AreNextOn points i j i w
      subconstraint w l = record {
        apart = λ e. l.has.1 (sym e);
        first_index = hi;
        second_index = l.index;
        first = start_on_segment (place points i) (place points j);
        second = l.has.0;
        none_between = none_between;
      }
        where
          r : InRange (p i) (p j) apart (p i) (p j) (p w)
          r = in_range w l.has.0

          none_between : (k : ℕ) → IsIndex points k
              → ¬ WithinSegment (place points i) (place points w) (place points k)
          none_between k hk h = by (place_within (p i) (p j) (p i) (p w) (p k) h)
            where
              on_k : OnLine k
              on_k = on_of_mean (p i) (p j) apart (p i) (p w) (p k) on_i r.0 h

              not_first : f i <ℤ f k → ¬ (k ≡ i)
              not_first l e = same_is_not_less (f i) (f k) (ap f (sym e)) l

              by : IsBetween (f i) (f w) (f k) ⊎ ((f i ≡ f k) × (f k ≡ f w)) → ⊥
              by (inl (inl m)) = l.last k hk (
                segment (p i) (p j) apart (p i) (p j) (p k) on_i on_j
                    (on_k, less_is_at_most m.0, less_is_at_most (before (f k) (f w) (f j) m.1 r.2)),
                not_first m.0,
              ) m.1
                where
                  before : (x y z : ℤ) → x <ℤ y → y ≤ℤ z → x <ℤ z
                  before x y z h k = omega (arith, ints)
              by (inl (inr m)) = back (f i) (f w) (f k) r.1 m.0 m.1
              by (inr e) = l.has.1 (sym (one_index i w hi l.index on_i r.0 (e.0 ∙ e.1)))

      go : ((k : ℕ) × IsLastBelow Candidate (λ a b. f b <ℤ f a) (length points) k)
          ⊎ ((m : ℕ) → m < length points → ¬ Candidate m) → (w : ℕ) × AreNextOn points i j i w
      go (inl k) = (k.0, subconstraint k.0 k.1)
      go (inr n) =
          absurd (n j hj (end_on_segment (place points i) (place points j), λ e. i_not_j (sym e)))

  -- ---- the rest
  module _ (w : ℕ) (W : AreNextOn points i j i w) where
    w_range : InRange (p i) (p j) apart (p i) (p j) (p w)
    w_range = in_range w W.second

    not_before : (k : ℕ) → IsIndex points k → OnLine k → f i <ℤ f k → f k <ℤ f w → ⊥
    not_before k hk on_k h l = W.none_between k hk
        (within_places (p i) (p j) apart (p i) (p w) (p k) on_i w_range.0 on_k (inl (h, l)))

    -- a subconstraint from i goes to w
    next : (b : ℕ) → IsIndex points b → OnLine b → f i <ℤ f b → ((k : ℕ) → IsIndex points k
        → ¬ WithinSegment (place points i) (place points b) (place points k)) → b ≡ w
    next b hb on_b h none = elim (compare (f b) (f w)) [
      | inl l ↦ absurd (not_before b hb on_b h l)
      | inr o ↦ elim o [
        | inl l ↦ absurd
            (none w W.second_index (within_places (p i) (p j) apart (p i) (p b) (p w) on_i on_b
            w_range.0 (inl (past w W.second_index (λ e. W.apart (sym e)) w_range.0 w_range.1, l))))
        | inr e ↦ one_index b w hb W.second_index on_b w_range.0 e
      ]
    ]

    -- any other lies past it
    rest : (k : ℕ) → IsIndex points k → ¬ (k ≡ i)
        → OnSegment (place points i) (place points j) (place points k)
        → OnSegment (place points w) (place points j) (place points k)
    rest k hk n o = segment (p i) (p j) apart (p w) (p j) (p k) w_range.0 on_j
        (r.0, beyond (lt_or_ge_ℤ (f k) (f w)), r.2)
      where
        r : InRange (p i) (p j) apart (p i) (p j) (p k)
        r = in_range k o

        beyond : (f k <ℤ f w) ⊎ (f w ≤ℤ f k) → f w ≤ℤ f k
        beyond (inl l) = absurd (not_before k hk r.0 (past k hk n r.0 r.1) l)
        beyond (inr l) = l

    whole_of_rest : (k : ℕ) → OnSegment (place points w) (place points j) (place points k)
        → OnSegment (place points i) (place points j) (place points k)
    whole_of_rest k o = let r =
        range (p i) (p j) apart (p w) (p j) (p k) w_range.0 on_j w_range.2 o in
        segment (p i) (p j) apart (p i) (p j) (p k) on_i on_j
        (r.0, at_most_through (f i) (f w) (f k) w_range.1 r.1, r.2)

    swapped : (a b c d : ℕ) → AreNextOn points c d a b → AreNextOn points c d b a
    swapped a b c d n = record {
      apart = λ e. n.apart (sym e);
      first_index = n.second_index;
      second_index = n.first_index;
      first = n.second;
      second = n.first;
      none_between = λ k hk h. n.none_between k hk
          (turned_within (place points b) (place points a) (place points k) h);
    }

    forth : (a b : ℕ) → AreNextOn points i j a b → IsSamePair a b i w ⊎ AreNextOn points w j a b
    forth a b n = go (cases_eq a i) (cases_eq b i)
      where
        to_next : (a b : ℕ) → AreNextOn points i j a b → a ≡ i → b ≡ w
        to_next a b n e = let r = in_range b n.second in
            next b n.second_index r.0 (past b n.second_index (λ d. n.apart (e ∙ sym d)) r.0 r.1)
            (subst (λ c. (k : ℕ) → IsIndex points k → ¬ WithinSegment (place points c)
            (place points b) (place points k)) e n.none_between)

        go : Decision (a ≡ i) → Decision (b ≡ i) → IsSamePair a b i w ⊎ AreNextOn points w j a b
        go (inl e) d = inl (inl (e, to_next a b n e))
        go (inr m) (inl e) = inl (inr (to_next b a (swapped a b i j n) e, e))
        go (inr m) (inr l) = inr (record {
          apart = n.apart;
          first_index = n.first_index;
          second_index = n.second_index;
          first = rest a n.first_index m n.first;
          second = rest b n.second_index l n.second;
          none_between = n.none_between;
        })

    -- the first subconstraint is one of the path, and so is each subconstraint of the rest
    back : (a b : ℕ) → IsSamePair a b i w ⊎ AreNextOn points w j a b → AreNextOn points i j a b
    back a b (inl (inl s)) = subst₂ (λ c d. AreNextOn points i j c d) (sym s.0) (sym s.1) W
    back a b (inl (inr s)) =
        subst₂ (λ c d. AreNextOn points i j c d) (sym s.0) (sym s.1) (swapped i w i j W)
    back a b (inr n) = record {
      apart = n.apart;
      first_index = n.first_index;
      second_index = n.second_index;
      first = whole_of_rest a n.first;
      second = whole_of_rest b n.second;
      none_between = n.none_between;
    }

-- the path between two different vertices has a first subconstraint
pub path_begins : PathBegins
path_begins points i j distinct hi hj n = begins points distinct i j hi hj n

-- a path is its first subconstraint with the path from the end of this subconstraint
pub path_goes_on : PathGoesOn
path_goes_on points i j w distinct hj n W a b = (
  forth points distinct i j W.first_index hj n w W a b,
  back points distinct i j W.first_index hj n w W a b,
)

-- from a vertex to itself there is no subconstraint
pub path_ends : PathEnds
path_ends points j distinct a b n = distinct a b n.first_index n.second_index n.apart
    (ap whole (at a n.first ∙ sym (at b n.second)))
  where
    at : (k : ℕ) → OnSegment (place points j) (place points j) (place points k)
        → point_of points k ≡ point_of points j
    at k o = one_point (point_of points k) (point_of points j) (only_point (place points j)
        (place points j) (place points k) (same-refl (place points j)) o)

-- of plain states
pub next_is_neighbours : {V : Type 0} (position : V → Point) (points : List Point) (i j a b : ℕ)
    → AreNeighboursOn position points i j a b ↔ AreNextOn points i j a b
next_is_neighbours position points i j a b = (
  (λ n. record {
    apart = n.apart;
    first_index = n.first_index;
    second_index = n.second_index;
    first = n.first;
    second = n.second;
    none_between = n.none_between;
  }),
  (λ n. record {
    apart = n.apart;
    first_index = n.first_index;
    second_index = n.second_index;
    first = n.first;
    second = n.second;
    none_between = n.none_between;
  }),
)
