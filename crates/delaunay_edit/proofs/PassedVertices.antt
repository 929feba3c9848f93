-- The vertices that a walk along a segment has passed: the last of them and the one that is met
-- next are neighbours on the segment.
-- Notions: HasReached; reached_begins, reached_stays, reached_next, next_after, not_at_end,
-- reached_ends.
use Rattle.std.proofs.Common.{◌≡◌, ◌≢◌, ◌⊎◌, [], ◌∷◌, ◌++◌, ◌∙◌}
use Rattle.std.proofs.Common.{ℕ, List, refl, sym, ap, subst, inl, inr, arith}
use Rattle.std.specs.Prelude.{ℤ, pos, ◌-ℤ◌, ◌*ℤ◌, ◌<ℤ◌, ◌≤ℤ◌, AllPairs, Contains}
use Rattle.std.proofs.lemmas.Bool.{cases_eq}
use Rattle.std.proofs.lemmas.Int.{ints}
use Rattle.std.proofs.lemmas.List.Elements.{Contains-append_cases, Contains-push_cases}
use Rattle.plane.specs.{across, along, at_vertex, IsBefore, IsIndex, IsLineList, IsNearer, IsSame}
use Rattle.plane.specs.{IsVertexThenOverlap, Item, OnSegment, place, Point, Triangulation, whole}
use Rattle.plane.proofs.{◌⊕◌, ◌⊖◌, ◌⊗◌, bracket, bracket-last, end_on_segment, IsBetween, lift, num}
use Rattle.plane.proofs.{on_of_within, on_segment_is, place_of_start, place_on, place_within, reach}
use Rattle.plane.proofs.{ring_in, same_by_places, same_is_at_most, start_on_segment, trichotomy_ℤ}
use Rattle.{plane.proofs.within_places, plane.specs.WithinSegment}
use Rattle.plane_theorems.specs.{AreNextOn, ArePlacedApart, point_of}
use Rattle.plane_theorems.proofs.{Contains-none, nearer-same_second}
use Rattle.plane_theorems.proofs.Delaunay.Points.AlongSegment.{reach_less}
use Rattle.plane_theorems.proofs.Segments.Constraints.Subconstraints.{on_of_mean}
use Rattle.plane_theorems.proofs.Segments.Items.Orders.{nearer-same_first}
use Rattle.{delaunay_legalization.specs.drawn, half_edge_links.specs.Mesh}
use Rattle.delaunay_legalization.proofs.{contains_before, contains_last}
use Rattle.delaunay_edit.proofs.{Passing.earlier_ones, Passing.later_ones, Places.no_same_place}

-- how far a whole point is on the way, in either form
reach_is_place : (u v z : Point) → reach (whole u) (whole v) (whole z) ≡ place_on u v (lift z)
unfolding reach place_on
reach_is_place u v z = ring_in (u.x ∷ u.y ∷ v.x ∷ v.y ∷ z.x ∷ z.y ∷ [])
    (λ ux uy vx vy zx zy. (vx ⊗ num 1 ⊖ ux ⊗ num 1) ⊗ (zx ⊗ num 1 ⊖ ux ⊗ num 1)
    ⊕ (vy ⊗ num 1 ⊖ uy ⊗ num 1) ⊗ (zy ⊗ num 1 ⊖ uy ⊗ num 1))
    (λ ux uy vx vy zx zy. (vx ⊖ ux) ⊗ (zx ⊖ num 1 ⊗ ux) ⊕ (vy ⊖ uy) ⊗ (zy ⊖ num 1 ⊗ uy)) tt

abbrev vertex_of : Item → ℕ
vertex_of (at_vertex v) = v
vertex_of (across a b) = a
vertex_of (along a b) = a

-- how far along the line from i to j vertex k lies
abbrev far : List Point → ℕ → ℕ → ℕ → ℤ
far points i j k = place_on (point_of points i) (point_of points j) (lift (point_of points k))

-- of these items, vertex v is the last one that was passed, or i while none was
pub record HasReached (points : List Point) (i j : ℕ) (passed : List Item) (v : ℕ) : Type 0 where
  pub within : IsIndex points v
  pub met : OnSegment (place points i) (place points j) (place points v)
  pub among : (v ≡ i) ⊎ Contains passed (at_vertex v)
  pub last : (k : ℕ) → Contains passed (at_vertex k) → far points i j k ≤ℤ far points i j v

-- at the beginning it is i
pub reached_begins : (points : List Point) (i j : ℕ) → IsIndex points i
    → HasReached points i j [] i
reached_begins points i j hi = record {
  within = hi;
  met = start_on_segment (place points i) (place points j);
  among = inl refl;
  last = λ k there. absurd (Contains-none (at_vertex k) there);
}

module _ (points : List Point) (m : Mesh) (distinct : ArePlacedApart points) (i j : ℕ)
    (hi : IsIndex points i) (hj : IsIndex points j) (i_not_j : i ≢ j) where
  abbrev t : Triangulation
  t = drawn points m

  abbrev p : ℕ → Point
  p = point_of points

  abbrev f : ℕ → ℤ
  f k = far points i j k

  abbrev OnLine : ℕ → Type 0
  OnLine k = bracket (lift (point_of points i)) (lift (point_of points j))
      (lift (point_of points k)) ≡ pos 0

  abbrev Met : ℕ → Type 0
  Met k = OnSegment (place points i) (place points j) (place points k)

  apart : ¬ (p i ≡ p j)
  apart e = distinct i j hi hj i_not_j (ap whole e)

  two : ¬ IsSame (place points i) (place points j)
  two = no_same_place points distinct i j hi hj i_not_j

  -- a point of the segment is on the line, and no farther than its end
  record IsAlong (k : ℕ) : Type 0 where
    on_line : OnLine k
    from_start : f i ≤ℤ f k
    to_end : f k ≤ℤ f j

  along_if : (k : ℕ) → Met k → IsAlong k
  along_if k met = record {
    on_line = s.0;
    from_start = at_start (f i) (reach (place points i) (place points j) (place points k)) (f k)
        (place_of_start (p i) (p j)) s.1 (reach_is_place (p i) (p j) (p k));
    to_end = at_end (reach (place points i) (place points j) (place points k))
        (reach (place points i) (place points j) (place points j)) (f k) (f j)
        (reach_is_place (p i) (p j) (p k)) (reach_is_place (p i) (p j) (p j)) s.2;
  }
    where
      s : OnLine k × (pos 0 ≤ℤ reach (place points i) (place points j) (place points k))
          × ((reach (place points i) (place points j) (place points k) *ℤ pos 1)
          ≤ℤ (reach (place points i) (place points j) (place points j) *ℤ pos 1))
      s = (on_segment_is (place points i) (place points j) (place points k) two).0 met

      at_start : (z r x : ℤ) → z ≡ pos 0 → pos 0 ≤ℤ r → r ≡ x → z ≤ℤ x
      at_start z r x e h d = omega (arith, ints)

      at_end : (r q x y : ℤ) → r ≡ x → q ≡ y → (r *ℤ pos 1) ≤ℤ (q *ℤ pos 1) → x ≤ℤ y
      at_end r q x y e d h = omega (arith, ints)

  -- vertices that are as far along are one
  one_index : (a b : ℕ) → IsIndex points a → IsIndex points b → OnLine a → OnLine b
      → f a ≡ f b → a ≡ b
  one_index a b ha hb on_a on_b e = elim (cases_eq a b) [
    | inl s ↦ s
    | inr n ↦ absurd
        (distinct a b ha hb n (ap whole (same_by_places (p i) (p j) apart (p a) (p b) on_a on_b e)))
  ]

  strictly : (x y : ℤ) → x ≤ℤ y → ¬ (x ≡ y) → x <ℤ y
  strictly x y h n = elim (trichotomy_ℤ (y -ℤ x)) as (λ _. x <ℤ y) [
    | inl l ↦ absurd (not_below x y h l)
    | inr o ↦ elim o as (λ _. x <ℤ y) [
      | inl e ↦ absurd (n (level x y e))
      | inr l ↦ above x y l
    ]
  ]
    where
      not_below : (x y : ℤ) → x ≤ℤ y → (y -ℤ x) <ℤ pos 0 → ⊥
      not_below x y h l = omega (arith, ints)

      level : (x y : ℤ) → y -ℤ x ≡ pos 0 → x ≡ y
      level x y e = omega (arith, ints)

      above : (x y : ℤ) → pos 0 <ℤ (y -ℤ x) → x <ℤ y
      above x y l = omega (arith, ints)

  -- a vertex that comes before another in the order of the walk is less far along
  less_far : (a b : ℕ) → Met a → Met b
      → IsBefore t (place points i) (place points j) (at_vertex a) (at_vertex b) → f a <ℤ f b
  less_far a b met_a met_b o = go o.order
    where
      by_reach : (r q x y : ℤ) → r ≡ x → q ≡ y → (r *ℤ pos 1) <ℤ (q *ℤ pos 1) → x <ℤ y
      by_reach r q x y e d h = omega (arith, ints)

      by_nearer : IsNearer (place points i) (place points a) (place points b) → f a <ℤ f b
      by_nearer n = by_reach (reach (place points i) (place points j) (place points a))
          (reach (place points i) (place points j) (place points b)) (f a) (f b)
          (reach_is_place (p i) (p j) (p a)) (reach_is_place (p i) (p j) (p b))
          (reach_less (place points i) (place points j) two (place points a) (place points b)
          met_a met_b n)

      go : IsNearer (place points i) o.first o.second
          ⊎ (IsSame o.first o.second × IsVertexThenOverlap (at_vertex a) (at_vertex b))
          → f a <ℤ f b
      go (inl n) = by_nearer (nearer-same_first (place points i) (place points j) two o.first
          (place points a) (place points b) o.first_begins.shared met_a met_b
          o.first_begins.of_item
          (nearer-same_second (place points i) (place points j) two o.first o.second
          (place points b) o.first_begins.shared o.second_begins.shared met_b
          o.second_begins.of_item n))
      go (inr x) = absurd x.1

  module _ (passed : List Item) (v : ℕ) (reached : HasReached points i j passed v) where
    -- an item that is no other vertex changes nothing
    pub reached_stays : (k : Item) → ((w : ℕ) → k ≡ at_vertex w → w ≡ v)
        → HasReached points i j (passed ++ k ∷ []) v
    reached_stays k none = record {
      within = reached.within;
      met = reached.met;
      among = elim reached.among [
        | inl e ↦ inl e
        | inr there ↦ inr (contains_before passed k (at_vertex v) there)
      ];
      last = λ w there. elim (Contains-push_cases passed k (at_vertex w) there)
          as (λ _. f w ≤ℤ f v) [
            | inl before ↦ reached.last w before
            | inr is ↦ same_is_at_most (f w) (f v) (ap f (none w is))
          ];
    }

    -- where all was passed, it is j
    pub reached_ends : IsLineList t (place points i) (place points j) passed → v ≡ j
    reached_ends list = one_index v j reached.within hj a.on_line
        (bracket-last (lift (p i)) (lift (p j)))
        (level (f v) (f j) a.to_end (reached.last j (list.complete two (at_vertex j)
        (hj, end_on_segment (place points i) (place points j)))))
      where
        a : IsAlong v
        a = along_if v reached.met

        level : (x y : ℤ) → x ≤ℤ y → y ≤ℤ x → x ≡ y
        level x y h k = omega (arith, ints)

    -- ---- another vertex comes
    module _ (w : ℕ) (other : w ≢ v) (w_in : IsIndex points w) (met : Met w) (others : List Item)
        (list : IsLineList t (place points i) (place points j)
        ((passed ++ at_vertex w ∷ []) ++ others)) where
      a : IsAlong v
      a = along_if v reached.met

      b : IsAlong w
      b = along_if w met

      ordered : AllPairs (IsBefore t (place points i) (place points j))
          ((passed ++ at_vertex w ∷ []) ++ others)
      ordered = list.ordered two

      -- it is farther along
      farther : f v <ℤ f w
      farther = elim reached.among as (λ _. f v <ℤ f w) [
        | inl e ↦ strictly (f v) (f w)
            (subst (λ (k : ℕ). f k ≤ℤ f w) (sym e) b.from_start)
            (λ s. other (sym (one_index v w reached.within w_in a.on_line b.on_line s)))
        | inr there ↦ less_far v w reached.met met
            (earlier_ones (IsBefore t (place points i) (place points j)) passed (at_vertex w)
            others ordered (at_vertex v) there)
      ]

      through : (x y z : ℤ) → x <ℤ y → y ≤ℤ z → x <ℤ z
      through x y z h k = omega (arith, ints)

      through_weak : (x y z : ℤ) → x ≤ℤ y → y <ℤ z → x <ℤ z
      through_weak x y z h k = omega (arith, ints)

      not_less : (x y : ℤ) → x ≤ℤ y → y <ℤ x → ⊥
      not_less x y h k = omega (arith, ints)

      itself : (x y : ℤ) → x ≡ y → x <ℤ y → ⊥
      itself x y e h = omega (arith, ints)

      -- the walk was not at its end
      pub not_at_end : v ≢ j
      not_at_end e = not_less (f w) (f j) b.to_end (subst (λ (k : ℕ). f k <ℤ f w) e farther)

      -- then it is the last one that was passed
      pub reached_next : HasReached points i j (passed ++ at_vertex w ∷ []) w
      reached_next = record {
        within = w_in;
        met = met;
        among = inr (contains_last passed (at_vertex w));
        last = λ k there. elim (Contains-push_cases passed (at_vertex w) (at_vertex k) there)
            as (λ _. f k ≤ℤ f w) [
              | inl before ↦ weaker (f k) (f v) (f w) (reached.last k before) farther
              | inr is ↦ same_is_at_most (f k) (f w) (ap f (sym (ap vertex_of is)))
            ];
      }
        where
          weaker : (x y z : ℤ) → x ≤ℤ y → y <ℤ z → x ≤ℤ z
          weaker x y z h k = omega (arith, ints)

      -- it is on what is left of the segment
      on_rest : OnSegment (place points v) (place points j) (place points w)
      on_rest = elim (cases_eq w j) [
        | inl e ↦ subst (λ (k : ℕ). OnSegment (place points v) (place points j) (place points k))
            (sym e) (end_on_segment (place points v) (place points j))
        | inr n ↦ on_of_within (place points v) (place points j) (place points w)
            (within_places (p i) (p j) apart (p v) (p j) (p w) a.on_line on_j b.on_line
            (inl (
              farther,
              strictly (f w) (f j) b.to_end
                  (λ s. n (one_index w j w_in hj b.on_line on_j s)),
            )))
      ]
        where
          on_j : OnLine j
          on_j = bracket-last (lift (p i)) (lift (p j))

      -- a vertex strictly between is on the segment
      on_line_between : (k : ℕ) → WithinSegment (place points v) (place points w) (place points k)
          → OnLine k
      on_line_between k h = on_of_mean (p i) (p j) apart (p v) (p w) (p k) a.on_line b.on_line h

      between : (k : ℕ) → WithinSegment (place points v) (place points w) (place points k)
          → (f v <ℤ f k) × (f k <ℤ f w)
      between k h = go (place_within (p i) (p j) (p v) (p w) (p k) h)
        where
          back : (x y z : ℤ) → x <ℤ y → y <ℤ z → z <ℤ x → ⊥
          back x y z h k l = omega (arith, ints)

          go : IsBetween (f v) (f w) (f k) ⊎ ((f v ≡ f k) × (f k ≡ f w))
              → (f v <ℤ f k) × (f k <ℤ f w)
          go (inl (inl o)) = o
          go (inl (inr o)) = absurd (back (f v) (f w) (f k) farther o.0 o.1)
          go (inr o) = absurd (itself (f v) (f w) (o.0 ∙ o.1) farther)

      met_between : (k : ℕ) → WithinSegment (place points v) (place points w) (place points k)
          → Met k
      met_between k h = on_of_within (place points i) (place points j) (place points k)
          (within_places (p i) (p j) apart (p i) (p j) (p k) (along_if i
          (start_on_segment (place points i) (place points j))).on_line
          (bracket-last (lift (p i)) (lift (p j))) (on_line_between k h)
          (inl (
            through_weak (f i) (f v) (f k) a.from_start (between k h).0,
            through (f k) (f w) (f j) (between k h).1 b.to_end,
          )))

      none_between : (k : ℕ) → IsIndex points k
          → ¬ WithinSegment (place points v) (place points w) (place points k)
      none_between k k_in h =
          go (Contains-append_cases (passed ++ at_vertex w ∷ []) others (at_vertex k)
          (list.complete two (at_vertex k) (k_in, met_between k h)))
        where
          before : Contains passed (at_vertex k) ⊎ (at_vertex w ≡ at_vertex k) → ⊥
          before (inl c) = not_less (f k) (f v) (reached.last k c) (between k h).0
          before (inr e) = itself (f k) (f w) (ap f (sym (ap vertex_of e))) (between k h).1

          go : Contains (passed ++ at_vertex w ∷ []) (at_vertex k) ⊎ Contains others (at_vertex k)
              → ⊥
          go (inl c) = before (Contains-push_cases passed (at_vertex w) (at_vertex k) c)
          go (inr c) = clash (f k) (f w) (between k h).1
              (less_far w k met (met_between k h)
              (later_ones (IsBefore t (place points i) (place points j)) passed (at_vertex w)
              others ordered (at_vertex k) c))
            where
              clash : (x y : ℤ) → x <ℤ y → y <ℤ x → ⊥
              clash x y h k = omega (arith, ints)

      -- and next to the one before
      pub next_after : AreNextOn points v j v w
      next_after = record {
        apart = λ e. other (sym e);
        first_index = reached.within;
        second_index = w_in;
        first = start_on_segment (place points v) (place points j);
        second = on_rest;
        none_between = none_between;
      }
