-- The walk where all vertices are on one line: after a vertex, and from the start. And from a point
-- to itself.
-- Lemmas: crossing_alone, last_without_edge, nearest_on_line, none_on_line, next_on_line,
-- first_on_line, equal_ends.
use Rattle.std.proofs.Common.{◌≡◌, ℕ, zero, suc, ◌<◌, List, [], ◌∷◌, arith, refl, sym, subst}
use mathlib.Core.Logic.{◌⊎◌, inl, inr}
use lib.IntN.{nat_abs}
use Rattle.std.specs.Prelude.{ℤ, pos, ◌<ℤ◌, ◌≤ℤ◌, ◌+ℤ◌, ◌-ℤ◌, ◌*ℤ◌, ⊤}
use Rattle.std.proofs.lemmas.Int.{ints}
use Rattle.plane.specs.{Fraction, IsBefore, IsEdge, IsLineList, IsListAt, IsPositive, IsSame}
use Rattle.plane.specs.{IsVertex, Item, JoinsLine, Meets, OnSegment, Triangulation, vertex}
use Rattle.plane.proofs.{◌⊕◌, ◌⊖◌, ◌⊗◌, at_most_and_more, difference_is_positive, end_on_segment}
use Rattle.plane.proofs.{less_by_difference, lt_or_ge_ℤ, magnitude_below, mul-nonneg_ℤ, mul-pos_ℤ}
use Rattle.plane.proofs.{num, on_of_within, on_segment-same, on_segment_is, pos_of_mul-pos_ℤ, reach}
use Rattle.plane.proofs.{reach_of_two, ring_in_from, same-sym, start_on_segment, two_weights}
use Rattle.plane.proofs.{TwoWeights, weak}
use Rattle.plane_theorems.specs.{IsAhead, IsFirst, IsLast, IsWalk}
use Rattle.plane_theorems.specs.Segments.WalkLaws.{EqualEnds, FirstOnLine, NextOnLine}
use Rattle.plane_theorems.proofs.Delaunay.Circles.EmptyCircles.{weights_along}
use Rattle.plane_theorems.proofs.Delaunay.Floods.Flooded.{edge_of, side_of_segment}
use Rattle.plane_theorems.proofs.Delaunay.Points.AlongSegment.{as_soon, later, not_past}
use Rattle.plane_theorems.proofs.Delaunay.Points.AlongSegment.{on_line_last, order_along}
use Rattle.plane_theorems.proofs.Delaunay.Points.AlongSegment.{OrderAlong, reach_less, sooner}
use Rattle.plane_theorems.proofs.Delaunay.Points.AlongSegment.{within_on_line}
use Rattle.plane_theorems.proofs.Delaunay.Points.Bracket.{above_if_left, bracket}
use Rattle.plane_theorems.proofs.{Delaunay.Points.Numbers.sum_none, Segments.Items.Begins.signs_of}
use Rattle.plane_theorems.proofs.Delaunay.Segments.LineItems.{line_items_are_ordered, Meeting}
use Rattle.plane_theorems.proofs.Delaunay.Tilings.Ground.{inside_of, tiling}
use Rattle.plane_theorems.proofs.Delaunay.Tilings.Meets.{edge_outside}
use Rattle.plane_theorems.proofs.Segments.First.Firsts.{first_overlap, first_vertex}
use Rattle.plane_theorems.proofs.Segments.First.OutsideStarts.{nearest_first, NearestIsFirst}
use Rattle.plane_theorems.proofs.Segments.First.OutsideStarts.{none_without, overlap_not_first}
use Rattle.plane_theorems.proofs.Segments.Items.Begins.{bare_inside, before_crossing, Signs}
use Rattle.plane_theorems.proofs.Segments.Items.Orders.{nearer-same_second}
use Rattle.plane_theorems.proofs.Segments.Items.OverlapDecided.{through_last}
use Rattle.plane_theorems.proofs.Segments.Next.Ends.{edge_not_left, item_not_left_of_outer}
use Rattle.plane_theorems.proofs.Segments.Next.VertexEnds.{ahead_met}
use Rattle.plane_theorems.proofs.Segments.Next.Vertices.{before_end, is_past, IsPast, last_at_end}
use Rattle.plane_theorems.proofs.Segments.Next.Vertices.{next_overlap}
use Rattle.plane_theorems.proofs.Segments.Walking.EachWalk.{ends_differ}
use Rattle.plane_theorems.proofs.Segments.Walking.OneLine.{item_level, last_across_line, line_ends}
use Rattle.plane_theorems.proofs.Segments.Walking.OneLine.{meeting_if}
use Rattle.plane.specs.Line as L

-- ---- numbers of a vertex strictly between two
first_part : (n k l x a b : ℤ) → n *ℤ x ≡ k *ℤ a +ℤ l *ℤ b → n *ℤ pos 1 ≡ k *ℤ pos 1 +ℤ l *ℤ pos 1 →
    n *ℤ (x -ℤ a) ≡ l *ℤ (b -ℤ a)
first_part n k l x a b e d =
    ring_in_from (n ∷ k ∷ l ∷ x ∷ a ∷ b ∷ []) (λ n k l x a b. n ⊗ (x ⊖ a))
    (λ n k l x a b. l ⊗ (b ⊖ a))
    (λ n k l x a b. (num 1, n ⊗ x, k ⊗ a ⊕ l ⊗ b) ∷ (num 0 ⊖ a, n ⊗ num 1, k ⊗ num 1 ⊕ l ⊗ num 1)
    ∷ []) (e, (d, tt)) tt

second_part : (n k l x a b : ℤ) → n *ℤ x ≡ k *ℤ a +ℤ l *ℤ b → n *ℤ pos 1 ≡ k *ℤ pos 1 +ℤ l *ℤ pos 1
    → n *ℤ (b -ℤ x) ≡ k *ℤ (b -ℤ a)
second_part n k l x a b e d =
    ring_in_from (n ∷ k ∷ l ∷ x ∷ a ∷ b ∷ []) (λ n k l x a b. n ⊗ (b ⊖ x))
    (λ n k l x a b. k ⊗ (b ⊖ a))
    (λ n k l x a b. (num 0 ⊖ num 1, n ⊗ x, k ⊗ a ⊕ l ⊗ b) ∷ (b, n ⊗ num 1, k ⊗ num 1 ⊕ l ⊗ num 1)
    ∷ []) (e, (d, tt)) tt

with_one : (a b : ℤ) → a <ℤ b → (a *ℤ pos 1) <ℤ (b *ℤ pos 1)
with_one a b h = omega (arith, ints)

without_one : (a b : ℤ) → (a *ℤ pos 1) <ℤ (b *ℤ pos 1) → a <ℤ b
without_one a b h = omega (arith, ints)

difference_less : (m : ℕ) (x y a : ℤ) → a <ℤ x → x <ℤ y → nat_abs (y -ℤ a) < suc m
    → nat_abs (x -ℤ a) < m
difference_less m x y a h k l =
    magnitude_below m (x -ℤ a) (y -ℤ a) (omega (arith, ints)) (omega (arith, ints)) l

module _ (t : Triangulation) (h : JoinsLine t) (c₀ : Meeting t) (p q : Fraction)
    (apart : ¬ IsSame p q) where
  signs : (a b : ℕ) → Meets t p q (L.across a b) → Signs p q (vertex t a) (vertex t b)
  signs a b m = signs_of t p q apart a b (ends_differ t c₀ p q apart a b m.0) m

  -- nothing comes before a crossed edge
  none_before_crossing : (a b : ℕ) → Meets t p q (L.across a b) → (k : Item) → Meets t p q k →
      ¬ IsBefore t p q k (L.across a b)
  none_before_crossing a b m k met o =
      item_level t h p q b a (line_ends t h a b m.0).1 (line_ends t h a b m.0).0 k met
      o.first o.first_begins.of_item (before_crossing t p q apart a b (signs a b m) k o)

  -- and it is all that is met
  pub crossing_alone : (a b : ℕ) → Meets t p q (L.across a b) → IsWalk t p q (L.across a b ∷ [])
  crossing_alone a b m = (
    record { met = m; none_before = none_before_crossing a b m },
    last_across_line t h p q apart a b m.0 (signs a b m),
  )

  -- ---- after a vertex
  module _ (v : ℕ) (m : Meets t p q (L.at_vertex v)) (two : ¬ IsSame (vertex t v) q) where
    abbrev V : Fraction
    V = vertex t v

    -- v is on the segment's line
    on_v : bracket p q V ≡ pos 0
    unfolding bracket
    on_v = ((on_segment_is p q V apart).0 m.1).0

    end_after : (reach p q V *ℤ q.w) <ℤ (reach p q q *ℤ V.w)
    end_after = reach_less p q apart V q m.1 (end_on_segment p q) (before_end t p q apart v m two)

    -- a point of the line after the vertex is ahead, towards the end
    is_ahead : (x : Fraction) → bracket p q x ≡ pos 0 → (reach p q V *ℤ x.w) <ℤ (reach p q x *ℤ V.w)
        → IsAhead V x q
    unfolding bracket on_v
    is_ahead x on_x after = go (lt_or_ge_ℤ (reach p q q *ℤ x.w) (reach p q x *ℤ q.w))
      where
        on_q : bracket p q q ≡ pos 0
        on_q = ((on_segment_is p q q apart).0 (end_on_segment p q)).0

        high : (a xw b vw : ℤ) → (a *ℤ xw) <ℤ (b *ℤ vw) → pos 0 ≤ℤ a → pos 0 <ℤ xw
            → pos 0 <ℤ vw → pos 0 ≤ℤ b
        high a xw b vw h ha hx hv = weak (pos_of_mul-pos_ℤ {k = vw} {x = b} hv
            (let n = mul-nonneg_ℤ {a = a} {b = xw} ha (weak hx) in let c = lib.IntN.*ℤ_comm b vw in
            omega (arith, ints)))

        go : ((reach p q q *ℤ x.w) <ℤ (reach p q x *ℤ q.w))
            ⊎ ((reach p q x *ℤ q.w) ≤ℤ (reach p q q *ℤ x.w)) → IsAhead V x q
        go (inl past) = inl (on_of_within V x q (within_on_line p q apart V q x on_v on_q on_x
            (difference_is_positive _ _ end_after) (difference_is_positive _ _ past)))
        go (inr least) = inr (pick (order_along p q apart x q there (end_on_segment p q)))
          where
            there : OnSegment p q x
            there = (on_segment_is p q x apart).1 (
              on_x,
              high (reach p q V) x.w (reach p q x) V.w after
                  ((on_segment_is p q V apart).0 m.1).1 x.positive V.positive,
              least,
            )

            pick : OrderAlong p x q → OnSegment V q x
            pick (sooner n) = on_of_within V q x (within_on_line p q apart V x q on_v on_x on_q
                (difference_is_positive _ _ after) (difference_is_positive _ _
                (reach_less p q apart x q there (end_on_segment p q) n)))
            pick (as_soon e) = on_segment-same V q q x (same-sym x q e) (end_on_segment V q)
            pick (later n) = absurd
                (at_most_and_more _ _ least (reach_less p q apart q x (end_on_segment p q) there n))

    -- where a vertex of the line comes after, an edge leads on
    none_after_on_line : ((b : ℕ) → IsEdge t v b → ¬ IsAhead V (vertex t b) q) → (n : ℕ) (j : ℕ)
        → IsVertex t j → bracket p q (vertex t j) ≡ pos 0 → reach p q V <ℤ reach p q (vertex t j)
        → nat_abs (reach p q (vertex t j) -ℤ reach p q V) < n → ⊥
    none_after_on_line none zero j hj on after less = absurd (omega arith)
    none_after_on_line none (suc n) j hj on after less = none j ((h.neighbours v j).1 (record {
      apart = λ e. itself (subst (λ i. reach p q V <ℤ reach p q (vertex t i)) (sym e) after);
      first = m.0;
      second = hj;
      none_between = λ k hk within. between (none_after_on_line none n) k hk
          (two_weights IsPositive V (vertex t j) (vertex t k) within);
    })) (is_ahead (vertex t j) on (with_one _ _ after))
      where
        itself : {a : ℤ} → a <ℤ a → ⊥
        itself h = omega (arith, ints)

        between : ((j : ℕ) → IsVertex t j → bracket p q (vertex t j) ≡ pos 0 → reach p q V
            <ℤ reach p q (vertex t j) → nat_abs (reach p q (vertex t j) -ℤ reach p q V) < n → ⊥)
            → (k : ℕ) → IsVertex t k → TwoWeights IsPositive V (vertex t j) (vertex t k) → ⊥
        between again k hk w = again k hk (sum_none w.n w.k w.l _ _ _ w.positive
            (weights_along IsPositive V (vertex t j) (vertex t k) w p q) on_v on) past
            (difference_less n (reach p q (vertex t k)) (reach p q (vertex t j))
            (reach p q V) past before less)
          where
            past : reach p q V <ℤ reach p q (vertex t k)
            past = less_by_difference _ _ (pos_of_mul-pos_ℤ {k = w.n} w.positive
                (subst (λ z. pos 0 <ℤ z)
                (sym (first_part w.n w.k w.l (reach p q (vertex t k)) (reach p q V)
                (reach p q (vertex t j))
                (reach_of_two IsPositive p q V (vertex t j) (vertex t k) w) w.w))
                (mul-pos_ℤ w.l_allowed (difference_is_positive _ _ after))))

            before : reach p q (vertex t k) <ℤ reach p q (vertex t j)
            before = less_by_difference _ _ (pos_of_mul-pos_ℤ {k = w.n} w.positive
                (subst (λ z. pos 0 <ℤ z)
                (sym (second_part w.n w.k w.l (reach p q (vertex t k)) (reach p q V)
                (reach p q (vertex t j))
                (reach_of_two IsPositive p q V (vertex t j) (vertex t k) w) w.w))
                (mul-pos_ℤ w.k_allowed (difference_is_positive _ _ after))))

    -- without an edge ahead the vertex is the last
    pub last_without_edge : ((b : ℕ) → IsEdge t v b → ¬ IsAhead V (vertex t b) q)
        → IsLast t p q (L.at_vertex v)
    unfolding bracket
    last_without_edge none =
        record { none_after = λ k met o. none_here k met o (is_past t p q apart v m k met o) }
      where
        found : (j : ℕ) → IsVertex t j → bracket p q (vertex t j) ≡ pos 0
            → reach p q V <ℤ reach p q (vertex t j) → ⊥
        found j hj on after =
            none_after_on_line none (suc (nat_abs (reach p q (vertex t j) -ℤ reach p q V))) j hj on
            after (next (nat_abs (reach p q (vertex t j) -ℤ reach p q V)))
          where
            next : (n : ℕ) → n < suc n
            next n = omega arith

        none_here : (k : Item) → Meets t p q k → IsBefore t p q (L.at_vertex v) k
            → IsPast t p q apart v m k → ⊥
        none_here (L.at_vertex i) met o x =
            found i met.0 ((on_segment_is p q (vertex t i) apart).0 met.1).0
            (without_one _ _ (reach_less p q apart V (vertex t i) m.1 met.1
            (nearer-same_second p q apart V x.there
            (vertex t i) m.1 x.shared met.1 x.of_item x.past)))
        none_here (L.across i j) met o x = none_before_crossing i j met (L.at_vertex v) m o
        none_here (L.along i j) met o x =
            found j (line_ends t h i j met.0).1 (on_line_last p q (vertex t i) (vertex t j) met.1)
            (without_one _ _ (through_last (reach p q V) V.w (reach p q x.there) x.there.w
            (reach p q (vertex t j))
            (vertex t j).w (reach_less p q apart V x.there m.1 x.shared x.past)
            (not_past p q (vertex t i) (vertex t j) met.1 x.there x.of_item) V.positive
            x.there.positive
            (vertex t j).positive))

  -- ---- from the start
  module _ (off : (a b : ℕ) → IsEdge t a b → ¬ OnSegment (vertex t a) (vertex t b) p) where
    abbrev IsAcross : Item → Type 0
    IsAcross (L.at_vertex v) = ⊥
    IsAcross (L.across a b) = ⊤
    IsAcross (L.along a b) = ⊥

    only_vertex : ((a b : ℕ) → ¬ Meets t p q (L.across a b)) → (m : Item) → IsFirst t p q m →
        (v : ℕ) × (m ≡ L.at_vertex v)
    only_vertex none (L.at_vertex v) f = (v, refl)
    only_vertex none (L.across a b) f = absurd (none a b f.met)
    only_vertex none (L.along a b) f = absurd (overlap_not_first t c₀ p q apart off a b f)

    -- where a vertex is met no edge is crossed
    none_across : (v : ℕ) → Meets t p q (L.at_vertex v) → (a b : ℕ) → ¬ Meets t p q (L.across a b)
    none_across v met a b m =
        go (line_items_are_ordered t c₀ p q apart (L.across a b) (L.at_vertex v) m met)
      where
        go : (L.across a b ≡ L.at_vertex v) ⊎ (IsBefore t p q (L.across a b) (L.at_vertex v) ⊎
            IsBefore t p q (L.at_vertex v) (L.across a b)) → ⊥
        go (inl e) = subst IsAcross e tt
        go (inr (inl o)) = (crossing_alone a b m).1.none_after (L.at_vertex v) met o
        go (inr (inr o)) = none_before_crossing a b m (L.at_vertex v) met o

    -- the nearest vertex that is met comes first
    pub nearest_on_line : NearestIsFirst t p q
    nearest_on_line v met = nearest_first t c₀ p q apart (only_vertex (none_across v met)) v met

    -- where no vertex is met and no edge crossed, the walk is empty
    pub none_on_line : ((v : ℕ) → ¬ Meets t p q (L.at_vertex v))
        → ((a b : ℕ) → ¬ Meets t p q (L.across a b)) → IsWalk t p q []
    none_on_line bare none = none_without t c₀ p q apart (only_vertex none) bare

-- on one line of vertices, after a vertex comes the edge to the segment's end, or nothing
pub next_on_line : NextOnLine
next_on_line t h meet one p q apart v m = (
  last_at_end t p q apart v m,
  (λ b two e ahead. next_overlap t p q apart v m b
      (ahead_met t p q apart v m two b e (ends_differ t c p q apart v b e) ahead)),
  last_without_edge t h c p q apart v m,
)
  where
    c : Meeting t
    c = meeting_if t (line_ends t h) meet one

-- on one line of vertices, the first item is the vertex or edge at the start, or the nearest vertex
pub first_on_line : FirstOnLine
first_on_line t h meet one p q apart = (
  first_vertex t p q apart,
  (λ a b w m. first_overlap t p q apart c a b m w),
  crossing_alone t h c p q apart,
  (λ off. (nearest_on_line t h c p q apart off, none_on_line t h c p q apart off)),
)
  where
    c : Meeting t
    c = meeting_if t (line_ends t h) meet one

-- ---- from a point to itself
list_at : (t : Triangulation) (p q : Fraction) → IsSame p q → (items : List Item)
    → IsListAt t p items → IsLineList t p q items
list_at t p q e items at =
    record {
      met = λ n. absurd (n e);
      complete = λ n. absurd (n e);
      ordered = λ n. absurd (n e);
      equal_ends = λ _. at;
    }

-- from a point to itself the line list has the vertex there, or the edge that carries it, or
-- nothing
pub equal_ends : EqualEnds
unfolding tiling
equal_ends t p q e = (
  (λ v hv s. list_at t p q e (L.at_vertex v ∷ []) (hv, s)),
  (λ i j edge w. list_at t p q e (L.along i j ∷ []) (edge, w)),
  (λ h a b c f inside. let at = inside_of _ _ _ p (h.turning a b c f) inside in list_at t p q e [] (
    (λ i hi s. bare_inside t h p p (L.at_vertex i)
        (hi, on_segment-same p p p (vertex t i) s (start_on_segment p p)) p s
        a b c f at),
    (λ i j edge w. edge_outside (tiling t h) i j a b c p (edge_of t h i j edge) f
        (side_of_segment _ _ p (on_of_within _ _ p w)) at),
  )),
  (λ h i j outer turns. let high = above_if_left _ _ p turns in list_at t p q e [] (
    (λ k hk s. item_not_left_of_outer t h p p i j outer (L.at_vertex k)
        (hk, on_segment-same p p p (vertex t k) s (start_on_segment p p)) p s high),
    (λ k l edge w. edge_not_left t h i j k l p outer edge (on_of_within _ _ p w) high),
  )),
  (λ h bare free. list_at t p q e [] (bare, free)),
)
