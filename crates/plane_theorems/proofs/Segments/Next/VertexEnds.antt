-- Where nothing starts at a vertex towards the segment's end: the vertex is the last that the
-- segment meets. And an edge there that points to the end is overlapped.
-- Notions: V; ahead_met, last_bare.
use Rattle.std.proofs.Common.{◌≡◌, ℕ, [], ◌∷◌, arith, ap, sym, ◌∙◌, subst}
use mathlib.Core.Logic.{◌⊎◌, inl, inr}
use lib.IntN.{neg_ℤ}
use Rattle.std.specs.Prelude.{ℤ, pos, ◌<ℤ◌, ◌≤ℤ◌, ◌+ℤ◌, ◌-ℤ◌, ◌*ℤ◌, map}
use Rattle.std.proofs.lemmas.Int.{ints}
use Rattle.plane.specs.{Fraction, HasFace, InHull, IsEdge, IsFace, IsNearer, IsNotNegative}
use Rattle.plane.specs.{IsPointOf, IsSame, Item, Meets, OnSegment, right, side, TilesHull}
use Rattle.plane.specs.{Triangulation, vertex, whole}
use Rattle.plane.proofs.{◌⊕◌, ◌⊗◌, at_most_and_more, end_on_segment, left_not_zero, mul-nonneg_ℤ}
use Rattle.plane.proofs.{mul-pos_ℤ, neg-mul_ℤ, neg-pos_ℤ, nonneg_of_mul-nonneg_ℤ, not_right_strict}
use Rattle.plane.proofs.{on_segment-same, opposite_of_negative, opposite_of_positive}
use Rattle.plane.proofs.{product_zero_left, reach, reach-end, reach-start, reach_of_two}
use Rattle.plane.proofs.{right_not_above, ring_in_from, same-sym, start_on_segment}
use Rattle.plane.proofs.{sum_not_negative_of, trichotomy_ℤ, turned_face, two_weights, TwoWeights}
use Rattle.plane.proofs.{weak, zero_weak_left}
use Rattle.plane.proofs.{IntegerOrder.mul-neg_of_neg_pos_ℤ, Signs.at_most_by_difference_to}
use Rattle.plane_theorems.specs.{IsAhead, IsLast}
use Rattle.plane_theorems.proofs.Delaunay.Circles.EmptyCircles.{weights_along}
use Rattle.plane_theorems.proofs.Delaunay.Floods.Flooded.{segment_from, side_of_segment}
use Rattle.plane_theorems.proofs.Delaunay.Points.AlongSegment.{after_first, as_soon, later}
use Rattle.plane_theorems.proofs.Delaunay.Points.AlongSegment.{nearer_if, order_along, OrderAlong}
use Rattle.plane_theorems.proofs.Delaunay.Points.AlongSegment.{reach_less, sooner}
use Rattle.plane_theorems.proofs.Delaunay.Points.Bracket.{above_if_left, bracket, bracket-first}
use Rattle.plane_theorems.proofs.Delaunay.Points.Bracket.{bracket-second, bracket-swapped, cramer}
use Rattle.plane_theorems.proofs.Delaunay.Points.Bracket.{cramer-w}
use Rattle.plane_theorems.proofs.Delaunay.Segments.LineItems.{turned_segment}
use Rattle.plane_theorems.proofs.Delaunay.Tilings.Cones.{cone_at_vertex}
use Rattle.plane_theorems.proofs.Delaunay.Tilings.Ground.{face_in_hull}
use Rattle.plane_theorems.proofs.Delaunay.Tilings.Meets.{on_side-closed}
use Rattle.plane_theorems.proofs.Delaunay.Tilings.OuterEdges.{edge_of_corner}
use Rattle.plane_theorems.proofs.Segments.Items.SideSigns.{not_right}
use Rattle.plane_theorems.proofs.Segments.Next.Vertices.{before_end, is_past, IsPast, past_left}
use Rattle.plane.specs.Line as L

-- the start is nearer to itself than any other point
start_nearer : (u x : Fraction) → ¬ IsSame u x → IsNearer u u x
start_nearer u x n = nearer_if u x n u x (start_on_segment u x) (end_on_segment u x)
    (less (reach u x u) (reach u x x) x.w u.w (reach-start u x) (reach-end u x n) u.positive)
  where
    less : (a b c d : ℤ) → a ≡ pos 0 → pos 0 <ℤ b → pos 0 <ℤ d → (a *ℤ c) <ℤ (b *ℤ d)
    less a b c d e h k = let m = mul-pos_ℤ {a = b} {b = d} h k in
        let z = product_zero_left {a = a} c e in omega (arith, ints)

-- a point of a part of a segment
inner_segment : (p q v x : Fraction) → OnSegment p q v → OnSegment v q x → OnSegment p q x
inner_segment p q v x hv hx =
    go (two_weights IsNotNegative p q v hv) (two_weights IsNotNegative v q x hx)
  where
    mixed : (n k l b n' k' l' f g d : ℤ) → n *ℤ f ≡ k *ℤ b +ℤ l *ℤ g → n' *ℤ d ≡ k' *ℤ f +ℤ l' *ℤ g
        → (n *ℤ n') *ℤ d ≡ (k' *ℤ k) *ℤ b +ℤ (k' *ℤ l +ℤ n *ℤ l') *ℤ g
    mixed n k l b n' k' l' f g d e c = ring_in_from (n ∷ k ∷ l ∷ b ∷ n' ∷ k' ∷ l' ∷ f ∷ g ∷ d ∷ [])
        (λ n k l b n' k' l' f g d. (n ⊗ n') ⊗ d)
        (λ n k l b n' k' l' f g d. (k' ⊗ k) ⊗ b ⊕ (k' ⊗ l ⊕ n ⊗ l') ⊗ g)
        (λ n k l b n' k' l' f g d. (k', n ⊗ f, k ⊗ b ⊕ l ⊗ g) ∷ (n, n' ⊗ d, k' ⊗ f ⊕ l' ⊗ g) ∷ [])
        (e, (c, tt)) tt

    go : TwoWeights IsNotNegative p q v → TwoWeights IsNotNegative v q x → OnSegment p q x
    go s t = segment_from (s.n *ℤ t.n) (t.k *ℤ s.k) (t.k *ℤ s.l +ℤ s.n *ℤ t.l) p q x
        (mul-pos_ℤ s.positive t.positive) (mul-nonneg_ℤ t.k_allowed s.k_allowed)
        (sum_not_negative_of (mul-nonneg_ℤ t.k_allowed s.l_allowed)
        (mul-nonneg_ℤ (weak s.positive) t.l_allowed))
        (λ a b. mixed s.n s.k s.l (bracket a b p) t.n t.k t.l (bracket a b v) (bracket a b q)
        (bracket a b x) (weights_along IsNotNegative p q v s a b)
        (weights_along IsNotNegative v q x t a b))

-- q on the ray from v through b, by weights
ray : (n k l : ℤ) (v b q : Fraction) → pos 0 <ℤ n → pos 0 ≤ℤ l
    → ((s r : Fraction) → n *ℤ bracket s r q ≡ k *ℤ bracket s r v +ℤ l *ℤ bracket s r b)
    → n *ℤ q.w ≡ k *ℤ v.w +ℤ l *ℤ b.w → IsAhead v b q
ray n k l v b q hn hl e w = go (trichotomy_ℤ k)
  where
    back : (x y z k : ℤ) → n *ℤ x ≡ k *ℤ y +ℤ l *ℤ z → l *ℤ z ≡ neg_ℤ k *ℤ y +ℤ n *ℤ x
    back x y z k e = let m = neg-mul_ℤ k y in omega (arith, ints)

    some : k <ℤ pos 0 → pos 0 <ℤ l
    some h = not_right_strict hl (λ z. both (mul-pos_ℤ {a = n} {b = q.w} hn q.positive)
        (mul-neg_of_neg_pos_ℤ {a = k} {b = v.w} h v.positive) (product_zero_left {a = l} b.w z) w)
      where
        both : {x y z : ℤ} → pos 0 <ℤ x → y <ℤ pos 0 → z ≡ pos 0 → x ≡ y +ℤ z → ⊥
        both h k e d = omega (arith, ints)

    go : (k <ℤ pos 0) ⊎ ((k ≡ pos 0) ⊎ (pos 0 <ℤ k)) → IsAhead v b q
    go (inl h) = inr (segment_from l (neg_ℤ k) n v q b (some h) (weak (neg-pos_ℤ h)) (weak hn)
        (λ s r. back (bracket s r q) (bracket s r v) (bracket s r b) k (e s r)))
    go (inr (inl h)) = inl (segment_from n k l v b q hn (zero_weak_left h) hl e)
    go (inr (inr h)) = inl (segment_from n k l v b q hn (weak h) hl e)

module _ (t : Triangulation) (h : TilesHull t) where
  -- a point of an item is on an edge
  on_some_edge : (p q : Fraction) (k : Item) → Meets t p q k → (z : Fraction) → IsPointOf t k z
      → (i j : ℕ) × IsEdge t i j × OnSegment (vertex t i) (vertex t j) z
  on_some_edge p q (L.at_vertex i) met z s = let e = edge_of_corner t h i met.0 in (
    i,
    e.0,
    e.1,
    on_segment-same (vertex t i) (vertex t e.0) (vertex t i) z
        (same-sym z (vertex t i) s) (start_on_segment (vertex t i) (vertex t e.0)),
  )
  on_some_edge p q (L.across i j) met z s = (i, j, met.0, s)
  on_some_edge p q (L.along i j) met z s = (i, j, met.0, s)

  edge_in_hull : (i j : ℕ) (z : Fraction) → IsEdge t i j → OnSegment (vertex t i) (vertex t j) z
      → InHull (map whole t.points) z
  edge_in_hull i j z e on = go ((h.sides i j).0 e)
    where
      at_face : (i j k : ℕ) → IsFace t i j k → OnSegment (vertex t i) (vertex t j) z
          → InHull (map whole t.points) z
      at_face i j k f on = face_in_hull t h i j k f z (on_side-closed (vertex t i) (vertex t j)
          (vertex t k) z (side_of_segment (vertex t i) (vertex t j) z on)
          (above_if_left (vertex t i) (vertex t j) (vertex t k) (h.turning i j k f)))

      go : HasFace t i j ⊎ HasFace t j i → InHull (map whole t.points) z
      go (inl f) = at_face i j f.0 f.1 on
      go (inr f) = at_face j i f.0 f.1 (turned_segment (vertex t i) (vertex t j) z on)

module _ (t : Triangulation) (p q : Fraction) (apart : ¬ IsSame p q) (v : ℕ)
    (m : Meets t p q (L.at_vertex v)) (two : ¬ IsSame (vertex t v) q) where
  -- the vertex's point
  abbrev pub V : Fraction
  V = vertex t v

  past_end : IsNearer p V q
  past_end = before_end t p q apart v m two

  -- an edge from the vertex towards the end is overlapped
  pub ahead_met : (b : ℕ) → IsEdge t v b → ¬ IsSame V (vertex t b) → IsAhead V (vertex t b) q
      → Meets t p q (L.along v b)
  ahead_met b e apart_b (inl on) = (
    e,
    record {
      near = V;
      far = q;
      near_first = m.1;
      near_second = start_on_segment V (vertex t b);
      far_first = end_on_segment p q;
      far_second = on;
      from_s = past_end;
      from_u = start_nearer V q two;
    },
  )
  ahead_met b e apart_b (inr on) = (
    e,
    record {
      near = V;
      far = B;
      near_first = m.1;
      near_second = start_on_segment V B;
      far_first = there;
      far_second = end_on_segment V B;
      from_s = go (order_along p q apart V B m.1 there);
      from_u = start_nearer V B apart_b;
    },
  )
    where
      B : Fraction
      B = vertex t b

      there : OnSegment p q (vertex t b)
      there = inner_segment p q V (vertex t b) m.1 on

      least_difference : (a c : ℤ) → a <ℤ c → pos 0 ≤ℤ (c -ℤ a)
      least_difference a c h = omega (arith, ints)

      not_earlier : (reach p q V *ℤ (vertex t b).w) ≤ℤ (reach p q (vertex t b) *ℤ V.w)
      not_earlier = let w = two_weights IsNotNegative V q (vertex t b) on in
          at_most_by_difference_to _ _ (nonneg_of_mul-nonneg_ℤ {k = w.n} w.positive
          (subst (λ z. pos 0 ≤ℤ z)
          (sym (after_first w.n w.k w.l (reach p q (vertex t b)) (reach p q V) (reach p q q)
          (vertex t b).w V.w q.w (reach_of_two IsNotNegative p q V q (vertex t b) w) w.w))
          (mul-nonneg_ℤ w.l_allowed
          (least_difference _ _ (reach_less p q apart V q m.1 (end_on_segment p q) past_end)))))

      go : OrderAlong p V (vertex t b) → IsNearer p V (vertex t b)
      go (sooner n) = n
      go (as_soon s) = absurd (apart_b s)
      go (later n) = absurd
          (at_most_and_more _ _ not_earlier (reach_less p q apart (vertex t b) V there m.1 n))

  -- the side of a line through the vertex is one for all later points of the segment
  same_zero : (u w : Fraction) → bracket u w V ≡ pos 0 → bracket w u V ≡ pos 0 → (z : Fraction)
      → OnSegment p q z → IsNearer p V z → bracket u w z ≡ pos 0 → bracket u w q ≡ pos 0
  same_zero u w on on' z hz near e = go (trichotomy_ℤ (bracket u w q))
    where
      go : (bracket u w q <ℤ pos 0) ⊎ ((bracket u w q ≡ pos 0) ⊎ (pos 0 <ℤ bracket u w q))
          → bracket u w q ≡ pos 0
      go (inl h) = absurd (left_not_zero (past_left t p q apart v m w u on' q (end_on_segment p q)
          past_end (opposite_of_negative _ _ (bracket-swapped u w q) h) z hz near)
          (bracket-swapped u w z ∙ ap neg_ℤ e))
      go (inr (inl h)) = h
      go (inr (inr h)) = absurd (left_not_zero
          (past_left t p q apart v m u w on q (end_on_segment p q) past_end h z hz near) e)

  same_least : (u w : Fraction) → bracket w u V ≡ pos 0 → (z : Fraction) → OnSegment p q z
      → IsNearer p V z → pos 0 ≤ℤ bracket u w z → pos 0 ≤ℤ bracket u w q
  same_least u w on' z hz near e = go (trichotomy_ℤ (bracket u w q))
    where
      go : (bracket u w q <ℤ pos 0) ⊎ ((bracket u w q ≡ pos 0) ⊎ (pos 0 <ℤ bracket u w q))
          → pos 0 ≤ℤ bracket u w q
      go (inl h) = absurd (right_not_above (opposite_of_positive _ _ (bracket-swapped w u z)
          (past_left t p q apart v m w u on' q (end_on_segment p q) past_end
          (opposite_of_negative _ _ (bracket-swapped u w q) h) z hz near)) e)
      go (inr (inl h)) = zero_weak_left h
      go (inr (inr h)) = weak h

  -- no edge and no face of a tiling leads on from the vertex: it is the last
  pub last_bare : TilesHull t → ((b : ℕ) → IsEdge t v b → ¬ IsAhead V (vertex t b) q) → ((b c : ℕ)
      → IsFace t v b c → pos 0 <ℤ bracket V (vertex t b) q → ¬ (pos 0 <ℤ bracket (vertex t c) V q))
      → IsLast t p q (L.at_vertex v)
  last_bare h no_edge no_face =
      record { none_after = λ k met o. none k met (is_past t p q apart v m k met o) }
    where
      none : (k : Item) → Meets t p q k → IsPast t p q apart v m k → ⊥
      none k met x =
          go (cone_at_vertex t h v x.there m.0 (edge_in_hull t h e.0 e.1 x.there e.2 e.3))
        where
          e : (i j : ℕ) × IsEdge t i j × OnSegment (vertex t i) (vertex t j) x.there
          e = on_some_edge t h p q k met x.there x.of_item

          go : (j l : ℕ) × IsFace t v j l × (side V (vertex t j) x.there ≡ right → ⊥)
              × (side (vertex t l) V x.there ≡ right → ⊥) → ⊥
          go (j, l, f, first, third) =
              pick (trichotomy_ℤ (bracket V J x.there)) (trichotomy_ℤ (bracket K V x.there))
            where
              J : Fraction
              J = vertex t j

              K : Fraction
              K = vertex t l

              turning : pos 0 <ℤ bracket V J K
              turning = above_if_left V J K (h.turning v j l f)

              first_least : pos 0 ≤ℤ bracket V J x.there
              first_least = not_right V J x.there first

              third_least : pos 0 ≤ℤ bracket K V x.there
              third_least = not_right K V x.there third

              drop_last : (n a b c x y z : ℤ) → n ≡ a *ℤ x +ℤ b *ℤ y +ℤ c *ℤ z → c ≡ pos 0
                  → n ≡ a *ℤ x +ℤ b *ℤ y
              drop_last n a b c x y z e d =
                  let m = product_zero_left {a = c} z d in omega (arith, ints)

              drop_middle : (n a b c x y z : ℤ) → n ≡ a *ℤ x +ℤ b *ℤ y +ℤ c *ℤ z → b ≡ pos 0
                  → n ≡ a *ℤ x +ℤ c *ℤ z
              drop_middle n a b c x y z e d =
                  let m = product_zero_left {a = b} y d in omega (arith, ints)

              on_first : bracket V J x.there ≡ pos 0 → ⊥
              on_first z = no_edge j ((h.sides v j).1 (inl (l, f)))
                  (ray (bracket V J K) (bracket J K q) (bracket K V q) V J q turning
                  (same_least K V (bracket-first V K) x.there x.shared x.past third_least)
                  (λ s r. drop_last _ (bracket J K q) (bracket K V q) (bracket V J q)
                  (bracket s r V) (bracket s r J) (bracket s r K) (cramer V J K q s r) level)
                  (drop_last _ (bracket J K q) (bracket K V q) (bracket V J q) V.w J.w K.w
                  (cramer-w V J K q) level))
                where
                  level : bracket V J q ≡ pos 0
                  level = same_zero V J (bracket-first V J)
                      (bracket-second J V) x.there x.shared x.past z

              on_third : bracket K V x.there ≡ pos 0 → ⊥
              on_third z =
                  no_edge l ((h.sides v l).1 (inr (j, turned_face t j l v (turned_face t v j l f))))
                  (ray (bracket V J K) (bracket J K q) (bracket V J q) V K q turning
                  (same_least V J (bracket-second J V) x.there x.shared x.past first_least)
                  (λ s r. drop_middle _ (bracket J K q) (bracket K V q) (bracket V J q)
                  (bracket s r V) (bracket s r J) (bracket s r K) (cramer V J K q s r) level)
                  (drop_middle _ (bracket J K q) (bracket K V q) (bracket V J q) V.w J.w K.w
                  (cramer-w V J K q) level))
                where
                  level : bracket K V q ≡ pos 0
                  level = same_zero K V (bracket-second K V)
                      (bracket-first V K) x.there x.shared x.past z

              pick : (bracket V J x.there <ℤ pos 0)
                  ⊎ ((bracket V J x.there ≡ pos 0) ⊎ (pos 0 <ℤ bracket V J x.there))
                  → (bracket K V x.there <ℤ pos 0)
                  ⊎ ((bracket K V x.there ≡ pos 0) ⊎ (pos 0 <ℤ bracket K V x.there)) → ⊥
              pick (inl a) b = right_not_above a first_least
              pick (inr (inl a)) b = on_first a
              pick (inr (inr a)) (inl b) = right_not_above b third_least
              pick (inr (inr a)) (inr (inl b)) = on_third b
              pick (inr (inr a)) (inr (inr b)) = no_face j l f (past_left t p q apart v m V J
                  (bracket-first V J) x.there x.shared x.past a q (end_on_segment p q) past_end)
                  (past_left t p q apart v m K V (bracket-second K V) x.there x.shared x.past b q
                  (end_on_segment p q) past_end)
