-- From outside the hull, where a vertex is the first that a segment meets, an outer edge begins or
-- ends there. So it is looked for along the outline alone.
-- Notions: IsOnOutline; nearest_of_outline, none_of_outline.
use Rattle.std.proofs.Common.{◌≡◌, ℕ, ◌<◌, [], length, arith, sym, ap, ◌∙◌, subst}
use mathlib.Core.Logic.{◌⊎◌, inl, inr}
use lib.IntN.{neg_ℤ}
use Rattle.std.specs.Prelude.{ℤ, pos, ◌<ℤ◌, ◌≤ℤ◌, ◌+ℤ◌, ◌-ℤ◌, ◌*ℤ◌}
use Rattle.std.proofs.lemmas.Int.{ints}
use Rattle.plane.specs.{BeginsAt, Fraction, HasFace, InCorners, IsEdge, IsFace, IsNearer}
use Rattle.plane.specs.{IsNotNegative, IsOuter, IsSame, IsVertex, Item, Meets, OnSegment, TilesHull}
use Rattle.plane.specs.{Triangulation, TurnsLeft, vertex}
use Rattle.plane.proofs.{decide_below, decide_both, decide_either, Decision, left_not_below}
use Rattle.plane.proofs.{lt_or_ge_ℤ, mul-neg_ℤ, mul-nonneg_of_nonpos_ℤ, mul-nonneg_ℤ, mul-pos_ℤ}
use Rattle.plane.proofs.{neg-mul_ℤ, negated_negative, nonneg_of_mul-nonneg_ℤ, opposite_of_negative}
use Rattle.plane.proofs.{opposite_of_positive, opposite_of_zero_of, pos-ne-zero_ℤ}
use Rattle.plane.proofs.{product_zero_left, right_not_above, trichotomy_ℤ, turned_face, two_weights}
use Rattle.plane.proofs.{TwoWeights, weak, weak_right, zero-mul_ℤ, zero_of_mul-zero_ℤ, zero_weak}
use Rattle.{plane.proofs.zero_weak_left, plane_theorems.proofs.Delaunay.Floods.Flooded.segment_from}
use Rattle.plane.proofs.{IntegerOrder.mul-neg_of_neg_pos_ℤ, Signs.negation_not_negative}
use Rattle.plane_theorems.specs.{IsFirst, IsWalk}
use Rattle.plane_theorems.proofs.Delaunay.Circles.EmptyCircles.{weights_along}
use Rattle.plane_theorems.proofs.Delaunay.Points.Bracket.{above_if_left, bracket, bracket-first}
use Rattle.plane_theorems.proofs.Delaunay.Points.Bracket.{bracket-second, bracket-swapped}
use Rattle.plane_theorems.proofs.Delaunay.Points.Bracket.{bracket-turned, cramer, cramer-w, meeting}
use Rattle.plane_theorems.proofs.Delaunay.Points.Members.{Member}
use Rattle.plane_theorems.proofs.Delaunay.Segments.LineItems.{Begins, begins, meeting_of_hull}
use Rattle.plane_theorems.proofs.Delaunay.Tilings.Ground.{face_of_side, side_listed, sides_of}
use Rattle.plane_theorems.proofs.Delaunay.Tilings.Ground.{triangle_of_closed}
use Rattle.plane_theorems.proofs.Delaunay.Tilings.OuterEdges.{edge_of_corner}
use Rattle.plane_theorems.proofs.Delaunay.Tilings.OuterEdges.{face_not_left_of_outer}
use Rattle.plane_theorems.proofs.Delaunay.Tilings.Where.{listed_or_not}
use Rattle.plane_theorems.proofs.Segments.Crossing.Chosen.{decide_listed, IsLastBelow, last_below}
use Rattle.plane_theorems.proofs.Segments.First.OutsideStarts.{nearest_of_firsts, none_of_firsts}
use Rattle.plane_theorems.proofs.Segments.First.OutsideStarts.{only_vertex, vertex_begins}
use Rattle.plane_theorems.proofs.Segments.Items.Begins.{edge_flipped, met_if, on_line}
use Rattle.plane_theorems.proofs.Segments.Items.Slopes.{higher_is_later, left_before, slope_above}
use Rattle.plane.specs.Line as L

-- an outer edge begins or ends at vertex v
abbrev pub IsOnOutline : Triangulation → ℕ → Type 0
IsOnOutline t v = ((k : ℕ) × IsOuter t v k) ⊎ ((k : ℕ) × IsOuter t k v)

-- ---- numbers
product_above : (a b : ℤ) → a <ℤ pos 0 → b <ℤ pos 0 → pos 0 <ℤ (a *ℤ b)
product_above a b h k =
    let m = mul-pos_ℤ {a = neg_ℤ a} {b = neg_ℤ b} (omega (arith, ints)) (omega (arith, ints)) in
    let i = neg-mul_ℤ a (neg_ℤ b) in
    let j = mul-neg_ℤ a b in
    omega (arith, ints)

-- x a + y b + z c = 0
middle_above : (x a y b z c : ℤ) → x *ℤ a +ℤ y *ℤ b +ℤ z *ℤ c ≡ pos 0 → x <ℤ pos 0 → a <ℤ pos 0
    → z <ℤ pos 0 → c <ℤ pos 0 → b <ℤ pos 0 → pos 0 <ℤ y
middle_above x a y b z c e hx ha hz hc hb = go (lt_or_ge_ℤ (pos 0) y)
  where
    low : y ≤ℤ pos 0 → ⊥
    low h =
        let m = product_above x a hx ha in
        let n = product_above z c hz hc in
        let o = mul-nonneg_of_nonpos_ℤ {a = y} {b = b} h (weak_right hb) in
        omega (arith, ints)

    go : (pos 0 <ℤ y) ⊎ (y ≤ℤ pos 0) → pos 0 <ℤ y
    go (inl h) = h
    go (inr h) = absurd (low h)

middle_below : (x a y b z c : ℤ) → x *ℤ a +ℤ y *ℤ b +ℤ z *ℤ c ≡ pos 0 → pos 0 <ℤ x → pos 0 <ℤ a
    → pos 0 <ℤ z → pos 0 <ℤ c → pos 0 <ℤ b → y <ℤ pos 0
middle_below x a y b z c e hx ha hz hc hb = go (lt_or_ge_ℤ y (pos 0))
  where
    high : pos 0 ≤ℤ y → ⊥
    high h =
        let m = mul-pos_ℤ {a = x} {b = a} hx ha in
        let n = mul-pos_ℤ {a = z} {b = c} hz hc in
        let o = mul-nonneg_ℤ {a = y} {b = b} h (weak hb) in
        omega (arith, ints)

    go : (y <ℤ pos 0) ⊎ (pos 0 ≤ℤ y) → y <ℤ pos 0
    go (inl h) = h
    go (inr h) = absurd (high h)

scaled : (n x k z l y x' y' : ℤ) → n *ℤ x ≡ k *ℤ z +ℤ l *ℤ y → z ≡ pos 0 → x ≡ x' → y ≡ y'
    → n *ℤ x' ≡ l *ℤ y'
scaled n x k z l y x' y' e d a b =
    ap (λ s. n *ℤ s) (sym a) ∙ e ∙ (λ i. k *ℤ d i +ℤ l *ℤ b i) ∙ none k (l *ℤ y')
  where
    none : (k s : ℤ) → k *ℤ pos 0 +ℤ s ≡ s
    none k s = omega (arith, ints)

first_part : (f g x y k z l w : ℤ) → f *ℤ x -ℤ g *ℤ y ≡ k *ℤ z -ℤ l *ℤ w → l ≡ pos 0
    → k *ℤ z ≡ f *ℤ x +ℤ neg_ℤ g *ℤ y
first_part f g x y k z l w e d =
    let a = product_zero_left {a = l} w d in omega (arith, ints, neg-mul_ℤ g y)

second_part : (f g x y k z m w : ℤ) → f *ℤ x -ℤ g *ℤ y ≡ k *ℤ z -ℤ neg_ℤ m *ℤ w → k ≡ pos 0
    → m *ℤ w ≡ f *ℤ x +ℤ neg_ℤ g *ℤ y
second_part f g x y k z m w e d =
    let a = product_zero_left {a = k} z d in omega (arith, ints, neg-mul_ℤ g y, neg-mul_ℤ m w)

no_sum : (t pw z vw y cw x bw : ℤ) → t *ℤ pw ≡ z *ℤ vw +ℤ y *ℤ cw +ℤ x *ℤ bw → pos 0 <ℤ t
    → pos 0 <ℤ pw → z <ℤ pos 0 → pos 0 <ℤ vw → y ≡ pos 0 → x ≡ pos 0 → ⊥
no_sum t pw z vw y cw x bw e ht hp hz hv hy hx =
    let m = mul-pos_ℤ {a = t} {b = pw} ht hp in
    let n = mul-neg_of_neg_pos_ℤ {a = z} {b = vw} hz hv in
    let i = product_zero_left {a = y} cw hy in
    let j = product_zero_left {a = x} bw hx in
    omega (arith, ints)

-- ---- from a point that no closed face has, to a vertex that comes first
module _ (t : Triangulation) (h : TilesHull t) (p q : Fraction) (apart : ¬ IsSame p q)
    (out : (i j k : ℕ) → IsFace t i j k → ¬ InCorners t i j k p) (v : ℕ)
    (first : IsFirst t p q (L.at_vertex v)) where
  abbrev V : Fraction
  V = vertex t v

  there : OnSegment p q V
  there = first.met.1

  -- the vertex, by its weights on the segment
  w : TwoWeights IsNotNegative p q V
  w = two_weights IsNotNegative p q V there

  end_left : (a b : Fraction) → bracket a b p <ℤ pos 0 → pos 0 <ℤ bracket a b V
      → pos 0 ≤ℤ bracket a b q
  end_left a b low high = go (lt_or_ge_ℤ (bracket a b q) (pos 0))
    where
      both : {z : ℤ} → z <ℤ pos 0 → pos 0 <ℤ z → ⊥
      both h k = omega (arith, ints)

      go : (bracket a b q <ℤ pos 0) ⊎ (pos 0 ≤ℤ bracket a b q) → pos 0 ≤ℤ bracket a b q
      go (inl l) = absurd (both low (left_before p q apart a b V there high (weak_right l)))
      go (inr l) = l

  -- a point of a line that has the start on its right and the vertex on its left comes before it
  sooner : (a b z : Fraction) → OnSegment p q z → bracket a b z ≡ pos 0 → bracket a b p <ℤ pos 0
      → pos 0 <ℤ bracket a b V → IsNearer p z V
  sooner a b z hz on low high = higher_is_later p q apart a b z V hz there
      (slope_above a b p q low (end_left a b low high)) (zero_weak on) high

  begins_at : (k : ℕ) → Meets t p q (L.at_vertex k) → BeginsAt t p q (L.at_vertex k) (vertex t k)
  begins_at = vertex_begins t (meeting_of_hull t h) p q apart

  no_vertex_before : (k : ℕ) → IsVertex t k → OnSegment p q (vertex t k)
      → IsNearer p (vertex t k) V → ⊥
  no_vertex_before k hk on near = first.none_before (L.at_vertex k) (hk, on) (record {
    first = vertex t k;
    second = V;
    first_begins = begins_at k (hk, on);
    second_begins = begins_at v first.met;
    order = inl near;
  })

  no_edge_before : (a b : ℕ) → IsEdge t a b → pos 0 <ℤ bracket p q (vertex t a)
      → bracket p q (vertex t b) <ℤ pos 0 → bracket (vertex t a) (vertex t b) p <ℤ pos 0
      → pos 0 <ℤ bracket (vertex t a) (vertex t b) V → ⊥
  no_edge_before a b e l r low high = go met (begins t p q (L.across a b) met)
    where
      met : Meets t p q (L.across a b)
      met = met_if t p q apart a b e (record {
        left = l;
        right = r;
        start = weak_right low;
        end = end_left (vertex t a) (vertex t b) low high;
      })

      go : Meets t p q (L.across a b) → Begins t p q (L.across a b) → ⊥
      go m z = first.none_before (L.across a b) m (record {
        first = z.at;
        second = V;
        first_begins = z.begins;
        second_begins = begins_at v first.met;
        order = inl (sooner (vertex t a) (vertex t b) z.at z.begins.shared
            (on_line (vertex t a) (vertex t b) z.at z.begins.of_item) low high);
      })

  -- no closed cone of a face at the vertex holds the start
  module _ (c b : ℕ) (f : IsFace t v c b) (left : pos 0 ≤ℤ bracket p q (vertex t c))
      (right : bracket p q (vertex t b) ≤ℤ pos 0) where
    abbrev C : Fraction
    C = vertex t c

    abbrev B : Fraction
    B = vertex t b

    turning : pos 0 <ℤ bracket V C B
    turning = above_if_left V C B (h.turning v c b f)

    -- the vertex is on the left of the way from c to b
    high : pos 0 <ℤ bracket C B V
    high = subst (λ z. pos 0 <ℤ z) (sym (bracket-turned V C B)) turning

    beside_c : w.n *ℤ bracket V C p ≡ w.l *ℤ bracket p q C
    beside_c = scaled w.n (bracket C p V) w.k (bracket C p p) w.l (bracket C p q) (bracket V C p)
        (bracket p q C) (weights_along IsNotNegative p q V w C p) (bracket-second C p)
        (bracket-turned V C p) (sym (bracket-turned C p q))

    beside_b : w.n *ℤ bracket B V p ≡ w.l *ℤ neg_ℤ (bracket p q B)
    beside_b = scaled w.n (bracket p B V) w.k (bracket p B p) w.l (bracket p B q) (bracket B V p)
        (neg_ℤ (bracket p q B)) (weights_along IsNotNegative p q V w p B) (bracket-first p B)
        (sym (bracket-turned p B V))
        (bracket-swapped B p q ∙ ap neg_ℤ (sym (bracket-turned B p q)))

    first_least : pos 0 ≤ℤ bracket V C p
    first_least = nonneg_of_mul-nonneg_ℤ {k = w.n} w.positive
        (subst (λ z. pos 0 ≤ℤ z) (sym beside_c) (mul-nonneg_ℤ w.l_allowed left))

    third_least : pos 0 ≤ℤ bracket B V p
    third_least = nonneg_of_mul-nonneg_ℤ {k = w.n} w.positive (subst (λ z. pos 0 ≤ℤ z)
        (sym beside_b) (mul-nonneg_ℤ w.l_allowed (negation_not_negative (bracket p q B) right)))

    -- and the start on its right
    low : bracket C B p <ℤ pos 0
    low = go (lt_or_ge_ℤ (bracket C B p) (pos 0))
      where
        go : (bracket C B p <ℤ pos 0) ⊎ (pos 0 ≤ℤ bracket C B p) → bracket C B p <ℤ pos 0
        go (inl l) = l
        go (inr l) = absurd (out v c b f (triangle_of_closed V C B p (h.turning v c b f)
            (record { first = first_least; second = l; third = third_least })))

    -- c and b are joined
    edge : IsEdge t c b
    edge = (h.sides c b).1 (inl (v, turned_face t v c b f))

    on_first : bracket p q C ≡ pos 0 → bracket p q B <ℤ pos 0 → OnSegment p q C
    on_first level below = segment_from (bracket q p B) (bracket C B q)
        (neg_ℤ (bracket C B p)) p q C (opposite_of_negative _ _ (bracket-swapped p q B) below)
        (end_left C B low high) (negated_negative low)
        (λ x y. first_part (bracket C B q) (bracket C B p) (bracket x y p) (bracket x y q)
        (bracket q p B) (bracket x y C) (bracket q p C) (bracket x y B) (meeting C B p q x y)
        (opposite_of_zero_of (bracket-swapped p q C) level))

    on_second : bracket p q B ≡ pos 0 → pos 0 <ℤ bracket p q C → OnSegment p q B
    on_second level above = segment_from (bracket p q C) (bracket C B q) (neg_ℤ (bracket C B p)) p q
        B above (end_left C B low high) (negated_negative low)
        (λ x y. second_part (bracket C B q) (bracket C B p) (bracket x y p) (bracket x y q)
        (bracket q p B) (bracket x y C) (bracket p q C) (bracket x y B)
        (meeting C B p q x y ∙ ap (λ s. bracket q p B *ℤ bracket x y C -ℤ s *ℤ bracket x y B)
        (bracket-swapped p q C)) (opposite_of_zero_of (bracket-swapped p q B) level))

    -- not both c and b are on the segment's line
    flat : bracket p q C ≡ pos 0 → bracket p q B ≡ pos 0 → ⊥
    flat d e = no_sum (bracket V C B) p.w (bracket C B p) V.w (bracket B V p) C.w
        (bracket V C p) B.w (cramer-w V C B p) turning p.positive low V.positive
        (zero_of_mul-zero_ℤ (pos-ne-zero_ℤ w.positive) (beside_b ∙ zero-mul_ℤ w.l (ap neg_ℤ e)))
        (zero_of_mul-zero_ℤ (pos-ne-zero_ℤ w.positive) (beside_c ∙ zero-mul_ℤ w.l d))

    no_cone : ⊥
    no_cone = go (trichotomy_ℤ (bracket p q C)) (trichotomy_ℤ (bracket p q B))
      where
        go : (bracket p q C <ℤ pos 0) ⊎ ((bracket p q C ≡ pos 0) ⊎ (pos 0 <ℤ bracket p q C))
            → (bracket p q B <ℤ pos 0) ⊎ ((bracket p q B ≡ pos 0) ⊎ (pos 0 <ℤ bracket p q B)) → ⊥
        go (inl d) e = right_not_above d left
        go (inr (inl d)) (inl e) = let on = on_first d e in
            no_vertex_before c (h.corners v c b f).1 on
            (sooner C B C on (bracket-first C B) low high)
        go (inr (inl d)) (inr (inl e)) = flat d e
        go (inr (inl d)) (inr (inr e)) = left_not_below e right
        go (inr (inr d)) (inl e) = no_edge_before c b edge d e low high
        go (inr (inr d)) (inr (inl e)) = let on = on_second e d in
            no_vertex_before b (h.corners v c b f).2 on
            (sooner C B B on (bracket-second C B) low high)
        go (inr (inr d)) (inr (inr e)) = left_not_below e right

  -- ---- the neighbours on one side of the segment's line, and one that is next to the way back
  abbrev IsRight : ℕ → Type 0
  IsRight b = IsEdge t v b × (bracket p q (vertex t b) <ℤ pos 0)

  abbrev IsLeft : ℕ → Type 0
  IsLeft c = IsEdge t v c × (pos 0 <ℤ bracket p q (vertex t c))

  abbrev AfterRight : ℕ → ℕ → Type 0
  AfterRight b c = pos 0 <ℤ bracket V (vertex t c) (vertex t b)

  abbrev AfterLeft : ℕ → ℕ → Type 0
  AfterLeft c b = pos 0 <ℤ bracket V (vertex t c) (vertex t b)

  three : (a b c : ℕ) → bracket (vertex t b) (vertex t c) V *ℤ bracket p q (vertex t a)
      +ℤ bracket (vertex t c) (vertex t a) V *ℤ bracket p q (vertex t b)
      +ℤ bracket (vertex t a) (vertex t b) V *ℤ bracket p q (vertex t c) ≡ pos 0
  three a b c = sym (cramer (vertex t a) (vertex t b) (vertex t c) V p q)
      ∙ zero-mul_ℤ (bracket (vertex t a) (vertex t b) (vertex t c)) (on_line p q V there)

  -- V x y above 0: x y V is, and y x V is below 0
  ahead : (x y : Fraction) → pos 0 <ℤ bracket V x y → pos 0 <ℤ bracket x y V
  ahead x y i = subst (λ z. pos 0 <ℤ z) (sym (bracket-turned V x y)) i

  behind : (x y : Fraction) → pos 0 <ℤ bracket V x y → bracket y x V <ℤ pos 0
  behind x y i = opposite_of_positive (bracket y x V) (bracket x y V) (bracket-swapped x y V)
      (ahead x y i)

  right_goes_on : (a b c : ℕ) → IsRight a → IsRight b → IsRight c → AfterRight a b → AfterRight b c
      → AfterRight a c
  right_goes_on a b c ha hb hc i j =
      subst (λ z. pos 0 <ℤ z) (bracket-turned V (vertex t c) (vertex t a))
      (middle_above (bracket (vertex t b) (vertex t c) V) (bracket p q (vertex t a))
      (bracket (vertex t c) (vertex t a) V) (bracket p q (vertex t b))
      (bracket (vertex t a) (vertex t b) V) (bracket p q (vertex t c)) (three a b c)
      (behind (vertex t c) (vertex t b) j) ha.1 (behind (vertex t b) (vertex t a) i) hc.1 hb.1)

  left_goes_on : (a b c : ℕ) → IsLeft a → IsLeft b → IsLeft c → AfterLeft a b → AfterLeft b c
      → AfterLeft a c
  left_goes_on a b c ha hb hc i j =
      subst (λ z. pos 0 <ℤ z) (bracket-turned V (vertex t a) (vertex t c))
      (opposite_of_negative _ _ (bracket-swapped (vertex t c) (vertex t a) V)
      (middle_below (bracket (vertex t b) (vertex t c) V) (bracket p q (vertex t a))
      (bracket (vertex t c) (vertex t a) V) (bracket p q (vertex t b))
      (bracket (vertex t a) (vertex t b) V) (bracket p q (vertex t c)) (three a b c)
      (ahead (vertex t b) (vertex t c) j) ha.1 (ahead (vertex t a) (vertex t b) i) hc.1 hb.1))

  not_itself : (a : ℕ) → ¬ (pos 0 <ℤ bracket V (vertex t a) (vertex t a))
  not_itself a i = none (bracket-second V (vertex t a)) i
    where
      none : {z : ℤ} → z ≡ pos 0 → pos 0 <ℤ z → ⊥
      none e k = omega (arith, ints)

  decide_edge : (a b : ℕ) → Decision (IsEdge t a b)
  decide_edge a b = decide_either (decide_listed t.edges (a, b)) (decide_listed t.edges (b, a))

  edge_in : (b : ℕ) → IsEdge t v b → b < length t.points
  edge_in b e = go ((h.sides v b).0 e)
    where
      go : HasFace t v b ⊎ HasFace t b v → b < length t.points
      go (inl f) = (h.corners v b f.0 f.1).1
      go (inr f) = (h.corners b v f.0 f.1).0

  from_right : (b : ℕ) → IsRight b → (k : ℕ) × IsOuter t k v
  from_right b is = elim (last_below IsRight AfterRight
      (λ k. decide_both (decide_edge v k) (decide_below (bracket p q (vertex t k)) (pos 0)))
      (λ k m. decide_below (pos 0) (bracket V (vertex t m) (vertex t k)))
      right_goes_on not_itself (length t.points)) [
        | inl l ↦ (l.0, outer l.0 l.1 (listed_or_not l.0 v (sides_of t.faces)))
        | inr none ↦ absurd (none b (edge_in b is.0) is)
      ]
    where
      outer : (b : ℕ) → IsLastBelow IsRight AfterRight (length t.points) b
          → Member (b, v) (sides_of t.faces) ⊎ (¬ Member (b, v) (sides_of t.faces)) → IsOuter t b v
      outer b l (inr n) = (edge_flipped t v b l.has.0, λ g. n (side_listed t h b v g.0 g.1))
      outer b l (inl m) = absurd (go (face_of_side t b v m))
        where
          go : (c : ℕ) × IsFace t b v c → ⊥
          go (c, g) = pick (lt_or_ge_ℤ (bracket p q (vertex t c)) (pos 0))
            where
              f : IsFace t v c b
              f = turned_face t b v c g

              pick : (bracket p q (vertex t c) <ℤ pos 0) ⊎ (pos 0 ≤ℤ bracket p q (vertex t c)) → ⊥
              pick (inl i) = l.last c (h.corners v c b f).1 ((h.sides v c).1 (inl (b, f)), i)
                  (above_if_left V (vertex t c) (vertex t b) (h.turning v c b f))
              pick (inr i) = no_cone c b f i (weak_right l.has.1)

  from_left : (c : ℕ) → IsLeft c → (k : ℕ) × IsOuter t v k
  from_left c is = elim (last_below IsLeft AfterLeft
      (λ k. decide_both (decide_edge v k) (decide_below (pos 0) (bracket p q (vertex t k))))
      (λ k m. decide_below (pos 0) (bracket V (vertex t k) (vertex t m)))
      left_goes_on not_itself (length t.points)) [
        | inl l ↦ (l.0, outer l.0 l.1 (listed_or_not v l.0 (sides_of t.faces)))
        | inr none ↦ absurd (none c (edge_in c is.0) is)
      ]
    where
      outer : (c : ℕ) → IsLastBelow IsLeft AfterLeft (length t.points) c
          → Member (v, c) (sides_of t.faces) ⊎ (¬ Member (v, c) (sides_of t.faces)) → IsOuter t v c
      outer c l (inr n) = (l.has.0, λ g. n (side_listed t h v c g.0 g.1))
      outer c l (inl m) = absurd (go (face_of_side t v c m))
        where
          go : (b : ℕ) × IsFace t v c b → ⊥
          go (b, f) = pick (lt_or_ge_ℤ (pos 0) (bracket p q (vertex t b)))
            where
              edge_b : IsEdge t v b
              edge_b = (h.sides v b).1 (inr (c, turned_face t c b v (turned_face t v c b f)))

              pick : (pos 0 <ℤ bracket p q (vertex t b)) ⊎ (bracket p q (vertex t b) ≤ℤ pos 0) → ⊥
              pick (inl i) = l.last b (h.corners v c b f).2 (edge_b, i)
                  (above_if_left V (vertex t c) (vertex t b) (h.turning v c b f))
              pick (inr i) = no_cone c b f (weak l.has.1) i

  -- an outer edge begins or ends at the vertex
  first_on_outline : IsOnOutline t v
  first_on_outline = at_face some.0 some.1 some.2
    where
      some : (c : ℕ) × (b : ℕ) × IsFace t v c b
      some = go ((h.sides v near.0).0 near.1)
        where
          near : (k : ℕ) × IsEdge t v k
          near = let e = edge_of_corner t h v first.met.0 in (e.0, e.1)

          go : HasFace t v near.0 ⊎ HasFace t near.0 v → (c : ℕ) × (b : ℕ) × IsFace t v c b
          go (inl f) = (near.0, f.0, f.1)
          go (inr f) = (f.0, near.0, turned_face t near.0 v f.0 f.1)

      at_face : (c b : ℕ) → IsFace t v c b → IsOnOutline t v
      at_face c b f =
          go (trichotomy_ℤ (bracket p q (vertex t c))) (trichotomy_ℤ (bracket p q (vertex t b)))
        where
          edge_c : IsEdge t v c
          edge_c = (h.sides v c).1 (inl (b, f))

          edge_b : IsEdge t v b
          edge_b = (h.sides v b).1 (inr (c, turned_face t c b v (turned_face t v c b f)))

          go : (bracket p q (vertex t c) <ℤ pos 0)
              ⊎ ((bracket p q (vertex t c) ≡ pos 0) ⊎ (pos 0 <ℤ bracket p q (vertex t c)))
              → (bracket p q (vertex t b) <ℤ pos 0)
              ⊎ ((bracket p q (vertex t b) ≡ pos 0) ⊎ (pos 0 <ℤ bracket p q (vertex t b)))
              → IsOnOutline t v
          go (inl d) e = inr (from_right c (edge_c, d))
          go (inr (inr d)) e = inl (from_left c (edge_c, d))
          go (inr (inl d)) (inl e) = inr (from_right b (edge_b, e))
          go (inr (inl d)) (inr (inr e)) = inl (from_left b (edge_b, e))
          go (inr (inl d)) (inr (inl e)) =
              absurd (no_cone c b f (zero_weak_left d) (zero_weak e))

-- ---- from a point on the left of an outer edge, where no outer edge is crossed inwards
module _ (t : Triangulation) (h : TilesHull t) (p q : Fraction) (apart : ¬ IsSame p q) (i j : ℕ)
    (outer : IsOuter t i j) (turns : TurnsLeft (vertex t i) (vertex t j) p)
    (none : (a b : ℕ) → IsOuter t a b → ¬ Meets t p q (L.across b a)) where
  -- no closed face has the start
  out : (l m n : ℕ) → IsFace t l m n → ¬ InCorners t l m n p
  out l m n f inside = face_not_left_of_outer t h i j l m n p outer f inside turns

  -- what comes first is a vertex
  only : (m : Item) → IsFirst t p q m → (v : ℕ) × (m ≡ L.at_vertex v)
  only = only_vertex t h p q apart out none

  -- a vertex that is met comes first where none of the outline that is met is nearer
  pub nearest_of_outline : (v : ℕ) → Meets t p q (L.at_vertex v)
      → ((w : ℕ) → IsOnOutline t w → Meets t p q (L.at_vertex w)
      → ¬ IsNearer p (vertex t w) (vertex t v)) → IsFirst t p q (L.at_vertex v)
  nearest_of_outline v met nearest =
      nearest_of_firsts t (meeting_of_hull t h) p q apart only v met
      (λ w f. nearest w (first_on_outline t h p q apart out w f) f.met)

  -- where no vertex of the outline is met, the walk is empty
  pub none_of_outline : ((w : ℕ) → IsOnOutline t w → ¬ Meets t p q (L.at_vertex w))
      → IsWalk t p q []
  none_of_outline bare = none_of_firsts t (meeting_of_hull t h) p q apart only
      (λ w f. bare w (first_on_outline t h p q apart out w f) f.met)
