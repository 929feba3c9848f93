-- The hull of a local mesh, seen from a new point q: an index is left by one outer edge and reached
-- by one; the edges that see q stand in one run, and the lines from q to its two ends support all
-- vertices.
-- Notions: on_side, halves (a segment and its parts, seen from a point); next_unique; Sees;
-- start_supports, end_supports (the lines to q); IsRun, seen_in_run, run_is_open.
use Rattle.std.proofs.Common.{◌≡◌, ◌⊎◌, ◌↔◌, ℕ, ◌<◌, List, [], ◌∷◌, refl, sym, ap, ◌∙◌, subst}
use Rattle.std.proofs.Common.{arith}
use mathlib.Core.Logic.{inl, inr, ◌≢◌}
use Rattle.std.specs.Prelude.{ℤ, pos, ◌+ℤ◌, ◌-ℤ◌, ◌*ℤ◌, ◌≤ℤ◌, ◌<ℤ◌, neg_ℤ, Contains}
use Rattle.std.proofs.lemmas.Int.{ints}
use lib.IntN.{*ℤ_comm}
use Rattle.std.proofs.lemmas.Bool.{cases_eq}
use Rattle.plane.specs.{Face, IsPositive, Point, whole, WithinSegment}
use Rattle.plane.proofs.{◌⊕◌, ◌⊖◌, ◌⊗◌, at_most_if_not_less, between_zero, bracket, bracket-last}
use Rattle.plane.proofs.{bracket-outer, bracket-sum, bracket-swap, bracket-turn, bracketᵖ, cramer}
use Rattle.plane.proofs.{cramer_w, cramer_x, cramer_y, drop_zero, drop_zero_last, left_not_below}
use Rattle.plane.proofs.{left_not_zero, less_if_not_same, lift, lt_or_ge_ℤ, mean_of_two}
use Rattle.plane.proofs.{mul-nonneg_ℤ, mul-nonpos_of_nonneg_nonpos_ℤ, mul-pos_ℤ, neg-pos_ℤ}
use Rattle.plane.proofs.{negated_below, nonneg_of_mul-nonneg_ℤ, not_left_of_product, not_on_line}
use Rattle.plane.proofs.{num, place_of_end, place_of_start, place_on, pluecker, pos-ne-zero_ℤ}
use Rattle.plane.proofs.{pos_of_mul-pos_ℤ, product_zero_left, ring_over, same_by_places}
use Rattle.plane.proofs.{trichotomy_ℤ, two_weights, Vec3, vec3, weak, within_by_places, zero-mul_ℤ}
use Rattle.plane.proofs.{zero_of_mul-zero_ℤ, zero_or_left}
use Rattle.plane.proofs.Signs.{last_of_three, opposite_not_positive}
use Rattle.plane_theorems.specs.{last_of, steps}
use Rattle.plane_theorems.proofs.Tiling.Counting.{at, SignMesh, within_turned}
use Rattle.plane_theorems.proofs.Tiling.Totals.{Contains-later}
use Rattle.plane_theorems.proofs.Tiling.Covering as C
use Rattle.plane_theorems.proofs.Tiling.Edges as E

-- Plücker's relation, by signs
first_not_left : (a b c d e f : ℤ) → a *ℤ b -ℤ c *ℤ d +ℤ e *ℤ f ≡ pos 0 → (c *ℤ d) ≤ℤ pos 0
    → pos 0 ≤ℤ (e *ℤ f) → (a *ℤ b) ≤ℤ pos 0
first_not_left a b c d e f s h k = omega (arith, ints)

first_not_right : (a b c d e f : ℤ) → a *ℤ b -ℤ c *ℤ d +ℤ e *ℤ f ≡ pos 0 → pos 0 ≤ℤ (c *ℤ d)
    → (e *ℤ f) ≤ℤ pos 0 → pos 0 ≤ℤ (a *ℤ b)
first_not_right a b c d e f s h k = omega (arith, ints)

nonpos_product : {a b : ℤ} → a ≤ℤ pos 0 → pos 0 ≤ℤ b → (a *ℤ b) ≤ℤ pos 0
nonpos_product {a} {b} h k = rw (*ℤ_comm b a) at (mul-nonpos_of_nonneg_nonpos_ℤ k h)

three_none : (s a b c : ℤ) → s ≡ pos 0 → s ≡ a +ℤ b +ℤ c → a ≤ℤ pos 0 → b ≤ℤ pos 0
    → c ≤ℤ pos 0 → a ≡ pos 0
three_none s a b c z e h k l = omega (arith, ints)

-- a point on the line of a and c, seen from b strictly between the two, is strictly between them
pub on_side : (a b c q : Point) → pos 0 <ℤ bracket (lift b) (lift c) (lift q)
    → bracket (lift c) (lift a) (lift q) ≡ pos 0 → pos 0 <ℤ bracket (lift a) (lift b) (lift q)
    → WithinSegment (whole a) (whole c) (whole q)
on_side a b c q bc ca ab = mean_of_two IsPositive _ _ _ (record {
  k = bracket (lift b) (lift c) (lift q);
  l = bracket (lift a) (lift b) (lift q);
  n = bracket (lift a) (lift b) (lift c);
  k_allowed = bc;
  l_allowed = ab;
  positive = omega (arith, ints, bracket-sum a b c q);
  x = let z = product_zero_left b.x ca in
      omega (arith, ints, cramer_x (lift a) (lift b) (lift c) (lift q));
  y = let z = product_zero_left b.y ca in
      omega (arith, ints, cramer_y (lift a) (lift b) (lift c) (lift q));
  w = let z = product_zero_left (pos 1) ca in
      omega (arith, ints, cramer_w (lift a) (lift b) (lift c) (lift q));
})

-- the weight of the last end, where the other two leave less than all
last_weight : (d s k l : ℤ) → d *ℤ pos 1 ≡ s *ℤ pos 1 +ℤ l *ℤ pos 1 +ℤ k *ℤ pos 1 → s ≤ℤ pos 0
    → l ≡ pos 0 → pos 0 <ℤ d → pos 0 <ℤ k
last_weight d s k l e h z p = omega (arith, ints)

-- two numbers with positive factors that make them one have one sign
same_sign : {x y n l : ℤ} → n *ℤ x ≡ l *ℤ y → pos 0 <ℤ n → pos 0 <ℤ l
    → (pos 0 <ℤ x) ↔ (pos 0 <ℤ y)
same_sign e hn hl = (
  (λ s. pos_of_mul-pos_ℤ hl (rw e at (mul-pos_ℤ hn s))),
  (λ s. pos_of_mul-pos_ℤ hn (rw e (mul-pos_ℤ hl s))),
)

-- where b is strictly within a c, a point is left of a c if it is left of either half
pub halves : (a b c q : Point) → WithinSegment (whole a) (whole c) (whole b) →
    ((pos 0 <ℤ bracket (lift a) (lift b) (lift q)) ↔ (pos 0 <ℤ bracket (lift a) (lift c) (lift q)))
    × ((pos 0 <ℤ bracket (lift b) (lift c) (lift q)) ↔ (pos 0 <ℤ bracket (lift a) (lift c)
    (lift q)))
halves a b c q h = let t = two_weights IsPositive _ _ _ h in (
  same_sign (rw (bracket-turn (lift q) (lift a) (lift b), bracket-turn (lift q) (lift a) (lift c))
      at (drop_zero _ _ _ (E.mean_bracket IsPositive q a a c _ t)
      (zero-mul_ℤ t.k (bracket-last _ _)))) t.positive t.l_allowed,
  same_sign (rw (bracket-turn (lift b) (lift c) (lift q), bracket-turn (lift a) (lift c) (lift q))
      (drop_zero_last _ _ _ (E.mean_bracket IsPositive c q a c _ t)
      (zero-mul_ℤ t.l (bracket-outer _ _)))) t.positive t.k_allowed,
)

-- so it is left of both or of neither
seen_on : (a b c q : Point) → WithinSegment (whole a) (whole c) (whole b)
    → pos 0 <ℤ bracket (lift a) (lift b) (lift q) → pos 0 <ℤ bracket (lift b) (lift c) (lift q)
seen_on a b c q h s = let t = halves a b c q h in t.1.1 (t.0.0 s)

seen_before : (a b c q : Point) → WithinSegment (whole a) (whole c) (whole b)
    → pos 0 <ℤ bracket (lift b) (lift c) (lift q) → pos 0 <ℤ bracket (lift a) (lift b) (lift q)
seen_before a b c q h s = let t = halves a b c q h in t.0.1 (t.1.0 s)

-- outer edges that see the point of index n, one after another
abbrev pub IsRun : ℕ → (ℕ → Point) → List (ℕ × ℕ) → ℕ → List ℕ → Type 0
IsRun n p outer u [] = Unit {0}
IsRun n p outer u (v ∷ vs) =
    Contains outer (u, v) × (pos 0 <ℤ bracket (at p u) (at p v) (at p n)) × IsRun n p outer v vs

module _ (n : ℕ) (p : ℕ → Point) (faces : List Face) (outer : List (ℕ × ℕ))
    (m : SignMesh n p faces outer) where
  -- three vertices of one line: one is strictly between the others
  one_between : (u v z : ℕ) → u < n → v < n → z < n → u ≢ v → z ≢ u → z ≢ v
      → bracket (at p u) (at p v) (at p z) ≡ pos 0
      → WithinSegment (whole (p u)) (whole (p v)) (whole (p z)) ⊎ (WithinSegment (whole (p u))
      (whole (p z)) (whole (p v)) ⊎ WithinSegment (whole (p z)) (whole (p v)) (whole (p u)))
  one_between u v z hu hv hz uv zu zv on = go (trichotomy_ℤ _) (lt_or_ge_ℤ _ _)
    where
      apart : ¬ (p u ≡ p v)
      apart = m.distinct u v hu hv uv

      on_u : bracket (at p u) (at p v) (at p u) ≡ pos 0
      on_u = bracket-outer _ _

      on_v : bracket (at p u) (at p v) (at p v) ≡ pos 0
      on_v = bracket-last _ _

      start : place_on (p u) (p v) (at p u) ≡ pos 0
      start = place_of_start _ _

      end : pos 0 <ℤ place_on (p u) (p v) (at p v)
      end = place_of_end _ _ apart

      go : (place_on (p u) (p v) (at p z) <ℤ pos 0)
          ⊎ ((place_on (p u) (p v) (at p z) ≡ pos 0) ⊎ (pos 0 <ℤ place_on (p u) (p v) (at p z)))
          → (place_on (p u) (p v) (at p z) <ℤ place_on (p u) (p v) (at p v))
          ⊎ (place_on (p u) (p v) (at p v) ≤ℤ place_on (p u) (p v) (at p z))
          → WithinSegment (whole (p u)) (whole (p v)) (whole (p z)) ⊎ (WithinSegment (whole (p u))
          (whole (p z)) (whole (p v)) ⊎ WithinSegment (whole (p z)) (whole (p v)) (whole (p u)))
      go (inl h) k = inr (inr (within_by_places _ _ apart _ _ _ on on_u on_v (rw start h)
          (rw start end)))
      go (inr (inl h)) k = absurd (m.distinct z u hz hu zu
          (same_by_places _ _ apart _ _ on on_u (h ∙ sym start)))
      go (inr (inr h)) (inl k) = inl (within_by_places _ _ apart _ _ _ on_u on on_v (rw start h) k)
      go (inr (inr h)) (inr k) = inr (inl (within_by_places _ _ apart _ _ _ on_u on_v on
          (rw start end) (less_if_not_same _ _ k
          (λ e. m.distinct z v hz hv zv (same_by_places _ _ apart _ _ on on_v (sym e))))))

  -- not all vertices are on the line of two
  not_all_on : (u v : ℕ) → u < n → v < n → u ≢ v
      → ((k : ℕ) → k < n → bracket (at p u) (at p v) (at p k) ≡ pos 0) → ⊥
  not_all_on u v hu hv uv all =
      let f = m.some_face.0 in
      let c = m.corners f m.some_face.1 in
      m.distinct u v hu hv uv (not_on_line _ _ _ _ _
      (m.turning f m.some_face.1) (all f.a c.0) (all f.b c.1) (all f.c c.2))

  -- an index is left by one outer edge at most
  pub next_unique : (u v w : ℕ) → Contains outer (u, v) → Contains outer (u, w) → v ≡ w
  next_unique u v w a b = elim (cases_eq v w) [
    | inl e ↦ e
    | inr ne ↦ elim (one_between u v w first.0 first.1 second.1 first.2
        (λ e. second.2 (sym e)) (λ e. ne (sym e)) flat) [
          | inl h ↦ absurd (m.bare (u, v) a w second.1 h)
          | inr r ↦
              elim r [ inl h ↦ absurd (m.bare (u, w) b v first.1 h) | inr h ↦ absurd (between h) ]
        ]
  ]
    where
      first : (u < n) × (v < n) × (u ≢ v)
      first = m.ends (u, v) a

      second : (u < n) × (w < n) × (u ≢ w)
      second = m.ends (u, w) b

      flat : bracket (at p u) (at p v) (at p w) ≡ pos 0
      flat = between_zero (m.supporting (u, v) a w second.1)
          (negated_below (bracket-turn _ _ _ ∙ bracket-swap _ _ _ ∙ ap neg_ℤ
          (bracket-turn _ _ _ ∙ bracket-turn _ _ _ ∙ refl)) (m.supporting (u, w) b v first.1))

      between : WithinSegment (whole (p w)) (whole (p v)) (whole (p u)) → ⊥
      between h = not_all_on u v first.0 first.1 first.2 (λ k l. between_zero
          (m.supporting (u, v) a k l) (negated_below (bracket-swap _ _ _)
          (at_most_if_not_less _ _ (λ s. left_not_below (seen_on _ _ _ _ (within_turned _ _ _ h) s)
          (m.supporting (u, w) b k l)))))

  -- two outer edges after one another on one line go on straight
  straight_on : (t u v : ℕ) → Contains outer (t, u) → Contains outer (u, v) → bracket (at p u)
      (at p t) (at p v) ≡ pos 0 → WithinSegment (whole (p t)) (whole (p v)) (whole (p u))
  straight_on t u v a b flat = elim (cases_eq t v) [
    | inl e ↦ absurd (C.no_outer_back n p _ _ m u v b (rw e at a))
    | inr ne ↦ elim (one_between u t v second.0 first.0 second.1 (λ e. first.2 (sym e))
        (λ e. second.2 (sym e)) (λ e. ne (sym e)) flat) [
          | inl h ↦ absurd (m.bare (t, u) a v second.1 (within_turned _ _ _ h))
          | inr r ↦ elim r
              [ inl h ↦ absurd (m.bare (u, v) b t first.0 h) | inr h ↦ within_turned _ _ _ h ]
        ]
  ]
    where
      first : (t < n) × (u < n) × (t ≢ u)
      first = m.ends (t, u) a

      second : (u < n) × (v < n) × (u ≢ v)
      second = m.ends (u, v) b

  -- ---- n is a new point, q below, or q is any point
  -- the way from u to v has q on its left
  abbrev Sees : ℕ → ℕ → Type 0
  Sees u v = pos 0 <ℤ bracket (at p u) (at p v) (at p n)

  back_weak : (u t k : Vec3) → bracket u t k ≤ℤ pos 0 → pos 0 ≤ℤ bracket t u k
  back_weak u t k h = negated_below (bracket-swap t u k) h

  -- the line from the first seen edge's start to q supports all vertices
  pub start_supports : (q : Point) (t u v : ℕ) → Contains outer (t, u) → Contains outer (u, v)
      → bracket (at p t) (at p u) (lift q) ≤ℤ pos 0 → pos 0 <ℤ bracket (at p u) (at p v) (lift q)
      → (z : ℕ) → z < n → bracket (at p u) (lift q) (at p z) ≤ℤ pos 0
  start_supports q t u v a b blind sees z h = elim (zero_or_left
      (back_weak (at p t) (at p u) (at p v) (m.supporting (t, u) a v (m.ends (u, v) b).1))) [
        | inl e ↦ absurd (left_not_below
            (seen_before _ _ _ q (straight_on t u v a b e) sees) blind)
        | inr l ↦ not_left_of_product l (first_not_left (bracket (at p u) (at p t) (at p v)) _
            (bracket (at p u) (at p t) (lift q)) _ (bracket (at p u) (at p t) (at p z)) _
            (pluecker _ _ _ _ _) (mul-nonpos_of_nonneg_nonpos_ℤ (back_weak _ _ _ blind)
            (m.supporting (u, v) b z h))
            (mul-nonneg_ℤ (back_weak _ _ _ (m.supporting (t, u) a z h)) (weak sees)))
      ]

  -- and the line from q to the last seen edge's end
  pub end_supports : (q : Point) (u v w : ℕ) → Contains outer (u, v) → Contains outer (v, w)
      → pos 0 <ℤ bracket (at p u) (at p v) (lift q) → bracket (at p v) (at p w) (lift q) ≤ℤ pos 0
      → (z : ℕ) → z < n → bracket (lift q) (at p v) (at p z) ≤ℤ pos 0
  end_supports q u v w a b sees blind z h = elim (zero_or_left
      (back_weak (at p u) (at p v) (at p w) (m.supporting (u, v) a w (m.ends (v, w) b).1))) [
        | inl e ↦ absurd (left_not_below (seen_on _ _ _ q (straight_on u v w a b e) sees) blind)
        | inr l ↦ opposite_not_positive (bracket-swap _ _ _)
            (nonneg_of_mul-nonneg_ℤ l (subst (λ y. pos 0 ≤ℤ y)
            (*ℤ_comm _ (bracket (at p v) (at p u) (at p w)))
            (first_not_right (bracket (at p v) (lift q) (at p z)) _
            (bracket (at p v) (lift q) (at p u)) _ (bracket (at p v) (lift q) (at p w)) _
            (pluecker _ _ _ _ _) (mul-nonneg_ℤ (weak to_q)
            (swapped_weak _ _ _ (m.supporting (v, w) b z h)))
            (mul-nonpos_of_nonneg_nonpos_ℤ (swapped_weak _ _ _ blind)
            (subst (λ y. y ≤ℤ pos 0) (sym (bracket-turn _ _ _ ∙ bracket-turn _ _ _))
            (m.supporting (u, v) a z h))))))
      ]
    where
      to_q : pos 0 <ℤ bracket (at p v) (lift q) (at p u)
      to_q = rw bracket-turn at sees

      swapped_weak : (x y z : Vec3) → bracket x y z ≤ℤ pos 0 → pos 0 ≤ℤ bracket x z y
      swapped_weak x y z k =
          negated_below (bracket-turn x z y ∙ bracket-turn z y x ∙ bracket-swap y x z) k

  -- ---- one seen edge, and another from s that q sees, with s in the angle from q to the first
  module _ (u v s r : ℕ) (own : Contains outer (u, v)) (other : Contains outer (s, r))
      (sees : Sees u v) (sees_other : Sees s r) where
    index : (u < n) × (v < n) × (u ≢ v)
    index = m.ends (u, v) own

    index_other : (s < n) × (r < n) × (s ≢ r)
    index_other = m.ends (s, r) other

    -- q, u and v turn left
    seen : pos 0 <ℤ bracket (at p n) (at p u) (at p v)
    seen = subst (λ z. pos 0 <ℤ z) (bracket-turn _ _ _ ∙ bracket-turn _ _ _) sees

    in_angle : pos 0 ≤ℤ bracket (at p n) (at p u) (at p s)
        → pos 0 <ℤ bracket (at p v) (at p n) (at p s) → ◌≡◌ {A = ℕ × ℕ} (u, v) (s, r)
    in_angle from_u to_v = elim (zero_or_left from_u) [
      | inl e ↦ (λ i. (sym (at_u e) i, next_unique u v r own (rw (at_u e) at other) i))
      | inr l ↦ absurd (m.bare (u, v) own s index_other.0
          (within_turned _ _ _ (on_side _ (p n) _ _ l flat to_v)))
    ]
      where
        flat : bracket (at p u) (at p v) (at p s) ≡ pos 0
        flat = zero_of_mul-zero_ℤ (pos-ne-zero_ℤ sees_other)
            (*ℤ_comm (bracket (at p s) (at p r) (at p n)) _ ∙ three_none _ _ _ _
            (zero-mul_ℤ _ (bracket-outer _ _)) (cramer _ _ _ _ _ _)
            (nonpos_product (m.supporting (u, v) own s index_other.0) (weak sees_other))
            (mul-nonpos_of_nonneg_nonpos_ℤ (weak to_v) (m.supporting (s, r) other u index.0))
            (mul-nonpos_of_nonneg_nonpos_ℤ from_u (m.supporting (s, r) other v index.1)))

        -- s is on no way from q to u but at u
        at_u : bracket (at p n) (at p u) (at p s) ≡ pos 0 → s ≡ u
        at_u e = elim (cases_eq s u) [
          | inl d ↦ d
          | inr d ↦ absurd (m.distinct s u index_other.0 index.0 d
              (not_on_line _ _ _ _ _ seen
              (bracket-swap _ _ _ ∙ ap neg_ℤ (sym (bracket-turn _ _ _) ∙ e)) (bracket-last _ _)
              (sym (bracket-turn _ _ _ ∙ bracket-turn _ _ _) ∙ flat)))
        ]

    -- s is not on the line from q to the run's end
    not_at_end : pos 0 ≤ℤ bracket (at p n) (at p u) (at p s) → bracket (at p v) (at p n) (at p s)
        ≡ pos 0 → ((z : ℕ) → z < n → bracket (at p n) (at p v) (at p z) ≤ℤ pos 0) → ⊥
    not_at_end from_u level ends =
        let K = last_weight _ _ _ _ (cramer_w _ _ _ _)
        (m.supporting (u, v) own s index_other.0) level seen in
        left_not_below (mul-pos_ℤ seen
        (rw bracket-turn at sees_other))
        (subst (λ z. z ≤ℤ pos 0)
        (sym (last_of_three _ _ _ _ (cramer _ _ _ _ _ _) (zero-mul_ℤ _ (bracket-last _ _))
        (product_zero_left _ level)))
        (mul-nonpos_of_nonneg_nonpos_ℤ (weak K) (subst (λ z. z ≤ℤ pos 0)
        (sym (bracket-turn _ _ _)) (ends r index_other.1))))

  -- ---- a run of seen outer edges, from u through the indexes of a list
  -- each outer edge that q sees is of the run, if the lines from q to the run's ends support all
  -- vertices
  pub seen_in_run : (s r : ℕ) → Contains outer (s, r) → Sees s r → (u v : ℕ) (vs : List ℕ)
      → IsRun n p outer u (v ∷ vs) → pos 0 ≤ℤ bracket (at p n) (at p u) (at p s)
      → ((z : ℕ) → z < n → bracket (at p n) (at p (last_of v vs)) (at p z) ≤ℤ pos 0)
      → Contains (steps u (v ∷ vs)) (s, r)
  seen_in_run s r other sees_other u v [] run from_u ends = elim (zero_or_left
      (back_weak (at p n) (at p v) (at p s) (ends s (m.ends (s, r) other).0))) [
        | inl e ↦ absurd (not_at_end u v s r run.0 other run.1 sees_other from_u e ends)
        | inr l ↦ (0, omega arith, in_angle u v s r run.0 other run.1 sees_other from_u l)
      ]
  seen_in_run s r other sees_other u v (w ∷ vs) run from_u ends =
      elim (lt_or_ge_ℤ (bracket (at p n) (at p v) (at p s)) (pos 0)) [
        | inl l ↦ (
          0,
          omega arith,
          in_angle u v s r run.0 other run.1 sees_other from_u
              (subst (λ z. pos 0 <ℤ z) (sym (bracket-swap _ _ _)) (neg-pos_ℤ l)),
        )
        | inr l ↦ Contains-later (u, v) (steps v (w ∷ vs)) (s, r)
            (seen_in_run s r other sees_other v w vs run.2 l ends)
      ]

-- ---- not all of an outer loop sees q
four_around : (k : ℤ) (q a b x y z : Vec3) → bracket q x y *ℤ
    (k *ℤ z.w -ℤ bracket a b z) -ℤ bracket q x z *ℤ (k *ℤ y.w -ℤ bracket a b y) +ℤ bracket q y z *ℤ
    (k *ℤ x.w -ℤ bracket a b x) -ℤ bracket x y z *ℤ (k *ℤ q.w -ℤ bracket a b q) ≡ pos 0
unfolding bracket
four_around k q a b x y z = ring_over vec3 (k ∷ []) (q ∷ a ∷ b ∷ x ∷ y ∷ z ∷ [])
    (λ k q a b x y z. bracketᵖ q x y ⊗ (k ⊗ z.w ⊖ bracketᵖ a b z) ⊖ bracketᵖ q x z ⊗
    (k ⊗ y.w ⊖ bracketᵖ a b y) ⊕ bracketᵖ q y z ⊗ (k ⊗ x.w ⊖ bracketᵖ a b x) ⊖ bracketᵖ x y z ⊗
    (k ⊗ q.w ⊖ bracketᵖ a b q)) (λ k q a b x y z. num 0) tt

farther : (k d : ℤ) → pos 0 <ℤ k → d ≤ℤ pos 0 → pos 0 <ℤ (k *ℤ pos 1 -ℤ d)
farther k d h e = omega (arith, ints)

middle_left : (a b c d s : ℤ) → a -ℤ b +ℤ c -ℤ d ≡ pos 0 → pos 0 <ℤ a → pos 0 <ℤ c
    → d ≡ pos 0 → pos 0 <ℤ b
middle_left a b c d s e h k z = omega (arith, ints)

-- a positive product with a positive second factor
pub factor_left : {a b : ℤ} → pos 0 <ℤ b → pos 0 <ℤ (a *ℤ b) → pos 0 <ℤ a
factor_left {a} {b} h e = pos_of_mul-pos_ℤ h (rw (*ℤ_comm a b) at e)

module _ (n : ℕ) (p : ℕ → Point) (faces : List Face) (outer : List (ℕ × ℕ))
    (m : SignMesh n p faces outer) where
  -- round q, each end of a run is left of its start
  module _ (u v : ℕ) (own : Contains outer (u, v))
      (sees : pos 0 <ℤ bracket (at p u) (at p v) (at p n)) where
    abbrev kappa : ℕ → ℤ
    kappa z = bracket (at p u) (at p v) (at p n) *ℤ pos 1 -ℤ bracket (at p u) (at p v) (at p z)

    kappa_left : (z : ℕ) → z < n → pos 0 <ℤ kappa z
    kappa_left z h = farther _ _ sees (m.supporting (u, v) own z h)

    next_left : (x y : ℕ) → x < n → y < n → pos 0 <ℤ bracket (at p n) (at p u) (at p x)
        → pos 0 <ℤ bracket (at p x) (at p y) (at p n) → pos 0 <ℤ bracket (at p n) (at p u) (at p y)
    next_left x y hx hy left sees_xy = factor_left (kappa_left x hx)
        (middle_left _ _ _ _ (pos 0) (four_around (bracket (at p u) (at p v) (at p n)) (at p n)
        (at p u) (at p v) (at p u) (at p x) (at p y)) (mul-pos_ℤ left (kappa_left y hy))
        (mul-pos_ℤ (subst (λ z. pos 0 <ℤ z) (bracket-turn _ _ _ ∙ bracket-turn _ _ _) sees_xy)
        (kappa_left u (m.ends (u, v) own).0)) (zero-mul_ℤ (bracket (at p u) (at p x) (at p y))
        (omega (arith, ints))))

    stays_left : (x : ℕ) (ws : List ℕ) → x < n → IsRun n p outer x ws
        → pos 0 <ℤ bracket (at p n) (at p u) (at p x)
        → pos 0 <ℤ bracket (at p n) (at p u) (at p (last_of x ws))
    stays_left x [] h run left = left
    stays_left x (w ∷ ws) h run left = stays_left w ws (m.ends (x, w) run.0).1 run.2
        (next_left x w h (m.ends (x, w) run.0).1 left run.1)

  -- so a run of seen edges never comes back to its start
  pub run_is_open : (u v : ℕ) (vs : List ℕ) → IsRun n p outer u (v ∷ vs)
      → ¬ (last_of v vs ≡ u)
  run_is_open u v vs run e = left_not_zero (stays_left u v run.0 run.1 v vs (m.ends (u, v) run.0).1
      run.2 (subst (λ z. pos 0 <ℤ z) (bracket-turn _ _ _ ∙ bracket-turn _ _ _) run.1))
      (ap (λ i. bracket (at p n) (at p u) (at p i)) e ∙ bracket-last _ _)
