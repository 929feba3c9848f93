-- A vertex off the line of all others: with a face on each edge of the line, the mesh is local.
-- Notions: both_ways_cancel; spot (places along the line), stands, goes_on (a vertex is on the
-- path); seen_is_step; `raised`.
use Rattle.std.proofs.Common.{◌≡◌, ◌⊎◌, ◌<◌, [], ◌∷◌, ◌∙◌, ℕ, suc, List, map, refl, sym, ap, subst}
use Rattle.std.proofs.Common.{arith}
use mathlib.Core.Logic.{inl, inr}
use Rattle.std.specs.Prelude.{ℤ, pos, ◌+ℤ◌, ◌-ℤ◌, ◌*ℤ◌, ◌≤ℤ◌, ◌<ℤ◌, neg_ℤ, Contains}
use Rattle.std.proofs.lemmas.Int.{ints}
use Rattle.plane.specs.{Face, face, IsPositive, Point, whole, WithinSegment}
use Rattle.plane.proofs.{◌⊕◌, ◌⊖◌, ◌⊗◌, at_most_both_ways, at_most_itself, below_or_last, bracket}
use Rattle.plane.proofs.{bracket-swap, bracket-turn, bracketᵖ, difference_is_positive}
use Rattle.plane.proofs.{difference_not_negative, distinct_with_next, IsBetween, IsFresh}
use Rattle.plane.proofs.{left_not_below, left_not_zero, less_by_difference, LieOnLine, lift, liftᵖ}
use Rattle.plane.proofs.{lt_or_ge_ℤ, mul-nonneg_ℤ, mul-pos_ℤ, nonneg_of_mul-nonneg_ℤ, num}
use Rattle.plane.proofs.{place_of_end, place_on, place_within, points, Pointᵖ, Poly}
use Rattle.plane.proofs.{pos_of_mul-pos_ℤ, product_zero_left, ring_over, sum_of_zeros, two_weights}
use Rattle.plane.proofs.{weak, within_places, zero-mul_ℤ, zero_weak}
use Rattle.plane.proofs.Signs.{opposite_not_positive}
use Rattle.plane_theorems.specs.{along, FacesChange, fan, IsAntisymmetric, last_of, OuterChange}
use Rattle.plane_theorems.specs.{steps, total}
use Rattle.plane_theorems.proofs.Edits.Insertion.Extension.{AreOpen, AreSeen, fan_total, fan_turns}
use Rattle.plane_theorems.proofs.Edits.Insertion.Extension.{last_step, run_up_to, steps_once}
use Rattle.plane_theorems.proofs.Edits.Insertion.Extension.{unseen}
use Rattle.plane_theorems.proofs.Edits.Insertion.Hull.{factor_left, IsRun}
use Rattle.plane_theorems.proofs.Edits.LocalMesh.Additions.{IsBareOfOld, lives_below, LivesUpTo}
use Rattle.plane_theorems.proofs.Edits.LocalMesh.Additions.{new_edges, new_edges_owe, SupportsOld}
use Rattle.plane_theorems.proofs.Edits.LocalMesh.Changes.{face_from, from_map, IsOnce, mapped}
use Rattle.plane_theorems.proofs.Edits.LocalMesh.Changes.{once_under_map, same_total, to_each}
use Rattle.plane_theorems.proofs.Edits.LocalMesh.Changes.{to_once, total_map}
use Rattle.plane_theorems.proofs.Edits.LocalMesh.Exchange.{all_turn, exchanged, IsBorder, IsTouched}
use Rattle.plane_theorems.proofs.Edits.LocalMesh.Exchange.{IsUsed, some_made, to_signs}
use Rattle.plane_theorems.proofs.Tiling.Counting.{at, same_place, SignMesh, within_turned}
use Rattle.plane_theorems.proofs.{Tiling.Flows.no_turn, Tiling.LinePlaces.none_between_places}
use Rattle.plane_theorems.proofs.Tiling.Line.{Adjoin, back_way, SignLine}
use Rattle.plane_theorems.proofs.Tiling.LinePlaces.{ArePlaces, nearest_below, next_below}
use Rattle.plane_theorems.proofs.Tiling.Totals.{Contains-cases, Contains-later, Contains-none}
use Rattle.plane_theorems.proofs.Tiling.Edges as E

-- ---- turns towards q, by places on the line of a and b
abbrev placeᵖ : Pointᵖ → Pointᵖ → Pointᵖ → Poly
placeᵖ u v z = (v.x ⊖ u.x) ⊗ (z.x ⊖ num 1 ⊗ u.x) ⊕ (v.y ⊖ u.y) ⊗ (z.y ⊖ num 1 ⊗ u.y)

turn_by_places : (a b i j q : Point) → place_on a b (lift b) *ℤ bracket (lift i) (lift j) (lift q)
    ≡ (place_on a b (lift j) -ℤ place_on a b (lift i)) *ℤ bracket (lift a) (lift b) (lift q)
    -ℤ bracket (lift a) (lift b) (lift j) *ℤ (place_on a b (lift q) -ℤ place_on a b (lift i))
    +ℤ bracket (lift a) (lift b) (lift i) *ℤ (place_on a b (lift q) -ℤ place_on a b (lift j))
unfolding place_on bracket
turn_by_places a b i j q = ring_over points [] (a ∷ b ∷ i ∷ j ∷ q ∷ [])
    (λ a b i j q. placeᵖ a b b ⊗ bracketᵖ (liftᵖ i) (liftᵖ j) (liftᵖ q))
    (λ a b i j q. ((placeᵖ a b j ⊖ placeᵖ a b i) ⊗ bracketᵖ (liftᵖ a) (liftᵖ b) (liftᵖ q)
    ⊖ bracketᵖ (liftᵖ a) (liftᵖ b) (liftᵖ j) ⊗ (placeᵖ a b q ⊖ placeᵖ a b i))
    ⊕ bracketᵖ (liftᵖ a) (liftᵖ b) (liftᵖ i) ⊗ (placeᵖ a b q ⊖ placeᵖ a b j)) tt

two_none : (s d e g : ℤ) → s ≡ d -ℤ e +ℤ g → e ≡ pos 0 → g ≡ pos 0 → s ≡ d
two_none s d e g h k l = omega (arith, ints)

-- places along a line, seen from its other end
pub places_back : (n : ℕ) (p : ℕ → Point) (f : ℕ → ℤ) → ArePlaces n p f
    → ArePlaces n p (λ k. neg_ℤ (f k))
places_back n p f q = record {
  same = λ i j h k e. q.same i j h k (omega (arith, ints));
  within = λ i j k h l g a b. within_turned _ _ _
      (q.within j i k l h g (omega (arith, ints)) (omega (arith, ints)));
  order = λ i j k w. elim (q.order i j k w) [
    | inl o ↦ inr (inl (let a = o.0 in let b = o.1 in (omega (arith, ints), omega (arith, ints))))
    | inr r ↦ elim r [
      | inl o ↦ inl (let a = o.0 in let b = o.1 in (omega (arith, ints), omega (arith, ints)))
      | inr o ↦ inr (inr (ap neg_ℤ o.0, ap neg_ℤ o.1))
    ]
  ];
}

-- ---- the two ways of each pair cancel out
abbrev back_of : ℕ × ℕ → ℕ × ℕ
back_of e = (e.1, e.0)

total_back : (flow : ℕ → ℕ → ℤ) → IsAntisymmetric flow → (es : List (ℕ × ℕ))
    → total (λ e. along flow (back_of e)) es ≡ neg_ℤ (total (along flow) es)
total_back flow anti [] = refl
total_back flow anti (e ∷ es) = omega (arith, ints, anti e.1 e.0, total_back flow anti es)

both_ways_cancel : (flow : ℕ → ℕ → ℤ) → IsAntisymmetric flow → (es : List (ℕ × ℕ)) → IsOnce es
    → ((i j : ℕ) → Contains es (i, j) → Contains es (j, i)) → total (along flow) es ≡ pos 0
both_ways_cancel flow anti es once back =
    let same = same_total (along flow) es (map back_of es) once
    (once_under_map back_of es once (λ a b _ _ e. ap back_of e))
    (λ e h. mapped back_of es (e.1, e.0) (back e.0 e.1 h))
    (λ e h. let r = from_map back_of es e h in subst (Contains es) r.2 (back r.0.0 r.0.1 r.1)) in
    omega (arith, ints, same, total_map back_of (along flow) es, total_back flow anti es)

module _ (n : ℕ) (p : ℕ → Point) (outer now : List (ℕ × ℕ)) (new : List Face)
    (m : SignLine n p outer) (u v : ℕ) (vs : List ℕ) (run : IsRun n p outer u (v ∷ vs)) where
  first : Adjoin n p u v
  first = (m.neighbours u v).0 run.0

  final : (a : ℕ) × Contains outer (a, last_of v vs) × (pos 0 <ℤ bracket (at p a)
      (at p (last_of v vs)) (at p n)) × Contains (steps u (v ∷ vs)) (a, last_of v vs)
  final = last_step n p _ u v vs run

  final_index : last_of v vs < n
  final_index = ((m.neighbours final.0 _).0 final.1).second

  apart : ¬ (p u ≡ p v)
  apart = m.distinct u v first.first first.second first.apart

  -- each vertex is on the line of u and v
  on : LieOnLine n p (p u) (p v)
  on k h = m.straight u v k first.first first.second h

  -- how far along the line from u to v a vertex lies
  abbrev spot : ℕ → ℤ
  spot k = place_on (p u) (p v) (at p k)

  -- v has a place above 0 on it, seen from u
  long : pos 0 <ℤ place_on (p u) (p v) (at p v)
  long = place_of_end _ _ apart

  -- the side of the new vertex, by places
  by_places : (i j : ℕ) → i < n → j < n → place_on (p u) (p v) (at p v) *ℤ bracket (at p i) (at p j)
      (at p n) ≡ (spot j -ℤ spot i) *ℤ bracket (at p u) (at p v) (at p n)
  by_places i j hi hj = two_none _ ((spot j -ℤ spot i) *ℤ bracket (at p u) (at p v) (at p n)) _ _
      (turn_by_places _ _ _ _ _) (product_zero_left _ (on j hj)) (product_zero_left _ (on i hi))

  seen_rises : (i j : ℕ) → i < n → j < n → pos 0 <ℤ bracket (at p i) (at p j) (at p n)
      → spot i <ℤ spot j
  seen_rises i j hi hj h = less_by_difference _ _ (factor_left {a = spot j -ℤ spot i}
      run.1 (rw (by_places i j hi hj) at (mul-pos_ℤ long h)))

  rising_seen : (i j : ℕ) → i < n → j < n → spot i <ℤ spot j
      → pos 0 <ℤ bracket (at p i) (at p j) (at p n)
  rising_seen i j hi hj h = pos_of_mul-pos_ℤ long (rw (by_places i j hi hj)
      (mul-pos_ℤ (difference_is_positive _ _ h) run.1))

  level_or_rising : (i j : ℕ) → i < n → j < n → spot i ≤ℤ spot j
      → pos 0 ≤ℤ bracket (at p i) (at p j) (at p n)
  level_or_rising i j hi hj h = nonneg_of_mul-nonneg_ℤ long
      (rw (by_places i j hi hj) (mul-nonneg_ℤ (difference_not_negative _ _ h) (weak run.1)))

  places : ArePlaces n p spot
  places = record {
    same = λ i j hi hj e. same_place n p m.distinct _ _ apart i j hi hj (on i hi) (on j hj) e;
    within = λ i j k hi hj hk a b. within_places _ _ apart _ _ _
        (on i hi) (on j hj) (on k hk) (inl (a, b));
    order = λ i j k w. in_order _ _ _ (place_within _ _ _ _ _ w);
  }
    where
      in_order : (a b c : ℤ) → IsBetween a b c ⊎ ((a ≡ c) × (c ≡ b))
          → ((a <ℤ c) × (c <ℤ b)) ⊎ (((b <ℤ c) × (c <ℤ a)) ⊎ ((a ≡ c) × (c ≡ b)))
      in_order a b c (inl (inl o)) = inl o
      in_order a b c (inl (inr o)) = inr (inl o)
      in_order a b c (inr e) = inr (inr e)

  no_step : {x y : ℤ} → x <ℤ y → y ≤ℤ x → ⊥
  no_step h k = omega (arith, ints)

  rises : (x y : ℕ) → Contains outer (x, y) → pos 0 <ℤ bracket (at p x) (at p y) (at p n)
      → spot x <ℤ spot y
  rises x y h s = let a = (m.neighbours x y).0 h in seen_rises x y a.first a.second s

  -- each vertex before the last, from x on, is the start of a step
  goes_on : (x : ℕ) (ys : List ℕ) → x < n → IsRun n p outer x ys → (k : ℕ) → k < n
      → spot x ≤ℤ spot k → spot k <ℤ spot (last_of x ys) → (y : ℕ) × Contains (steps x ys) (k, y)
  goes_on x [] hx r k h a b = absurd (no_step b a)
  goes_on x (y ∷ ys) hx r k h a b = elim (lt_or_ge_ℤ (spot k) (spot y)) [
    | inl o ↦ elim (lt_or_ge_ℤ (spot x) (spot k)) [
      | inl q ↦ absurd
          (none_between_places n p spot places x y k ((m.neighbours x y).0 r.0) h q o)
      | inr q ↦ (let e = places.same x k hx h (at_most_both_ways _ _ a q) in
          (y, (0, omega arith, λ i. (e i, y))))
    ]
    | inr o ↦ (let t = goes_on y ys ((m.neighbours x y).0 r.0).second r.2 k h o b in
        (t.0, Contains-later (x, y) (steps y ys) (k, t.0) t.1))
  ]

  -- a path goes on along the line, and so do its steps
  climbs : (x : ℕ) (ys : List ℕ) → IsRun n p outer x ys → (spot x ≤ℤ spot (last_of x ys))
      × ((e : ℕ × ℕ) → Contains (steps x ys) e
      → (spot x ≤ℤ spot e.0) × (spot e.1 ≤ℤ spot (last_of x ys)))
  climbs x [] run = (at_most_itself _, λ e h. absurd (Contains-none e h))
  climbs x (y ∷ ys) run = let up = rises x y run.0 run.1 in let rest = climbs y ys run.2 in (
    omega (arith, ints),
    λ e h. elim (Contains-cases (x, y) (steps y ys) e h) [
      | inl s ↦ subst (λ (z : ℕ × ℕ). (spot x ≤ℤ spot z.0) × (spot z.1 ≤ℤ spot (last_of y ys))) s
          (at_most_itself _, rest.0)
      | inr k ↦ (let t = rest.1 e k in (omega (arith, ints), t.1))
    ],
  )

  fan_at : (x : ℕ) (ys : List ℕ) (s r : ℕ) → Contains (steps x ys) (s, r)
      → Contains (fan n x ys) (face s r n)
  fan_at x [] s r h = absurd (Contains-none (s, r) h)
  fan_at x (y ∷ ys) s r h = elim (Contains-cases (x, y) (steps y ys) (s, r) h) [
    | inl e ↦ subst (λ (d : ℕ × ℕ). Contains (face x y n ∷ fan n y ys) (face d.0 d.1 n)) e
        (0, omega arith, refl)
    | inr k ↦ Contains-later (face x y n) (fan n y ys) (face s r n) (fan_at y ys s r k)
  ]

  runs_open : AreOpen n p outer
  runs_open x y ys r e = no_step (rw e (rises x y r.0 r.1)) (climbs y ys r.2).0

  -- an edge that sees the new vertex and ends where the path starts, or starts where it ends, is
  -- not of the path
  pub before_is_left : (k : ℕ) → Contains outer (k, u) → pos 0 <ℤ bracket (at p k) (at p u) (at p n)
      → ¬ Contains (steps u (v ∷ vs)) (k, u)
  before_is_left k h sees c = no_step (rises k u h sees) ((climbs u (v ∷ vs) run).1 (k, u) c).0

  -- an edge that sees the new vertex and starts where the path ends is not of the path
  pub after_is_left : (k : ℕ) → Contains outer (last_of v vs, k) → pos 0 <ℤ bracket
      (at p (last_of v vs)) (at p k) (at p n) → ¬ Contains (steps u (v ∷ vs)) (last_of v vs, k)
  after_is_left k h sees c = no_step (rises _ k h sees)
      ((climbs u (v ∷ vs) run).1 (last_of v vs, k) c).1

  -- where no outer edge that sees the new vertex ends at the start or starts at the end
  module _ (none_before : (k : ℕ) → Contains outer (k, u) → bracket (at p k) (at p u) (at p n)
      ≤ℤ pos 0) (none_after : (k : ℕ) → Contains outer (last_of v vs, k)
      → bracket (at p (last_of v vs)) (at p k) (at p n) ≤ℤ pos 0) where
    -- the vertices lie from u to the last one
    from_start : (k : ℕ) → k < n → spot u ≤ℤ spot k
    from_start k h = elim (nearest_below spot n (spot u)) [
      | inl s ↦ absurd (left_not_below (rising_seen s.0 u s.1.index first.first s.1.below)
          (none_before s.0 (back_way n p outer m u s.0
          (next_below n p outer m spot places u first.first s.0 s.1))))
      | inr all ↦ all k h
    ]

    to_end : (k : ℕ) → k < n → spot k ≤ℤ spot (last_of v vs)
    to_end k h = elim (nearest_below (λ k. neg_ℤ (spot k)) n (neg_ℤ (spot (last_of v vs)))) [
      | inl s ↦ absurd (left_not_below
          (rising_seen (last_of v vs) s.0 final_index s.1.index (omega (arith, ints, s.1.below)))
          (none_after s.0 (next_below n p outer m (λ k. neg_ℤ (spot k))
          (places_back n p spot places) (last_of v vs) final_index s.0 s.1)))
      | inr all ↦ omega (arith, ints, all k h)
    ]

    -- an edge that sees the new vertex is a step
    seen_is_step : AreSeen n p outer (steps u (v ∷ vs))
    seen_is_step (i, j) h sees =
        let own = (m.neighbours i j).0 h in
        let t = goes_on u (v ∷ vs) first.first run i own.first (from_start i own.first)
        (omega (arith, ints, rises i j h sees, to_end j own.second)) in
        let o = run_up_to n p outer u (v ∷ vs) run i t.0 t.1 in
        let other = (m.neighbours i t.0).0 o.3 in
        rw (go t.0 own other (rises i t.0 o.3 o.4) (lt_or_ge_ℤ (spot t.0) (spot j))
        (lt_or_ge_ℤ (spot j) (spot t.0))) at t.1
      where
        go : (y : ℕ) → Adjoin n p i j → Adjoin n p i y → spot i <ℤ spot y → (spot y <ℤ spot j)
            ⊎ (spot j ≤ℤ spot y) → (spot j <ℤ spot y) ⊎ (spot y ≤ℤ spot j) → y ≡ j
        go y a b r (inl o) q = absurd (none_between_places n p spot places i j y a b.second r o)
        go y a b r (inr o) (inl q) =
            absurd (none_between_places n p spot places i y j b a.second (rises i j h sees) q)
        go y a b r (inr o) (inr q) = places.same y j b.second a.second (at_most_both_ways _ _ q o)

    -- ---- the mesh
    module _ (faces_change : FacesChange [] new [] (fan n u (v ∷ vs))) (outer_change :
        OuterChange outer now (steps u (v ∷ vs)) ((u, n) ∷ (n, last_of v vs) ∷ [])) where
      abbrev last : ℕ
      last = last_of v vs

      fresh : IsFresh n p
      fresh k h e =
          left_not_zero run.1 (ap (λ q. bracket (at p u) (at p v) (lift q)) (sym e) ∙ on k h)

      there : (k : ℕ) → IsUsed (fan n u (v ∷ vs)) k → IsTouched new now k
      there k t = inl (t.0, t.1, faces_change.come k t.0 t.1 t.2)

      -- each vertex, the new one too, is a corner of a face
      used : (k : ℕ) → LivesUpTo n k → IsTouched new now k
      used k (inr e) = there k (subst (IsUsed (fan n u (v ∷ vs))) (sym e)
          (u, v, inr (inl (0, omega arith, refl))))
      used k (inl h) = there k (elim (lt_or_ge_ℤ _ _) [
        | inl l ↦ (let t = goes_on u (v ∷ vs) first.first run k h (from_start k h) l in
            (t.0, n, inl (fan_at u (v ∷ vs) k t.0 t.1)))
        | inr l ↦ subst (IsUsed (fan n u (v ∷ vs)))
            (places.same last k final_index h (at_most_both_ways _ _ l (to_end k h)))
            (n, final.0, inr (inr (fan_at u (v ∷ vs) final.0 last final.3)))
      ])

      first_supports : SupportsOld n p (u, n)
      first_supports k h = opposite_not_positive (bracket-turn _ _ _ ∙ bracket-turn _ _ _
          ∙ bracket-swap _ _ _) (level_or_rising u k first.first h (from_start k h))

      last_supports : SupportsOld n p (n, last_of v vs)
      last_supports k h = opposite_not_positive (bracket-turn _ _ _ ∙ bracket-swap _ _ _)
          (level_or_rising k _ h final_index (to_end k h))

      -- a point strictly within a way to the new vertex is off the line
      first_bare : IsBareOfOld n p (u, n)
      first_bare k h w = left_not_zero (E.within_second _ _ _ _ (within_turned _ _ _ w)
          (rw (bracket-turn _ _ _) run.1)) (on k h)

      last_bare : IsBareOfOld n p (n, last_of v vs)
      last_bare k h w = let c = (m.neighbours final.0 last).0 final.1 in
          left_not_zero (E.within_third _ _ _ _
          (within_turned _ _ _ w) (rw bracket-turn at final.2))
          (m.straight final.0 last k c.first c.second h)

      -- an edge of the line, which does not see the new vertex
      stays : (e : ℕ × ℕ) → Contains outer e → ¬ Contains (steps u (v ∷ vs)) e
          → IsBorder (LivesUpTo n) p e
      stays e h away = record {
        ends = (inl c.first, inl c.second, c.apart);
        supporting = λ k l. elim l [
          | inl x ↦ zero_weak (m.straight e.0 e.1 k c.first c.second x)
          | inr x ↦ rw x (unseen n p _ (steps u (v ∷ vs)) seen_is_step e h away)
        ];
        bare = λ k l w. elim l [
          | inl x ↦ c.none_between k x w
          | inr x ↦ off (subst
              (λ i. WithinSegment (whole (p e.0)) (whole (p e.1)) (whole (p i))) x w)
        ];
      }
        where
          c : Adjoin n p e.0 e.1
          c = (m.neighbours e.0 e.1).0 h

          off : ¬ WithinSegment (whole (p e.0)) (whole (p e.1)) (whole (p n))
          off w =
              let t = two_weights IsPositive _ _ _ w in
              left_not_zero (mul-pos_ℤ t.positive run.1) (E.mean_bracket IsPositive _ _
              _ _ _ t ∙ sum_of_zeros _ _
              (zero-mul_ℤ t.k (on e.0 c.first)) (zero-mul_ℤ t.l (on e.1 c.second)))

      -- the mesh over the line is local
      pub raised : SignMesh (suc n) p new now
      raised = to_signs (LivesUpTo n) (suc n) p new now (λ k h. below_or_last n k h) (lives_below n)
          (exchanged (LivesUpTo n) p [] new [] (fan n u (v ∷ vs)) outer now (steps u (v ∷ vs))
          (new_edges n u last) m.once (λ flow anti. let back = both_ways_cancel flow anti outer
          m.once (back_way n p outer m) in
          omega (arith, ints)) (record {
            faces_change = faces_change;
            outer_change = outer_change;
            distinct = λ i j h k. distinct_with_next n p m.distinct fresh i j (lives_below n i h)
                (lives_below n j k);
            some_face = some_made [] new [] (fan n u (v ∷ vs)) faces_change u
                (v, n, inl (0, omega arith, refl));
            used = used;
            turning = λ i j k h. elim
                (face_from [] new [] (fan n u (v ∷ vs)) faces_change i j k h) [
                  | inl o ↦ absurd (no_turn i j k o)
                  | inr o ↦ all_turn (LivesUpTo n) p (fan n u (v ∷ vs))
                      (fan_turns (LivesUpTo n) n p outer (inr refl)
                      (λ e h. let c = (m.neighbours e.0 e.1).0 h in
                      (inl c.first, inl c.second)) u (v ∷ vs) run) i j k o
                ];
            stays = stays;
            edges = new_edges_owe n p outer (steps u (v ∷ vs)) u last v final.0 first.first
                final_index run.1 final.2
                (λ e h. let c = (m.neighbours e.0 e.1).0 h in (c.first, c.second))
                (to_each (Contains outer) (steps u (v ∷ vs))
                (λ e h. (run_up_to n p outer u (v ∷ vs) run e.0 e.1 h).3))
                (to_once (steps u (v ∷ vs)) (steps_once n p outer runs_open u (v ∷ vs) run))
                first_supports first_bare last_supports last_bare;
            same = λ flow anti. let t = fan_total flow anti n u (v ∷ vs) in
                omega (arith, ints, anti last n, anti n u);
          }))
