-- The outline of points on one line, from beside the line: where the edge after a seen one is not
-- seen, the line ends, and all vertices are on one side of the way to its end.
-- Lemmas: end_supported, start_supported, seen_after,
-- seen_before.
use Rattle.std.proofs.Common.{◌≡◌, ◌≢◌, ◌⊎◌, ◌<◌, ◌∙◌, ℕ, List, sym, subst, inl, inr, arith}
use lib.IntN.{neg_ℤ}
use Rattle.std.specs.Prelude.{ℤ, pos, ◌+ℤ◌, ◌-ℤ◌, ◌*ℤ◌, ◌<ℤ◌, ◌≤ℤ◌, Contains}
use Rattle.std.proofs.lemmas.Int.{ints}
use Rattle.{plane.specs.Point, plane_theorems.proofs.Tiling.LinePlaces.none_between_places}
use Rattle.plane.proofs.{bracket, bracket-swap, bracket-turn, IsBetween, less_both_ways}
use Rattle.plane.proofs.{less_by_negative_difference, lift, more_by_difference}
use Rattle.plane.proofs.{mul-neg_of_pos_neg_ℤ, mul-nonneg_ℤ, mul-nonpos_of_nonneg_nonpos_ℤ}
use Rattle.plane.proofs.{mul-pos_of_neg_ℤ, neg_of_mul-neg_ℤ, no_difference, nonneg_of_mul-nonneg_ℤ}
use Rattle.plane.proofs.{not_left_of_product, place_of_end, place_of_start, place_on, place_within}
use Rattle.plane.proofs.{pos_of_mul-pos_ℤ, product_zero_left, trichotomy_ℤ, weak, weak_right}
use Rattle.plane.proofs.{Collinear.passing_place, within_by_places}
use Rattle.plane_theorems.proofs.{Adjoin, same_place, SignLine}
use Rattle.plane_theorems.proofs.Tiling.LinePlaces.{ArePlaces, nearest_below, next_below}

-- ---- numbers
four_to_two : (a b c d f g h i : ℤ) → a *ℤ b -ℤ c *ℤ d +ℤ f *ℤ g -ℤ h *ℤ i ≡ pos 0 → g ≡ pos 0
    → h ≡ pos 0 → a *ℤ b ≡ c *ℤ d
four_to_two a b c d f g h i e y z =
    let u = product_zero_left {a = g} f y in
    let v = product_zero_left {a = h} i z in
    let w = lib.IntN.*ℤ_comm f g in
    omega (arith, ints)

in_order : (x y z : ℤ) → IsBetween x y z ⊎ ((x ≡ z) × (z ≡ y))
    → ((x <ℤ z) × (z <ℤ y)) ⊎ (((y <ℤ z) × (z <ℤ x)) ⊎ ((x ≡ z) × (z ≡ y)))
in_order x y z (inl (inl o)) = inl o
in_order x y z (inl (inr o)) = inr (inl o)
in_order x y z (inr o) = inr (inr o)

-- ---- vertex e of a line, and its neighbour o
module _ (n : ℕ) (p : ℕ → Point) (outer : List (ℕ × ℕ)) (m : SignLine n p outer) (e o : ℕ)
    (near : Adjoin n p e o) where
  apart : ¬ (p e ≡ p o)
  apart = m.distinct e o near.first near.second near.apart

  on_line : (k : ℕ) → k < n → bracket (lift (p e)) (lift (p o)) (lift (p k)) ≡ pos 0
  on_line k h = m.straight e o k near.first near.second h

  -- places on the way from e to o
  abbrev spot : ℕ → ℤ
  spot k = place_on (p e) (p o) (lift (p k))

  starts : spot e ≡ pos 0
  starts = place_of_start (p e) (p o)

  ends : pos 0 <ℤ spot o
  ends = place_of_end (p e) (p o) apart

  places : ArePlaces n p spot
  places = record {
    same = λ i j hi hj s. same_place n p m.distinct (p e) (p o) apart i j hi hj
        (on_line i hi) (on_line j hj) s;
    within = λ i j k hi hj hk a b. within_by_places (p e) (p o) apart (p i) (p k) (p j)
        (on_line i hi) (on_line k hk) (on_line j hj) a b;
    order = λ i j k w. in_order (spot i) (spot j) (spot k)
        (place_within (p e) (p o) (p i) (p j) (p k) w);
  }

  -- where o is the only neighbour of e, no vertex is beyond e
  none_behind : ((j : ℕ) → Contains outer (e, j) → j ≡ o) → (k : ℕ) → k < n → pos 0 ≤ℤ spot k
  none_behind only k h = elim (nearest_below spot n (spot e)) [
    | inl s ↦ absurd (less_both_ways (spot e) (spot o) (subst (λ z. z <ℤ spot o) (sym starts) ends)
        (subst (λ j. spot j <ℤ spot e)
        (only s.0 (next_below n p outer m spot places e near.first s.0 s.1)) s.1.below))
    | inr none ↦ subst (λ z. z ≤ℤ spot k) starts (none k h)
  ]

  -- another neighbour of e is on the other side of it
  other_side : (z : ℕ) → Adjoin n p e z → z ≢ o → spot z <ℤ pos 0
  other_side z f d = elim (trichotomy_ℤ (spot z)) [
    | inl l ↦ l
    | inr r ↦ elim r [
      | inl l ↦ absurd (f.apart (places.same e z near.first f.second (starts ∙ sym l)))
      | inr l ↦ absurd (elim (trichotomy_ℤ (spot z -ℤ spot o)) as (λ _. ⊥) [
        | inl k ↦ none_between_places n p spot places e o z near f.second
            (subst (λ a. a <ℤ spot z) (sym starts) l)
            (less_by_negative_difference (spot z) (spot o) k)
        | inr k ↦ elim k as (λ _. ⊥) [
          | inl k ↦ d (places.same z o f.second near.second (no_difference (spot z) (spot o) k))
          | inr k ↦ none_between_places n p spot places e z o f near.second
              (subst (λ a. a <ℤ spot o) (sym starts) ends)
              (more_by_difference (spot z) (spot o) k)
        ]
      ])
    ]
  ]

  -- ---- and a point q
  module _ (q : Point) where
    -- its brackets with e and two others, by their places
    by_place : (k : ℕ) → k < n → bracket (lift q) (lift (p e)) (lift (p o)) *ℤ spot k
        ≡ bracket (lift q) (lift (p e)) (lift (p k)) *ℤ spot o
    by_place k h = four_to_two (bracket (lift q) (lift (p e)) (lift (p o))) (spot k)
        (bracket (lift q) (lift (p e)) (lift (p k))) (spot o)
        (bracket (lift q) (lift (p o)) (lift (p k))) (spot e)
        (bracket (lift (p e)) (lift (p o)) (lift (p k))) (place_on (p e) (p o) (lift q))
        (passing_place (p e) (p o) (lift q) (lift (p e)) (lift (p o)) (lift (p k))) starts
        (on_line k h)

    product : (k : ℕ) → k < n → spot o *ℤ bracket (lift q) (lift (p e)) (lift (p k))
        ≡ bracket (lift q) (lift (p e)) (lift (p o)) *ℤ spot k
    product k h = lib.IntN.*ℤ_comm (spot o) (bracket (lift q) (lift (p e)) (lift (p k)))
        ∙ sym (by_place k h)

    to_left : pos 0 <ℤ bracket (lift (p e)) (lift (p o)) (lift q)
        → pos 0 <ℤ bracket (lift q) (lift (p e)) (lift (p o))
    to_left h = subst (λ z. pos 0 <ℤ z)
        (sym (bracket-turn (lift q) (lift (p e)) (lift (p o)))) h

    to_right : pos 0 <ℤ bracket (lift (p o)) (lift (p e)) (lift q)
        → bracket (lift q) (lift (p e)) (lift (p o)) <ℤ pos 0
    to_right h = below _ _ _ (bracket-turn (lift q) (lift (p e)) (lift (p o)))
        (bracket-swap (lift (p e)) (lift (p o)) (lift q)) h
      where
        below : (a b c : ℤ) → a ≡ b → b ≡ neg_ℤ c → pos 0 <ℤ c → a <ℤ pos 0
        below a b c i j h = omega (arith, ints)

    -- q sees the edge to e, and the line ends there: no vertex is on the left of the way there
    pub end_supported : pos 0 <ℤ bracket (lift (p o)) (lift (p e)) (lift q)
        → ((j : ℕ) → Contains outer (e, j) → j ≡ o) → (k : ℕ) → k < n
        → bracket (lift q) (lift (p e)) (lift (p k)) ≤ℤ pos 0
    end_supported sees only k h = not_left_of_product ends (subst (λ z. z ≤ℤ pos 0)
        (lib.IntN.*ℤ_comm (spot k) (bracket (lift q) (lift (p e)) (lift (p o))) ∙ sym (product k h))
        (mul-nonpos_of_nonneg_nonpos_ℤ (none_behind only k h) (weak_right (to_right sees))))

    -- so with the edge from e, on the way back
    pub start_supported : pos 0 <ℤ bracket (lift (p e)) (lift (p o)) (lift q)
        → ((j : ℕ) → Contains outer (e, j) → j ≡ o) → (k : ℕ) → k < n
        → bracket (lift (p e)) (lift q) (lift (p k)) ≤ℤ pos 0
    start_supported sees only k h = turned _ _
        (bracket-swap (lift (p e)) (lift q) (lift (p k)))
        (nonneg_of_mul-nonneg_ℤ ends (subst (λ z. pos 0 ≤ℤ z) (sym (product k h))
        (mul-nonneg_ℤ (weak (to_left sees)) (none_behind only k h))))
      where
        turned : (a b : ℤ) → a ≡ neg_ℤ b → pos 0 ≤ℤ b → a ≤ℤ pos 0
        turned a b i h = omega (arith, ints)

    -- where another neighbour is next, q sees the edge to it
    pub seen_after : pos 0 <ℤ bracket (lift (p o)) (lift (p e)) (lift q) → (z : ℕ)
        → Adjoin n p e z → z ≢ o → pos 0 <ℤ bracket (lift (p e)) (lift (p z)) (lift q)
    seen_after sees z f d = subst (λ a. pos 0 <ℤ a)
        (bracket-turn (lift q) (lift (p e)) (lift (p z)))
        (pos_of_mul-pos_ℤ ends (subst (λ a. pos 0 <ℤ a) (sym (product z f.second))
        (mul-pos_of_neg_ℤ (to_right sees) (other_side z f d))))

    -- and where another one is before, the edge from it
    pub seen_before : pos 0 <ℤ bracket (lift (p e)) (lift (p o)) (lift q) → (z : ℕ)
        → Adjoin n p e z → z ≢ o → pos 0 <ℤ bracket (lift (p z)) (lift (p e)) (lift q)
    seen_before sees z f d = above _ _ _ (bracket-turn (lift q) (lift (p e)) (lift (p z)))
        (bracket-swap (lift (p z)) (lift (p e)) (lift q))
        (neg_of_mul-neg_ℤ ends (subst (λ a. a <ℤ pos 0) (sym (product z f.second))
        (mul-neg_of_pos_neg_ℤ (to_left sees) (other_side z f d))))
      where
        above : (a b c : ℤ) → a ≡ b → c ≡ neg_ℤ b → a <ℤ pos 0 → pos 0 <ℤ c
        above a b c i j h = omega (arith, ints)
