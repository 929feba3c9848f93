-- The faces at a vertex v of the hull, from the outer edge that reaches it to the one that leaves
-- it: which of its edges can be flipped, and what their other sides support at a corner.
-- Notions: step, skip, skip_later, later_left (seen from the vertex), from_first, to_last;
-- not_beyond; flat_flips.
use Rattle.std.proofs.Common.{◌≡◌, ◌⊎◌, ◌<◌, ◌≤◌, [], ◌∷◌, ◌∙◌, ℕ, zero, suc, List, sym, ap, subst}
use Rattle.std.proofs.Common.{arith}
use Prim.Native.Nat.{◌+◌, ◌-◌}
use mathlib.Core.Logic.{inl, inr, ◌≢◌}
use Rattle.std.specs.Prelude.{ℤ, pos, ◌+ℤ◌, ◌-ℤ◌, ◌*ℤ◌, ◌≤ℤ◌, ◌<ℤ◌, neg_ℤ}
use lib.IntN.{*ℤ_comm}
use Rattle.std.proofs.lemmas.Bool.{cases_eq, cases_lt}
use Rattle.std.proofs.lemmas.Int.{ints}
use Rattle.{plane.specs.Face, plane.specs.Point, plane_theorems.specs.IsHullStar}
use Rattle.plane.proofs.{◌⊕◌, ◌⊖◌, ◌⊗◌, at_most_if_not_less, bracket, bracket-last, bracket-outer}
use Rattle.plane.proofs.{bracket-swap, bracket-turn, cramer, left_not_zero, lt_or_ge_ℤ}
use Rattle.plane.proofs.{mul-nonneg_ℤ, mul-nonpos_of_nonneg_nonpos_ℤ, mul-pos_ℤ, negated_below}
use Rattle.plane.proofs.{nonneg_of_mul-nonneg_ℤ, not_left_of_product, num, one_more_than_last}
use Rattle.plane.proofs.{pos_of_mul-pos_ℤ, product_zero_left, ring_in_from, weak, zero-mul_ℤ}
use Rattle.plane.proofs.{zero_below_positive, zero_or_left, zero_weak, zero_weak_left, ⊝}
use Rattle.plane.proofs.{Signs.difference_of_zeros, Steps.three_below}
use Rattle.plane_theorems.proofs.Edits.Removal.Star.{IsInAngle, same_angle}
use Rattle.plane_theorems.proofs.Tiling.Counting.{at, SignMesh}
use Rattle.plane_theorems.proofs.Tiling.Flows.{HasSide, turned}
use Rattle.plane_theorems.proofs.Tiling.Covering as C
use Rattle.plane_theorems.proofs.Tiling.Loops as L
use Rattle.plane_theorems.proofs.Edits.Removal.Opposite as O
use Rattle.plane_theorems.proofs.Edits.Removal.Inner as I

abbrev before : ℕ → ℕ
before zero = zero
before (suc i) = i

no_relation : (a b c : ℤ) → a -ℤ b +ℤ c ≡ pos 0 → pos 0 <ℤ a → b ≡ pos 0 → pos 0 ≤ℤ c → ⊥
no_relation a b c e h z k = omega (arith, ints)

middle_left : (a b c : ℤ) → a -ℤ b +ℤ c ≡ pos 0 → pos 0 <ℤ a → pos 0 ≤ℤ c → pos 0 <ℤ b
middle_left a b c e h k = omega (arith, ints)

-- ---- numbers l along a chain, against others g
abbrev slope : (ℕ → ℤ) → (ℕ → ℤ) → ℕ → ℤ
slope g l j = g j *ℤ l (suc j) -ℤ g (suc j) *ℤ l j

-- a sum with a number that is not positive is at most the other number
less : (a b c : ℤ) → a ≡ b +ℤ c → c ≤ℤ pos 0 → a ≤ℤ b
less a b c e h = omega (arith, ints)

swapped_product : (a b : ℤ) → (a *ℤ b) ≤ℤ pos 0 → (b *ℤ a) ≤ℤ pos 0
swapped_product a b h = rw (*ℤ_comm a b) at h

slopes : (ab bc ac ga gb gc la lb lc t lv : ℤ) → ga *ℤ bc -ℤ gb *ℤ ac +ℤ gc *ℤ ab ≡ pos 0
    → t *ℤ lv ≡ bc *ℤ la +ℤ neg_ℤ ac *ℤ lb +ℤ ab *ℤ lc
    → ab *ℤ (gb *ℤ lc -ℤ gc *ℤ lb) ≡ bc *ℤ (ga *ℤ lb -ℤ gb *ℤ la) +ℤ gb *ℤ (lv *ℤ t)
slopes ab bc ac ga gb gc la lb lc t lv e h =
    ring_in_from (ab ∷ bc ∷ ac ∷ ga ∷ gb ∷ gc ∷ la ∷ lb ∷ lc ∷ t ∷ lv ∷ [])
    (λ ab bc ac ga gb gc la lb lc t lv. ab ⊗ (gb ⊗ lc ⊖ gc ⊗ lb))
    (λ ab bc ac ga gb gc la lb lc t lv. bc ⊗ (ga ⊗ lb ⊖ gb ⊗ la) ⊕ gb ⊗ (lv ⊗ t))
    (λ ab bc ac ga gb gc la lb lc t lv. (num 0 ⊖ lb, ga ⊗ bc ⊖ gb ⊗ ac ⊕ gc ⊗ ab, num 0)
    ∷ (num 0 ⊖ gb, t ⊗ lv, bc ⊗ la ⊕ (⊝ ac) ⊗ lb ⊕ ab ⊗ lc) ∷ []) (e, (h, tt)) tt

-- a number that is not below 0 at first and not above 0 at last changes somewhere
crossing : (g : ℕ → ℤ) → pos 0 ≤ℤ g 0 → (k : ℕ) → g (suc k) ≤ℤ pos 0
    → (j : ℕ) × (j ≤ k) × (pos 0 ≤ℤ g j) × (g (suc j) ≤ℤ pos 0)
crossing g first zero last = (0, omega arith, first, last)
crossing g first (suc k) last = elim (lt_or_ge_ℤ _ (g _)) [
  | inl l ↦ (suc k, omega arith, weak l, last)
  | inr l ↦ (let r = crossing g first k l in (r.0, omega (arith, r.1), r.2, r.3))
]

-- where l is 0 at i and i + 1 and the slopes fall, l is nowhere above 0
module _ (k i : ℕ) (g l s : ℕ → ℤ) (inside : i < k) (g_left : (j : ℕ) → 0 < j → j ≤ k → pos 0
    <ℤ g j) (g_weak : (j : ℕ) → j ≤ k → pos 0 ≤ℤ g j) (s_left : (j : ℕ) → j < k → pos 0 <ℤ s j)
    (falls : (j : ℕ) → suc j < k → (s j *ℤ slope g l (suc j)) ≤ℤ (s (suc j) *ℤ slope g l j))
    (at_i : l i ≡ pos 0) (at_next : l (suc i) ≡ pos 0) where
  level : slope g l i ≡ pos 0
  level = difference_of_zeros _ _ (zero-mul_ℤ (g i) at_next) (zero-mul_ℤ (g _) at_i)

  below_below : (a b : ℤ) → a ≤ℤ b → b ≤ℤ pos 0 → a ≤ℤ pos 0
  below_below a b h k = omega (arith, ints)

  above_above : (a b : ℤ) → a ≤ℤ b → pos 0 ≤ℤ a → pos 0 ≤ℤ b
  above_above a b h k = omega (arith, ints)

  first_below : (a b : ℤ) → (a -ℤ b) ≤ℤ pos 0 → b ≤ℤ pos 0 → a ≤ℤ pos 0
  first_below a b h k = omega (arith, ints)

  second_below : (a b : ℤ) → pos 0 ≤ℤ (a -ℤ b) → a ≤ℤ pos 0 → b ≤ℤ pos 0
  second_below a b h k = omega (arith, ints)

  slope_after : (j : ℕ) → i ≤ j → j < k → slope g l j ≤ℤ pos 0
  slope_after zero h e = zero_weak (subst (λ o. slope g l o ≡ pos 0) (omega arith) level)
  slope_after (suc j) h e = elim (cases_eq i _) [
    | inl q ↦ zero_weak (rw q at level)
    | inr ne ↦ not_left_of_product (s_left j (omega arith)) (below_below _
        _ (falls j e) (mul-nonpos_of_nonneg_nonpos_ℤ
        (weak (s_left _ e)) (slope_after j (omega arith) (omega arith))))
  ]

  after : (j : ℕ) → i < j → j ≤ k → l j ≤ℤ pos 0
  after zero h e = absurd (omega arith)
  after (suc j) h e = elim (cases_eq i j) [
    | inl q ↦ zero_weak (rw q at at_next)
    | inr ne ↦ not_left_of_product (g_left j (omega arith) (omega arith))
        (first_below _ _ (slope_after j (omega arith) e)
        (mul-nonpos_of_nonneg_nonpos_ℤ (g_weak _ e) (after j (omega arith) (omega arith))))
  ]

  slope_before : (d j : ℕ) → j + d ≡ i → pos 0 ≤ℤ slope g l j
  slope_before zero j e = zero_weak_left (subst (λ o. slope g l o ≡ pos 0) (omega arith) level)
  slope_before (suc d) j e = nonneg_of_mul-nonneg_ℤ (s_left _ (omega arith))
      (above_above _ _ (falls j (omega arith))
      (mul-nonneg_ℤ (weak (s_left j (omega arith))) (slope_before d _ (omega arith))))

  earlier : (d j : ℕ) → j + d ≡ i → l j ≤ℤ pos 0
  earlier zero j e = zero_weak (subst (λ o. l o ≡ pos 0) (omega arith) at_i)
  earlier (suc d) j e = not_left_of_product (g_left _ (omega arith) (omega arith))
      (second_below _ _ (slope_before _ j e)
      (mul-nonpos_of_nonneg_nonpos_ℤ (g_weak j (omega arith)) (earlier d _ (omega arith))))

  chain_below : (j : ℕ) → j ≤ k → l j ≤ℤ pos 0
  chain_below j h = elim (cases_lt i j) [
    | inl q ↦ after j q h
    | inr q ↦ earlier (i - j) j (omega arith)
  ]

module _ (n : ℕ) (p : ℕ → Point) (faces : List Face) (outer : List (ℕ × ℕ)) (m :
    SignMesh n p faces outer) (v k : ℕ) (nb : ℕ → ℕ) (star : IsHullStar faces outer v k nb) where
  -- the turn from the way to neighbour i to the way to neighbour j
  abbrev pub turn : ℕ → ℕ → ℤ
  turn i j = bracket (at p v) (at p (nb i)) (at p (nb j))

  -- seen from v, each neighbour and the next turn left
  pub step : (i : ℕ) → i < k → pos 0 <ℤ turn i (suc i)
  step i h = C.turn_left_of n p _ _ m v _ _ (star.around i h)

  -- the turns between four neighbours have Pluecker's relation
  four : O.AgreeInFours turn
  four a b c d = O.turns_of_four n p _ _ m v _ _ _ _

  -- each neighbour is a vertex
  pub neighbour_is : (i : ℕ) → i ≤ k → nb i < n
  neighbour_is zero h = (m.ends (nb 0, v) star.arrives).0
  neighbour_is (suc i) h = (C.turn_corners n p _ _ m v _ _ (star.around i (omega arith))).2

  -- no vertex is right of the way to the first neighbour, nor left of the way to the last
  pub from_first : (z : ℕ) → z < n → pos 0 ≤ℤ bracket (at p v) (at p (nb 0)) (at p z)
  from_first z h = negated_below (bracket-swap _ _ _) (m.supporting (nb 0, v) star.arrives z h)

  -- no vertex is on the left of the way from v to the last neighbour
  pub to_last : (z : ℕ) → z < n → pos 0 ≤ℤ bracket (at p v) (at p z) (at p (nb k))
  to_last z h = negated_below (O.turn_back n p _ _ m v z _) (m.supporting (v, nb k) star.leaves z h)

  -- the first neighbour does not come again
  pub first_once : (j : ℕ) → j < k → nb (suc j) ≢ nb 0
  first_once j h e = L.outer_is_no_side n p _ _ m _ v star.arrives
      (subst (λ o. HasSide faces o v) e (nb j, turned _ _ _ v (turned _ v _ _ (star.around j h))))

  rotated : (i j : ℕ) → pos 0 <ℤ turn i j → pos 0 <ℤ bracket (at p (nb j)) (at p v) (at p (nb i))
  rotated i j h = subst (λ z. pos 0 <ℤ z) (bracket-turn _ _ _ ∙ bracket-turn _ _ _) h

  -- v has a face, and two where its first and last neighbours are in line with it
  some_face : 0 < k
  some_face =
      let s = C.behind_outer n p _ _ m v _ star.leaves in
      let o = star.only s.0 _ (turned _ _ v s.0 s.1) in
      omega (arith, o.1)

  -- a star whose first and last neighbour are on one line with v has two faces at least
  pub two_faces : turn 0 k ≡ pos 0 → 2 ≤ k
  two_faces flat = elim (cases_eq k 1) [
    | inl e ↦ absurd (left_not_zero (step 0 some_face) (rw e at flat))
    | inr ne ↦ omega (arith, some_face)
  ]

  -- all others but the last are left of the first
  pub past_first : (j : ℕ) → suc j < k → pos 0 <ℤ turn 0 (suc j)
  past_first j h = go (zero_or_left (from_first _ (neighbour_is _ (omega arith))))
      (lt_or_ge_ℤ _ (turn _ 1))
    where
      some : 0 < k
      some = omega arith

      own : IsInAngle n p faces outer m v (nb (suc j)) (nb (suc (suc j))) (at p (nb (suc j)))
      own = record { from = zero_weak_left (O.turn_own n p _ _ m v _); to = rotated _ _ (step _ h) }

      go : (turn 0 (suc j) ≡ pos 0) ⊎ (pos 0 <ℤ turn 0 (suc j))
          → (pos 0 <ℤ turn (suc j) 1) ⊎ (turn (suc j) 1 ≤ℤ pos 0) → pos 0 <ℤ turn 0 (suc j)
      go (inr l) s = l
      go (inl e) (inl s) = absurd (first_once j (omega arith)
          (sym (same_angle n p _ _ m v _ _ _ _ (star.around 0 some) (star.around _ h) _
          (record { lt = tt }) (record { from = zero_weak_left e; to = rotated _ 1 s }) own).0))
      go (inl e) (inr s) = absurd (no_relation _ _ _ (four 0 1 _ _)
          (mul-pos_ℤ (step 0 some) (step _ h)) (product_zero_left (turn 1 _) e)
          (mul-nonneg_ℤ (from_first _ (neighbour_is _ (omega arith)))
          (negated_below (O.turn_back n p _ _ m v _ _) s)))

  -- seen from v, neighbours two apart turn left, where the second of them is not past neighbour 2
  pub skip_later : (i : ℕ) → suc (suc i) < k → pos 0 <ℤ turn (suc i) (suc (suc (suc i)))
  skip_later i h = pos_of_mul-pos_ℤ (past_first _ h) (middle_left _ _ _ (four 0 _ _ _)
      (mul-pos_ℤ (past_first i (omega arith)) (step _ h))
      (mul-nonneg_ℤ (from_first _ (neighbour_is _ (omega arith))) (weak (step _ (omega arith)))))

  -- at a corner: the last is left of the first too
  module _ (strict : pos 0 <ℤ turn 0 k) where
    -- seen from v, all other neighbours are on the left of the first
    pub after_first : (j : ℕ) → j < k → pos 0 <ℤ turn 0 (suc j)
    after_first j h = elim (cases_eq (suc j) k) [
      | inl e ↦ rw e strict
      | inr n ↦ past_first j (omega arith)
    ]

    -- seen from v, neighbours two apart turn left
    pub skip : (i : ℕ) → suc i < k → pos 0 <ℤ turn i (suc (suc i))
    skip zero h = after_first 1 h
    skip (suc i) h = skip_later i h

    left_of_first : (j : ℕ) → 0 < j → j ≤ k → pos 0 <ℤ turn 0 j
    left_of_first zero h l = absurd (omega arith)
    left_of_first (suc j) h l = after_first j l

    -- each later neighbour is left of each earlier one
    pub later_left : (i j : ℕ) → i < j → j ≤ k → pos 0 <ℤ turn i j
    later_left i zero h l = absurd (omega arith)
    later_left zero (suc j) h l = after_first j l
    later_left (suc i) (suc j) h l = elim (cases_eq _ j) [
      | inl e ↦ subst (λ o. pos 0 <ℤ turn (suc i) (suc o)) e (step (suc i) (omega arith))
      | inr ne ↦ pos_of_mul-pos_ℤ (left_of_first j (omega arith) (omega arith))
          (middle_left _ _ _ (four 0 _ j _) (mul-pos_ℤ (after_first i (omega arith)) (step j l))
          (weak (mul-pos_ℤ (after_first j l) (later_left _ j (omega arith) (omega arith)))))
    ]

    -- where no neighbours turn left, the ways between them support all vertices but v
    module _ (bent : (j : ℕ) → suc j < k → bracket (at p (nb j)) (at p (nb (suc j)))
        (at p (nb (suc (suc j)))) ≤ℤ pos 0) (i : ℕ) (inside : i < k) where
      abbrev beyond : ℕ → ℤ
      beyond j = bracket (at p (nb i)) (at p (nb (suc i))) (at p j)

      -- the way from neighbour i to the next has v on its left
      sees : pos 0 <ℤ beyond v
      sees = rw bracket-turn at (step i inside)

      falls : (j : ℕ) → suc j < k → (turn j (suc j) *ℤ slope (turn 0) (λ j. beyond (nb j)) (suc j))
          ≤ℤ (turn (suc j) (suc (suc j)) *ℤ slope (turn 0) (λ j. beyond (nb j)) j)
      falls j h = less (turn j _ *ℤ slope (turn 0) (λ j. beyond (nb j)) _)
          (turn _ _ *ℤ slope (turn 0) (λ j. beyond (nb j)) j) _
          (slopes (turn j _) (turn _ _) (turn j _) (turn 0 j) (turn 0 _) (turn 0 _) (beyond _)
          (beyond _) (beyond _) _ (beyond v) (four 0 j _ _)
          (cramer _ _ _ _ _ _ ∙ (λ o. sym (bracket-turn (at p v) (at p (nb (suc j)))
          (at p (nb (suc (suc j))))) o *ℤ beyond (nb j) +ℤ
          (sym (bracket-turn _ _ _) ∙ O.turn_back n p _ _ m v (nb (suc (suc j))) (nb j)) o *ℤ beyond
          (nb (suc j)) +ℤ sym (bracket-turn (at p v) (at p (nb j)) (at p (nb (suc j)))) o *ℤ beyond
          (nb (suc (suc j)))))) (mul-nonpos_of_nonneg_nonpos_ℤ (weak (after_first j (omega arith)))
          (mul-nonpos_of_nonneg_nonpos_ℤ (weak sees) (bent j h)))

      chain_not_left : (j : ℕ) → j ≤ k → beyond (nb j) ≤ℤ pos 0
      chain_not_left = chain_below k i (turn 0) (λ j. beyond _) (λ j. turn j _) inside left_of_first
          (λ j h. from_first _ (neighbour_is j h)) step falls (bracket-outer _ _) (bracket-last _ _)

      -- no other vertex is beyond the line
      pub not_beyond : (z : ℕ) → z < n → z ≢ v → beyond z ≤ℤ pos 0
      not_beyond z h other = go (crossing (λ j. bracket (at p v) (at p (nb j)) (at p z))
          (from_first z h) (k - 1) (rw (one_more_than_last i k inside) at
          (m.supporting (v, nb k) star.leaves z h)))
        where
          fits : (j : ℕ) → j ≤ k - 1 → i < k → j < k
          fits j h l = omega arith

          go : (j : ℕ) × (j ≤ k - 1) × (pos 0 ≤ℤ bracket (at p v) (at p (nb j)) (at p z))
              × (bracket (at p v) (at p (nb (suc j))) (at p z) ≤ℤ pos 0) → beyond z ≤ℤ pos 0
          go (j, low, from, to) = not_left_of_product (step j inner)
              (three_below _ _ _ _ (cramer _ _ _ _ _ _)
              (swapped_product (beyond v) _ (mul-nonpos_of_nonneg_nonpos_ℤ (weak sees) outside))
              (mul-nonpos_of_nonneg_nonpos_ℤ back (chain_not_left j (omega arith)))
              (mul-nonpos_of_nonneg_nonpos_ℤ from (chain_not_left _ inner)))
            where
              inner : j < k
              inner = fits j low inside

              back : pos 0 ≤ℤ bracket (at p (nb (suc j))) (at p v) (at p z)
              back = negated_below (bracket-swap _ _ _) to

              named : pos 0 <ℤ bracket (at p (nb j)) (at p (nb (suc j))) (at p z)
                  → (z ≡ v) ⊎ ((z ≡ nb j) ⊎ (z ≡ nb (suc j))) → ⊥
              named l (inl e) = other e
              named l (inr (inl e)) = left_not_zero (rw e at l) (bracket-outer _ _)
              named l (inr (inr e)) = left_not_zero (rw e at l) (bracket-last _ _)

              outside : bracket (at p (nb j)) (at p (nb (suc j))) (at p z) ≤ℤ pos 0
              outside = at_most_if_not_less _ _ (λ l. named l
                  (C.vertex_in_face n p _ _ m z v _ _ h (star.around j inner) from (weak l) back))

  -- on a flat side with three faces or more
  module _ (flat : turn 0 k ≡ pos 0) (t : ℕ) (count : suc (suc (suc t)) ≡ k) where
    -- how far neighbour i - 1 is from the side
    abbrev height : ℕ → ℤ
    height i = bracket (at p (nb k)) (at p v) (at p (nb (before i)))

    -- at a vertex within a hull edge some edge of the star can be turned away
    pub flat_flips : (i : ℕ) × (suc i < k) × (pos 0 <ℤ bracket (at p (nb i)) (at p (nb (suc i)))
        (at p (nb (suc (suc i))))) × (pos 0 <ℤ turn i (suc (suc i)))
    flat_flips = let r = I.descend height first _ last ended in (
      r.0,
      within r.0 r.1,
      I.turns_at_farthest _ _ _ _ _ (step r.0 (omega (arith, within r.0 r.1)))
          (step _ (within r.0 r.1)) r.2 r.3 r.4,
      skips r.0 (within r.0 r.1),
    )
      where
        first : height 1 ≤ℤ pos 0
        first = zero_weak (sym (bracket-turn _ _ _ ∙ bracket-turn _ _ _) ∙ flat)

        last : pos 0 <ℤ height (suc (suc (suc t)))
        last = subst (λ o. pos 0 <ℤ bracket (at p (nb o)) (at p v) (at p (nb (suc (suc t))))) count
            (rotated _ _ (step _ (omega arith)))

        ended : height (suc (suc (suc (suc t)))) ≤ℤ height (suc (suc (suc t)))
        ended = zero_below_positive (height (suc (suc (suc (suc t))))) (height (suc (suc (suc t))))
            (ap (λ o. bracket (at p (nb k)) (at p v) (at p (nb o))) count ∙ bracket-outer _ _) last

        within : (s : ℕ) → s ≤ suc t → suc s < k
        within s h = omega arith

        skips : (i : ℕ) → suc i < k → pos 0 <ℤ turn i (suc (suc i))
        skips zero h = past_first 1 (omega arith)
        skips (suc i) h = skip_later i h
