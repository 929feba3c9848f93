-- An inner vertex with four neighbours or more: one of its edges can be flipped, or there are four
-- and it is strictly between two opposite ones.
-- Notions: turns_at_farthest, descend; IsRound, IsCycle (the neighbours); Bad, Good; CanFlip,
-- IsFour; flip_or_four.
use Rattle.std.proofs.Common.{◌≡◌, ◌⊎◌, ◌<◌, ◌≤◌, [], ◌∷◌, ◌∙◌, ℕ, zero, suc, List, sym, ap, subst}
use Rattle.std.proofs.Common.{arith}
use Prim.Native.Nat.{◌+◌}
use mathlib.Core.Logic.{inl, inr, ◌≢◌}
use Rattle.std.specs.Prelude.{ℤ, pos, ◌+ℤ◌, ◌-ℤ◌, ◌*ℤ◌, ◌≤ℤ◌, ◌<ℤ◌}
use Rattle.std.proofs.lemmas.Int.{ints}
use Rattle.std.proofs.lemmas.Bool.{cases_eq}
use Rattle.plane.specs.{Face, Point, whole, WithinSegment}
use Rattle.plane.proofs.{◌⊕◌, ◌⊖◌, ◌⊗◌, below_or_last, bracket, bracket-outer, bracket-swap}
use Rattle.plane.proofs.{bracket-turn, bracketᵖ, difference_is_positive, difference_not_negative}
use Rattle.plane.proofs.{lift, liftᵖ, lt_or_ge_ℤ, mul-nonneg_ℤ, mul-pos_ℤ, next_sum, points}
use Rattle.plane.proofs.{pos_of_mul-pos_ℤ, positive_plus_not_negative, ring_over, weak}
use Rattle.{plane.proofs.zero_below_positive, plane_theorems.proofs.Tiling.Flows.IsTurnOf}
use Rattle.plane_theorems.proofs.Edits.Removal.Star.{apart_later, AreOneToOne, IsAgain}
use Rattle.plane_theorems.proofs.Tiling.Counting.{at, SignMesh}
use Rattle.plane_theorems.proofs.Tiling.Covering as C
use Rattle.plane_theorems.proofs.Edits.Removal.Opposite as O

-- of the numbers below count, one has P, or all have Q
search : (P Q : ℕ → Type 0) → ((i : ℕ) → P i ⊎ Q i) → (count : ℕ)
    → ((i : ℕ) × (i < count) × P i) ⊎ ((i : ℕ) → i < count → Q i)
search P Q d zero = inr (λ i h. absurd (omega arith))
search P Q d (suc count) = elim (search P Q d count) [
  | inl a ↦ inl (a.0, omega (arith, a.1), a.2)
  | inr none ↦ elim (d count) [
    | inl x ↦ inl (count, omega arith, x)
    | inr y ↦ inr (λ i h. elim (below_or_last count i h)
        [ inl l ↦ none i l | inr e ↦ subst Q (sym e) y ])
  ]
]

-- how far b is left of o v, against a and c
above_both : (o v a b c : Point) → bracket (lift o) (lift v) (lift b) *ℤ bracket (lift a) (lift b)
    (lift c) ≡ bracket (lift v) (lift b) (lift c) *ℤ (bracket (lift o) (lift v) (lift b)
    -ℤ bracket (lift o) (lift v) (lift a)) +ℤ bracket (lift v) (lift a) (lift b)
    *ℤ (bracket (lift o) (lift v) (lift b) -ℤ bracket (lift o) (lift v) (lift c))
unfolding bracket
above_both o v a b c = ring_over points [] (o ∷ v ∷ a ∷ b ∷ c ∷ []) (λ o v a b c.
    bracketᵖ (liftᵖ o) (liftᵖ v) (liftᵖ b) ⊗ bracketᵖ (liftᵖ a) (liftᵖ b) (liftᵖ c)) (λ o v a b c.
    bracketᵖ (liftᵖ v) (liftᵖ b) (liftᵖ c) ⊗ (bracketᵖ (liftᵖ o) (liftᵖ v) (liftᵖ b)
    ⊖ bracketᵖ (liftᵖ o) (liftᵖ v) (liftᵖ a)) ⊕ bracketᵖ (liftᵖ v) (liftᵖ a) (liftᵖ b)
    ⊗ (bracketᵖ (liftᵖ o) (liftᵖ v) (liftᵖ b) ⊖ bracketᵖ (liftᵖ o) (liftᵖ v) (liftᵖ c))) tt

-- a point is farthest left of the way to b: less than before, and not less than after
pub turns_at_farthest : (o v a b c : Point) → pos 0 <ℤ bracket (lift v) (lift a) (lift b) → pos 0
    <ℤ bracket (lift v) (lift b) (lift c) → pos 0 <ℤ bracket (lift o) (lift v) (lift b) → bracket
    (lift o) (lift v) (lift a) <ℤ bracket (lift o) (lift v) (lift b) → bracket (lift o) (lift v)
    (lift c) ≤ℤ bracket (lift o) (lift v) (lift b) → pos 0 <ℤ bracket (lift a) (lift b) (lift c)
turns_at_farthest o v a b c ab bc at_b low not_high = pos_of_mul-pos_ℤ at_b (rw (above_both o v a b
    c) (positive_plus_not_negative _ _ (mul-pos_ℤ bc (difference_is_positive _ _ low))
    (mul-nonneg_ℤ (weak ab) (difference_not_negative _ _ not_high))))

-- numbers that begin at or below 0, and do not rise at their end, which is above 0: somewhere they
-- rise, and then do not
pub descend : (g : ℕ → ℤ) → g 1 ≤ℤ pos 0 → (t : ℕ) → pos 0 <ℤ g (suc (suc t))
    → g (suc (suc (suc t))) ≤ℤ g (suc (suc t)) → (s : ℕ) × (s ≤ t) × (pos 0 <ℤ g (suc (suc s)))
    × (g (suc s) <ℤ g (suc (suc s))) × (g (suc (suc (suc s))) ≤ℤ g (suc (suc s)))
descend g low zero h k = (0, omega arith, h, omega (arith, ints), k)
descend g low (suc t) h k = elim (lt_or_ge_ℤ (g (suc (suc t))) (g (suc (suc (suc t))))) [
  | inl l ↦ (suc t, omega arith, h, l, k)
  | inr l ↦ (let r = descend g low t (omega (arith, ints)) l in
      (r.0, omega (arith, r.1), r.2, r.3, r.4))
]

module _ (n : ℕ) (p : ℕ → Point) (faces : List Face) (outer : List (ℕ × ℕ))
    (m : SignMesh n p faces outer) (v : ℕ) where
  -- the turn from the way to i to the way to j, seen from v
  abbrev turn : ℕ → ℕ → ℤ
  turn i j = bracket (at p v) (at p i) (at p j)

  -- round v, from one neighbour to the next
  abbrev pub IsRound : (ℕ → ℕ) → Type 0
  IsRound nb = (i : ℕ) → IsTurnOf faces v (nb i) (nb (suc i))

  -- the edge to neighbour i + 1 can be flipped
  abbrev pub CanFlip : (ℕ → ℕ) → ℕ → Type 0
  CanFlip nb i = (pos 0 <ℤ bracket (at p (nb i)) (at p (nb (suc i))) (at p (nb (suc (suc i)))))
      × (pos 0 <ℤ turn (nb i) (nb (suc (suc i))))

  -- all corners but those at neighbours 0 and 1 turn left, seen from v
  among_good : (nb : ℕ → ℕ) (t : ℕ) → IsRound nb → nb (suc (suc (suc t))) ≡ nb 0
      → ((i : ℕ) → i ≤ t → pos 0 <ℤ turn (nb (suc i)) (nb (suc (suc (suc i)))))
      → (i : ℕ) × CanFlip nb i
  among_good nb t round again good =
      let r = descend (λ i. bracket (at p (nb 0)) (at p v) (at p (nb i))) first t last ended in (
        suc r.0,
        (turns_at_farthest _ _ _ _ _ (step _) (step _) r.2 r.3 r.4, good r.0 r.1),
      )
    where
      step : (i : ℕ) → pos 0 <ℤ turn (nb i) (nb (suc i))
      step i = C.turn_left_of n p _ _ m v _ _ (round i)

      first : bracket (at p (nb 0)) (at p v) (at p (nb 1)) ≤ℤ pos 0
      first = omega (arith, ints, bracket-swap (at p (nb 0)) (at p v) (at p (nb 1)), step 0)

      -- neighbour 0 comes after the last
      last : pos 0 <ℤ bracket (at p (nb 0)) (at p v) (at p (nb (suc (suc t))))
      last = subst (λ z. pos 0 <ℤ z) ((λ i. turn (nb (suc (suc t))) (again i)) ∙ bracket-turn _ _ _
          ∙ bracket-turn _ _ _) (step _)

      ended : bracket (at p (nb 0)) (at p v) (at p (nb (suc (suc (suc t)))))
          ≤ℤ bracket (at p (nb 0)) (at p v) (at p (nb (suc (suc t))))
      ended = zero_below_positive _ _ (ap (λ o. bracket (at p (nb 0)) (at p v) (at p o)) again ∙
          bracket-outer _ _) last

  -- a corner that does not turn left, and one two steps on or more, on the same round: they are
  -- opposite in a star of four
  pub record IsFour (nb : ℕ → ℕ) (k i : ℕ) : Type 0 where
    pub four : k ≡ 4
    pub between : WithinSegment (whole (p (nb i))) (whole (p (nb (suc (suc i))))) (whole (p v))

  -- a round that closes after k steps, and not before
  pub record IsCycle (nb : ℕ → ℕ) (k : ℕ) : Type 0 where
    pub round : IsRound nb
    pub again : IsAgain nb k
    pub apart : AreOneToOne nb k

  opposite : (nb : ℕ → ℕ) (k j : ℕ) → IsCycle nb k → 2 ≤ j → j + 2 ≤ k
      → turn (nb 0) (nb 2) ≤ℤ pos 0 → turn (nb j) (nb (suc (suc j))) ≤ℤ pos 0 → IsFour nb k 0
  opposite nb k j c low high bad bad' = record {
    four = omega (arith, c.apart 2 j (omega arith) (omega arith) meets.0, at_end);
    between = meets.1;
  }
    where
      differ : (a b : ℕ) → a < k → b < k → a ≢ b → nb a ≢ nb b
      differ a b ha hb ne e = ne (c.apart a b ha hb e)

      -- the neighbour after the second corner is not neighbour 1
      after_not_first : nb (suc (suc j)) ≢ nb 1
      after_not_first e = elim (cases_eq (j + 2) k) [
        | inl s ↦ differ 0 1 (omega arith) (omega arith) (λ e. omega arith)
            (sym (c.again 0) ∙ ap nb (omega arith) ∙ e)
        | inr s ↦ differ _ 1 (omega arith) (omega arith) (λ e. omega arith) e
      ]

      meets : (nb 2 ≡ nb j) × WithinSegment (whole (p (nb 0))) (whole (p (nb 2))) (whole (p v))
      meets = O.corners_meet n p _ _ m v _ _ _ _ _ _ _ _ (c.round 0) (c.round 1) (c.round 2) bad
          (c.round j) (c.round _) (c.round _) bad'
          (differ 0 j (omega arith) (omega arith) (λ e. omega arith))
          (differ 0 _ (omega arith) (omega arith) (λ e. omega arith))
          (differ 1 j (omega arith) (omega arith) (λ e. omega arith))
          (differ 1 _ (omega arith) (omega arith) (λ e. omega arith))
          (differ 2 _ (omega arith) (omega arith) (λ e. omega arith)) after_not_first

      -- seen from the second corner, the round ends where it began
      at_end : j + 2 ≡ k
      at_end = elim (cases_eq (j + 2) k) [
        | inl s ↦ s
        | inr s ↦ absurd (differ _ 0 (omega arith) (omega arith) (λ e. omega arith)
            (O.corners_meet n p _ _ m v _ _ _ _ _ _ _ _ (c.round j) (c.round _) (c.round _) bad'
            (c.round 0) (c.round 1) (c.round 2) bad
            (differ j 0 (omega arith) (omega arith) (λ e. omega arith))
            (differ j 1 (omega arith) (omega arith) (λ e. omega arith))
            (differ _ 0 (omega arith) (omega arith) (λ e. omega arith))
            (differ _ 1 (omega arith) (omega arith) (λ e. omega arith)) after_not_first
            (differ 2 _ (omega arith) (omega arith) (λ e. omega arith))).0)
      ]

  -- the same round, begun one neighbour later
  later : (nb : ℕ → ℕ) (k : ℕ) → IsCycle nb k → IsCycle (λ i. nb (suc i)) k
  later nb k c = record {
    round = λ i. c.round _;
    again = λ i. ap nb (next_sum i k) ∙ c.again _;
    apart = apart_later nb k c.again c.apart;
  }

  -- an edge of the star can be turned away, or four faces are left beside a line
  abbrev pub Answer : (ℕ → ℕ) → ℕ → Type 0
  Answer nb k = ((i : ℕ) × CanFlip nb i) ⊎ ((i : ℕ) × IsFour nb k i)

  answer_there : (nb : ℕ → ℕ) (k : ℕ) → Answer (λ i. nb (suc i)) k → Answer nb k
  answer_there nb k (inl (i, c)) = inl (suc i, c)
  answer_there nb k (inr (i, f)) = inr (suc i, record { four = f.four; between = f.between })

  -- seen from v, neighbour i + 2 is not on the left of neighbour i
  abbrev Bad : (ℕ → ℕ) → ℕ → Type 0
  Bad nb i = turn (nb i) (nb (suc (suc i))) ≤ℤ pos 0

  -- it is on the left
  abbrev Good : (ℕ → ℕ) → ℕ → Type 0
  Good nb i = pos 0 <ℤ turn (nb i) (nb (suc (suc i)))

  bad_or_good : (nb : ℕ → ℕ) (i : ℕ) → Bad nb i ⊎ Good nb i
  bad_or_good nb i = elim (lt_or_ge_ℤ _ (turn _ _)) [ inl l ↦ inr l | inr l ↦ inl l ]

  -- the corner at neighbour 1 does not turn left
  one_bad : (nb : ℕ → ℕ) (t : ℕ) → 1 ≤ t → IsCycle nb (suc (suc (suc t))) → Bad nb 0
      → Answer nb (suc (suc (suc t)))
  one_bad nb t four c bad =
      go (search (λ i. Bad nb (suc (suc i))) (λ i. Good nb (suc (suc i))) (λ i. bad_or_good nb _) t)
      (bad_or_good nb _) (bad_or_good nb 1)
    where
      go : ((i : ℕ) × (i < t) × Bad nb (suc (suc i))) ⊎ ((i : ℕ) → i < t → Good nb (suc (suc i)))
          → Bad nb (suc (suc t)) ⊎ Good nb (suc (suc t)) → Bad nb 1 ⊎ Good nb 1
          → Answer nb (suc (suc (suc t)))
      go (inl (j, h, b)) x y = inr (0, opposite nb _ _ c (omega arith) (omega arith) bad b)
      go (inr good) (inr x) y = answer_there nb _ (inl (among_good (λ i. nb (suc i)) t
          (λ i. c.round _) (ap nb (omega arith) ∙ c.again 1) (λ i h. elim (below_or_last t i
          (omega arith)) [ inl l ↦ good i l | inr e ↦ rw e x ])))
      go (inr good) (inl x) (inl y) = answer_there nb _ (inr (
        0,
        opposite (λ i. nb (suc i)) _
            (suc t) (later nb _ c) (omega arith) (omega arith) y x,
      ))
      go (inr good) (inl x) (inr y) = inl (among_good nb t c.round (ap nb (omega arith) ∙ c.again 0)
          (λ i h. first_good i h y))
        where
          first_good : (i : ℕ) → i ≤ t → Good nb 1 → Good nb (suc i)
          first_good zero h y = y
          first_good (suc i) h y = good i (omega arith)

  -- the theorem
  pub flip_or_four : (nb : ℕ → ℕ) (t : ℕ) → 1 ≤ t → IsCycle nb (suc (suc (suc t)))
      → Answer nb (suc (suc (suc t)))
  flip_or_four nb t four c = elim (search (Bad nb) (Good nb) (bad_or_good nb) (suc (suc (suc t)))) [
    | inl b ↦ from_bad b.0 nb c b.2
    | inr good ↦ inl (among_good nb t c.round (ap nb (omega arith) ∙ c.again 0)
        (λ i h. good (suc i) (omega arith)))
  ]
    where
      from_bad : (s : ℕ) (nb : ℕ → ℕ) → IsCycle nb (suc (suc (suc t))) → Bad nb s
          → Answer nb (suc (suc (suc t)))
      from_bad zero nb c b = one_bad nb t four c b
      from_bad (suc s) nb c b = answer_there nb _ (from_bad s (λ i. nb (suc i)) (later nb _ c) b)
