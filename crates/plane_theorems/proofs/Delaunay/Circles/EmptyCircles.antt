-- The global theorems in the definitions' words: the local test gives a constrained Delaunay
-- triangulation, and a strictly empty triple is a face of it.
-- Notions: spot, OneCircle, IsOpenTriple; no_face, straight_line, circle_lift,
-- local_gives_constrained_delaunay, weights_along, same_at_end, overlapping, face_open,
-- visibly_empty_is_face, strictly_empty_is_face.
use Rattle.std.proofs.Common.{◌≡◌, ℕ, List, [], ◌∷◌, length, arith, ap, sym, ◌∙◌, subst}
use mathlib.Core.Path.{subst₃}
use mathlib.Core.Logic.{◌⊎◌, inl, inr}
use native.Mathlib.Decide.{ℕ_discrete}
use lib.IntN.{neg_ℤ}
use Rattle.std.specs.Prelude.{◌≢◌, ℤ, pos, ◌<ℤ◌, ◌≤ℤ◌, ◌+ℤ◌, ◌*ℤ◌, Contains, slice_index_or}
use Rattle.std.proofs.lemmas.Int.{ints}
use Rattle.plane.specs.{Face, Fraction, HasFace, InsideCircle, IsConstrainedDelaunay, IsEdge}
use Rattle.plane.specs.{IsFace, IsLocallyDelaunay, IsNotNegative, IsSame, IsSeen, IsStrictlyEmpty}
use Rattle.plane.specs.{IsTiling, IsVertex, Joins, JoinsLine, left, on, OnSegment, Point, TilesHull}
use Rattle.plane.specs.{Triangulation, TurnsLeft, vertex}
use Rattle.plane.proofs.{◌⊕◌, ◌⊖◌, ◌⊗◌, above, below, bracket_of_two, bracketᵖ, incircleᵖ as liftᵖ}
use Rattle.plane.proofs.{IsTurned, left_not_below, left_not_zero, mean_of_two, mul_cancel_ℤ, none}
use Rattle.plane.proofs.{num, pos-ne-zero_ℤ, right_not_above, ring_in_from, ring_over, Sign, sign}
use Rattle.plane.proofs.{turned_face, two_weights, TwoWeights, vec, weak, zero_of_mul-zero_ℤ}
use Rattle.plane.proofs.{Signs.positive_times_not_positive, zero_weak, zero_weak_left, ⊝}
use Rattle.plane_theorems.specs.{IsVisiblyEmpty}
use Rattle.plane_theorems.proofs.Delaunay.Circles.Global.{not_above_face, PassesLocally}
use Rattle.plane_theorems.proofs.Delaunay.Circles.Lift.{inside_is_lift, lift, lift-first}
use Rattle.plane_theorems.proofs.Delaunay.Circles.Lift.{lift-second, lift-third, lift-turned}
use Rattle.plane_theorems.proofs.Delaunay.Circles.Lift.{on_is_lift}
use Rattle.plane_theorems.proofs.Delaunay.Points.Bracket.{above_if_left, bracket, bracket-first}
use Rattle.plane_theorems.proofs.Delaunay.Points.Bracket.{bracket-second, bracket-swapped}
use Rattle.plane_theorems.proofs.Delaunay.Points.Bracket.{bracket-turned, fraction, left_if_above}
use Rattle.plane_theorems.proofs.Delaunay.Points.Members.{contained, Member, member}
use Rattle.plane_theorems.proofs.Delaunay.Points.Nudges.{Closed, InOpen, inside-turned, nudge}
use Rattle.plane_theorems.proofs.Delaunay.Points.Numbers.{sum_above, sum_least, sum_none}
use Rattle.plane_theorems.proofs.Delaunay.Tilings.Faces.{both_inside, middle, middle-inside}
use Rattle.plane_theorems.proofs.Delaunay.Tilings.Faces.{side_not_inside, turned-above}
use Rattle.plane_theorems.proofs.Delaunay.Tilings.Generic.{AllOpen, open_if_free, swapped_weights}
use Rattle.plane_theorems.proofs.Delaunay.Tilings.Ground.{inside_of, tiling, triangle_of_inside}

-- the point of vertex i; (0, 0) past the end of the list
abbrev pub spot : Triangulation → ℕ → Point
spot t i = slice_index_or t.points i (record { x = pos 0; y = pos 0 })

not_above : (z : ℤ) → ¬ (pos 0 <ℤ z) → z ≤ℤ pos 0
not_above z n = elim (sign z) [ below h ↦ most h | none h ↦ zero_most h | above h ↦ absurd (n h) ]
  where
    most : z <ℤ pos 0 → z ≤ℤ pos 0
    most h = omega (arith, ints)

    zero_most : z ≡ pos 0 → z ≤ℤ pos 0
    zero_most h = omega (arith, ints)

-- where the list of faces is empty, no three vertices are a face
pub no_face : (t : Triangulation) → t.faces ≡ [] → (i j k : ℕ) → ¬ IsFace t i j k
no_face t e i j k f = go f
  where
    none_listed : (g : Face) → ¬ Contains t.faces g
    none_listed g c = absurd (omega (arith, c.1, ap length e))

    go : IsFace t i j k → ⊥
    go (inl c) = none_listed _ c
    go (inr (inl c)) = none_listed _ c
    go (inr (inr c)) = none_listed _ c

-- on a line no triple turns left
pub straight_line : (t : Triangulation) → JoinsLine t → (i j k : ℕ) → IsVertex t i → IsVertex t j
    → IsVertex t k → ¬ TurnsLeft (vertex t i) (vertex t j) (vertex t k)
straight_line t l i j k hi hj hk turns = apart (sym turns ∙ l.straight i j k hi hj hk)
  where
    apart : left ≡ on → ⊥
    apart e = cc

-- where a vertex is not inside the circle of a left-turning triple, its lift is not above 0
pub circle_lift : (t : Triangulation) (i j k n : ℕ)
    → TurnsLeft (vertex t i) (vertex t j) (vertex t k)
    → ¬ InsideCircle (vertex t i) (vertex t j) (vertex t k) (vertex t n)
    → lift (vertex t i) (vertex t j) (vertex t k) (vertex t n) ≤ℤ pos 0
circle_lift t i j k n turns out =
    not_above _ (λ h. out ((inside_is_lift (spot t i) (spot t j) (spot t k) (spot t n) turns).1 h))

-- ---- from the local test to all circles
module _ (t : Triangulation) (constraints : List (ℕ × ℕ)) (h : TilesHull t) where
  joins : (i j : ℕ) → Member (i, j) constraints ⊎ Member (j, i) constraints → Joins constraints i j
  joins i j (inl m) = inl (contained (i, j) constraints m)
  joins i j (inr m) = inr (contained (j, i) constraints m)

  joined : (i j : ℕ) → Joins constraints i j → Member (i, j) constraints ⊎ Member (j, i) constraints
  joined i j (inl m) = inl (member (i, j) constraints m)
  joined i j (inr m) = inr (member (j, i) constraints m)

  local : IsLocallyDelaunay t constraints → PassesLocally (tiling t h) constraints
  unfolding tiling
  local l i j k n f g free =
      circle_lift t i j k n (h.turning i j k f) (l i j k n f g (λ c. free (joined i j c))).0

  seen_open : (u v w : Fraction) (n : ℕ) (s : IsSeen t constraints u v w (vertex t n))
      → AllOpen (vertex t) constraints (vertex t n) s.from
  seen_open u v w n s i j m = open_if_free (vertex t i) (vertex t j) (vertex t n) s.from
      (λ y k l. s.free i j (joins i j (inl m)) y (mean_of_two IsNotNegative s.from (vertex t n) y k)
      (mean_of_two IsNotNegative (vertex t i) (vertex t j) y l))

  empty_circles : IsLocallyDelaunay t constraints → (i j k n : ℕ) → IsFace t i j k → IsVertex t n
      → IsSeen t constraints (vertex t i) (vertex t j) (vertex t k) (vertex t n)
      → ¬ InsideCircle (vertex t i) (vertex t j) (vertex t k) (vertex t n)
  unfolding tiling
  empty_circles l i j k n f v s c =
      left_not_below
      ((inside_is_lift (spot t i) (spot t j) (spot t k) (spot t n) (h.turning i j k f)).0 c)
      (not_above_face (tiling t h) constraints (local l) n v i j k s.from f
      (inside_of _ _ _ s.from (h.turning i j k f) s.inside) (seen_open _ _ _ n s))

-- a tiling that has the constraints and passes the local test is constrained Delaunay
pub local_gives_constrained_delaunay : (t : Triangulation) (constraints : List (ℕ × ℕ)) → IsTiling t
    → ((i j : ℕ) → Joins constraints i j → IsEdge t i j) → IsLocallyDelaunay t constraints
    → IsConstrainedDelaunay t constraints
local_gives_constrained_delaunay t constraints (inl h) kept l =
    record { tiling = inl h; kept = kept; empty = empty_circles t constraints h l }
local_gives_constrained_delaunay t constraints (inr h) kept l = record {
  tiling = inr h;
  kept = kept;
  empty = λ i j k n f. absurd (no_face t h.no_face i j k f);
}

-- ---- two triples with a common point strictly inside
lift-balance : (a b c d e f q : Fraction) → (bracket b c q *ℤ lift d e f a +ℤ bracket c a q
    *ℤ lift d e f b +ℤ bracket a b q *ℤ lift d e f c) +ℤ (bracket e f q *ℤ lift a b c d
    +ℤ bracket f d q *ℤ lift a b c e +ℤ bracket d e q *ℤ lift a b c f) ≡ pos 0
unfolding lift bracket
lift-balance a b c d e f q = ring_over fraction [] (a ∷ b ∷ c ∷ d ∷ e ∷ f ∷ q ∷ [])
    (λ a b c d e f q. (bracketᵖ b c q ⊗ liftᵖ d e f a ⊕ bracketᵖ c a q ⊗ liftᵖ d e f b
    ⊕ bracketᵖ a b q ⊗ liftᵖ d e f c) ⊕ (bracketᵖ e f q ⊗ liftᵖ a b c d ⊕ bracketᵖ f d q
    ⊗ liftᵖ a b c e ⊕ bracketᵖ d e q ⊗ liftᵖ a b c f))
    (λ a b c d e f q. num 0) tt

only_zeros : (x₁ x₂ x₃ x₄ x₅ x₆ : ℤ) → (x₁ +ℤ x₂ +ℤ x₃) +ℤ (x₄ +ℤ x₅ +ℤ x₆) ≡ pos 0 → x₁ ≤ℤ pos 0
    → x₂ ≤ℤ pos 0 → x₃ ≤ℤ pos 0 → x₄ ≤ℤ pos 0 → x₅ ≤ℤ pos 0 → x₆ ≤ℤ pos 0
    → (x₁ ≡ pos 0) × (x₂ ≡ pos 0) × (x₃ ≡ pos 0) × (x₄ ≡ pos 0) × (x₅ ≡ pos 0) × (x₆ ≡ pos 0)
only_zeros x₁ x₂ x₃ x₄ x₅ x₆ e h₁ h₂ h₃ h₄ h₅ h₆ = (
  omega (arith, ints),
  omega (arith, ints),
  omega (arith, ints),
  omega (arith, ints),
  omega (arith, ints),
  omega (arith, ints),
)

unweighted : (k x : ℤ) → pos 0 <ℤ k → k *ℤ x ≡ pos 0 → x ≡ pos 0
unweighted k x h e = zero_of_mul-zero_ℤ {k = k} {x = x} (pos-ne-zero_ℤ h) e

-- each of two triples has the corners of the other on its circle: their lifts are 0
pub record OneCircle (a b c d e f : Fraction) : Type 0 where
  pub first : lift d e f a ≡ pos 0
  pub second : lift d e f b ≡ pos 0
  pub third : lift d e f c ≡ pos 0
  pub fourth : lift a b c d ≡ pos 0
  pub fifth : lift a b c e ≡ pos 0
  pub sixth : lift a b c f ≡ pos 0

one_circle : (a b c d e f q : Fraction) → InOpen a b c q → InOpen d e f q → lift d e f a ≤ℤ pos 0
    → lift d e f b ≤ℤ pos 0 → lift d e f c ≤ℤ pos 0 → lift a b c d ≤ℤ pos 0 → lift a b c e ≤ℤ pos 0
    → lift a b c f ≤ℤ pos 0 → OneCircle a b c d e f
one_circle a b c d e f q i j h₁ h₂ h₃ h₄ h₅ h₆ =
    let z = only_zeros _ _ _ _ _ _ (lift-balance a b c d e f q)
    (positive_times_not_positive _ _ i.second h₁) (positive_times_not_positive _ _ i.third h₂)
    (positive_times_not_positive _ _ i.first h₃) (positive_times_not_positive _ _ j.second h₄)
    (positive_times_not_positive _ _ j.third h₅) (positive_times_not_positive _ _ j.first h₆) in
    record {
      first = unweighted _ _ i.second z.0;
      second = unweighted _ _ i.third z.1;
      third = unweighted _ _ i.first z.2;
      fourth = unweighted _ _ j.second z.3;
      fifth = unweighted _ _ j.third z.4;
      sixth = unweighted _ _ j.first z.5;
    }

-- ---- the points of a segment, by brackets
-- the side of a weighted mean is the mean of the sides
pub weights_along : (A : ℤ → Type 0) (a b p : Fraction) (w : TwoWeights A a b p) (u v : Fraction)
    → w.n *ℤ bracket u v p ≡ w.k *ℤ bracket u v a +ℤ w.l *ℤ bracket u v b
unfolding bracket
weights_along A a b p w u v = bracket_of_two A (vec u) (vec v) a b p w

-- from a point strictly inside to a corner: still strictly inside, until the corner
inside_on_way : (a b c q y : Fraction) (w : TwoWeights IsNotNegative q a y) → pos 0 <ℤ bracket a b c
    → InOpen a b c q → pos 0 <ℤ w.k → InOpen a b c y
inside_on_way a b c q y w t i h = record {
  first = sum_above w.n w.k w.l _ _ _ w.positive (weights_along IsNotNegative q a y w a b) h i.first
      w.l_allowed (zero_weak_left (bracket-first a b));
  second = sum_above w.n w.k w.l _ _ _ w.positive (weights_along IsNotNegative q a y w b c) h
      i.second w.l_allowed (weak (turned-above a b c t));
  third = sum_above w.n w.k w.l _ _ _ w.positive (weights_along IsNotNegative q a y w c a) h i.third
      w.l_allowed (zero_weak_left (bracket-second c a));
}

same_part : (n k l y z q a r b : ℤ) → pos 0 <ℤ n → n *ℤ y ≡ k *ℤ q +ℤ l *ℤ a
    → n *ℤ z ≡ k *ℤ r +ℤ l *ℤ b → k ≡ pos 0 → y *ℤ b ≡ a *ℤ z
same_part n k l y z q a r b h e d o = mul_cancel_ℤ {k = n} (pos-ne-zero_ℤ h)
    (ring_in_from (n ∷ k ∷ l ∷ y ∷ z ∷ q ∷ a ∷ r ∷ b ∷ []) (λ n k l y z q a r b. n ⊗ (y ⊗ b))
    (λ n k l y z q a r b. n ⊗ (a ⊗ z))
    (λ n k l y z q a r b. (b, n ⊗ y, k ⊗ q ⊕ l ⊗ a) ∷ (⊝ a, n ⊗ z, k ⊗ r ⊕ l ⊗ b)
    ∷ (q ⊗ b ⊖ a ⊗ r, k, num 0) ∷ []) (e, (d, (o, tt))) tt)

-- a point of a segment is the second end, where the first has no weight
pub same_at_end : (q a y : Fraction) (w : TwoWeights IsNotNegative q a y) → w.k ≡ pos 0 → IsSame y a
same_at_end q a y w o = record {
  x = same_part w.n w.k w.l y.x y.w q.x a.x q.w a.w w.positive w.x w.w o;
  y = same_part w.n w.k w.l y.y y.w q.y a.y q.w a.w w.positive w.y w.w o;
}

segment_closed : (a b c y : Fraction) → TwoWeights IsNotNegative a b y → pos 0 <ℤ bracket a b c
    → (bracket a b y ≡ pos 0) × Closed a b c y
segment_closed a b c y w t = (
  zero,
  record {
    first = zero_weak_left zero;
    second = sum_least w.n w.k w.l _ _ _ w.positive (weights_along IsNotNegative a b y w b c)
        w.k_allowed (weak (turned-above a b c t)) w.l_allowed (zero_weak_left (bracket-first b c));
    third = sum_least w.n w.k w.l _ _ _ w.positive (weights_along IsNotNegative a b y w c a)
        w.k_allowed (zero_weak_left (bracket-second c a)) w.l_allowed
        (weak (turned-above b c a (turned-above a b c t)));
  },
)
  where
    zero : bracket a b y ≡ pos 0
    zero = sum_none w.n w.k w.l _ _ _ w.positive (weights_along IsNotNegative a b y w a b)
        (bracket-first a b) (bracket-second a b)

-- a way from a point strictly inside a triple to a corner meets what does not enter the triple in
-- the corner alone
way_to_corner : (a b c q y : Fraction) → pos 0 <ℤ bracket a b c → InOpen a b c q → ¬ InOpen a b c y
    → OnSegment q a y → IsSame y a
way_to_corner a b c q y t i out m = go (sign w.k)
  where
    w : TwoWeights IsNotNegative q a y
    w = two_weights IsNotNegative q a y m

    go : Sign w.k → IsSame y a
    go (below h) = absurd (right_not_above h w.k_allowed)
    go (none h) = same_at_end q a y w h
    go (above h) = absurd (out (inside_on_way a b c q y w t i h))

-- no point of an edge is strictly inside a face
edge_not_inside : (t : Triangulation) (h : TilesHull t) (i j d e f : ℕ) (y : Fraction)
    → IsEdge t i j → IsFace t d e f → OnSegment (vertex t i) (vertex t j) y
    → ¬ InOpen (vertex t d) (vertex t e) (vertex t f) y
unfolding tiling
edge_not_inside t h i j d e f y edge g m inside = go ((h.sides i j).0 edge)
  where
    w : TwoWeights IsNotNegative (vertex t i) (vertex t j) y
    w = two_weights IsNotNegative (vertex t i) (vertex t j) y m

    touches : (i j : ℕ) → TwoWeights IsNotNegative (vertex t i) (vertex t j) y → HasFace t i j → ⊥
    touches i j m s = let c = segment_closed (vertex t i) (vertex t j) (vertex t s.0) y m
        (above_if_left _ _ _ (h.turning i j s.0 s.1)) in
        side_not_inside (tiling t h) i j s.0 d e f s.1 g y c.1 c.0 inside

    go : HasFace t i j ⊎ HasFace t j i → ⊥
    go (inl s) = touches i j w s
    go (inr s) = touches j i (swapped_weights _ _ y w) s

-- ---- corners of one triple among those of another
abbrev IsOneListed : ℕ → ℕ → ℕ → ℕ → Type 0
IsOneListed a b c n = (n ≡ a) ⊎ ((n ≡ b) ⊎ (n ≡ c))

one_of : (a b c n : ℕ) → IsOneListed a b c n ⊎ ((n ≢ a) × (n ≢ b) × (n ≢ c))
one_of a b c n = go (ℕ_discrete n a) (ℕ_discrete n b) (ℕ_discrete n c)
  where
    go : Dec (n ≡ a) → Dec (n ≡ b) → Dec (n ≡ c)
        → IsOneListed a b c n ⊎ ((n ≢ a) × (n ≢ b) × (n ≢ c))
    go (yes e) q r = inl (inl e)
    go (no p) (yes e) r = inl (inr (inl e))
    go (no p) (no q) (yes e) = inl (inr (inr e))
    go (no p) (no q) (no r) = inr (p, q, r)

module _ (at : ℕ → Fraction) where
  -- a b c turns left
  abbrev Left : ℕ → ℕ → ℕ → Type 0
  Left a b c = pos 0 <ℤ bracket (at a) (at b) (at c)

  flat_first : (d e f : ℕ) → Left d e f → d ≡ f → ⊥
  flat_first d e f t q =
      left_not_zero t (ap (λ i. bracket (at d) (at e) (at i)) (sym q) ∙ bracket-first (at d) (at e))

  flat_second : (d e f : ℕ) → Left d e f → e ≡ f → ⊥
  flat_second d e f t q = left_not_zero t
      (ap (λ i. bracket (at d) (at e) (at i)) (sym q) ∙ bracket-second (at d) (at e))

  flat_third : (d e f : ℕ) → Left d e f → d ≡ e → ⊥
  flat_third d e f t q = flat_first e f d (turned-above (at d) (at e) (at f) t) (sym q)

  -- two triples that turn left do not have the same corners in opposite order
  odd : (a b c d e f : ℕ) → Left a b c → Left d e f → d ≡ a → e ≡ c → f ≡ b → ⊥
  odd a b c d e f t s p q r = mirrored (bracket (at a) (at b) (at c)) (bracket (at a) (at c) (at b))
      t (subst₃ (λ i j k. Left i j k) p q r s) (sym (bracket-turned (at a) (at c) (at b))
      ∙ bracket-swapped (at b) (at c) (at a) ∙ ap neg_ℤ (bracket-turned (at a) (at b) (at c)))
    where
      mirrored : (x y : ℤ) → pos 0 <ℤ x → pos 0 <ℤ y → y ≡ neg_ℤ x → ⊥
      mirrored x y h k e = omega (arith, ints)

  from_first : (a b c d e f : ℕ) → Left a b c → Left d e f → d ≡ a → IsOneListed a b c e
      → IsOneListed a b c f → (d ≡ a) × (e ≡ b) × (f ≡ c)
  from_first a b c d e f t s p (inl q) r = absurd (flat_third d e f s (p ∙ sym q))
  from_first a b c d e f t s p (inr (inl q)) (inl r) = absurd (flat_first d e f s (p ∙ sym r))
  from_first a b c d e f t s p (inr (inl q)) (inr (inl r)) =
      absurd (flat_second d e f s (q ∙ sym r))
  from_first a b c d e f t s p (inr (inl q)) (inr (inr r)) = (p, q, r)
  from_first a b c d e f t s p (inr (inr q)) (inl r) = absurd (flat_first d e f s (p ∙ sym r))
  from_first a b c d e f t s p (inr (inr q)) (inr (inl r)) = absurd (odd a b c d e f t s p q r)
  from_first a b c d e f t s p (inr (inr q)) (inr (inr r)) =
      absurd (flat_second d e f s (q ∙ sym r))

  one_of_turned : (a b c n : ℕ) → IsOneListed a b c n → IsOneListed b c a n
  one_of_turned a b c n (inl e) = inr (inr e)
  one_of_turned a b c n (inr (inl e)) = inl e
  one_of_turned a b c n (inr (inr e)) = inr (inl e)

  same_corners : (a b c d e f : ℕ) → Left a b c → Left d e f → IsOneListed a b c d
      → IsOneListed a b c e → IsOneListed a b c f → IsTurned a b c d e f
  same_corners a b c d e f t s (inl p) q r = inl (from_first a b c d e f t s p q r)
  same_corners a b c d e f t s (inr (inl p)) q r = inr (inl (from_first b c a d e f
      (turned-above _ _ _ t) s p (one_of_turned a b c e q) (one_of_turned a b c f r)))
  same_corners a b c d e f t s (inr (inr p)) q r = inr
      (inr (from_first c a b d e f (turned-above _ _ _ (turned-above _ _ _ t)) s p (one_of_turned b
      c a e (one_of_turned a b c e q)) (one_of_turned b c a f (one_of_turned a b c f r))))

face_from_turned : (t : Triangulation) (a b c d e f : ℕ) → IsTurned a b c d e f → IsFace t d e f
    → IsFace t a b c
face_from_turned t a b c d e f (inl p) g = subst₃ (λ i j k. IsFace t i j k) p.0 p.1 p.2 g
face_from_turned t a b c d e f (inr (inl p)) g =
    turned_face t c a b (turned_face t b c a (subst₃ (λ i j k. IsFace t i j k) p.0 p.1 p.2 g))
face_from_turned t a b c d e f (inr (inr p)) g =
    turned_face t c a b (subst₃ (λ i j k. IsFace t i j k) p.0 p.1 p.2 g)

covering_middle : (t : Triangulation) (h : TilesHull t) (a b c : ℕ)
    → IsVertex t a × IsVertex t b × IsVertex t c → (d e f : ℕ) × IsFace t d e f
    × Closed (vertex t d) (vertex t e) (vertex t f) (middle (vertex t a) (vertex t b) (vertex t c))
unfolding tiling middle
covering_middle t h a b c v = let T = tiling t h in
    T.covering (nudge 1 (nudge 1 (vertex t a) (vertex t b)) (vertex t c)) (T.nudge_in_hull 1
    (nudge 1 (vertex t a) (vertex t b)) (vertex t c) (T.nudge_in_hull 1 (vertex t a)
    (vertex t b) (T.vertex_in_hull a v.0) (T.vertex_in_hull b v.1)) (T.vertex_in_hull c v.2))

-- ---- triples that no constraint enters
inside-turned_back : {a b c p : Fraction} → InOpen b c a p → InOpen a b c p
inside-turned_back s = record { first = s.third; second = s.first; third = s.second }

-- no constraint enters the triple, and no vertex that is seen from inside it is inside its circle
pub record IsOpenTriple (t : Triangulation) (constraints : List (ℕ × ℕ)) (i j k : ℕ) : Type 0 where
  pub corners : IsVertex t i × IsVertex t j × IsVertex t k
  pub turns : TurnsLeft (vertex t i) (vertex t j) (vertex t k)
  pub unentered : (p : Fraction) → InOpen (vertex t i) (vertex t j) (vertex t k) p → (m n : ℕ)
      → Joins constraints m n → ¬ OnSegment (vertex t m) (vertex t n) p
  pub outside : (n : ℕ) → IsVertex t n
      → IsSeen t constraints (vertex t i) (vertex t j) (vertex t k) (vertex t n)
      → lift (vertex t i) (vertex t j) (vertex t k) (vertex t n) ≤ℤ pos 0

module _ (t : Triangulation) (constraints : List (ℕ × ℕ)) where
  -- the first corner of one triple is seen from inside the other, from a point strictly inside both
  corner_seen : (a b c d e f : ℕ) (q : Fraction) → IsOpenTriple t constraints a b c
      → TurnsLeft (vertex t d) (vertex t e) (vertex t f)
      → InOpen (vertex t a) (vertex t b) (vertex t c) q
      → InOpen (vertex t d) (vertex t e) (vertex t f) q
      → IsSeen t constraints (vertex t d) (vertex t e) (vertex t f) (vertex t a)
  corner_seen a b c d e f q o turns i j = record {
    from = q;
    inside = triangle_of_inside _ _ _ q turns j;
    free = λ m n u y k l. way_to_corner (vertex t a) (vertex t b) (vertex t c) q y
        (above_if_left _ _ _ o.turns) i (λ s. o.unentered y s m n u l) k;
  }

  open-turned : (a b c : ℕ) → IsOpenTriple t constraints a b c → IsOpenTriple t constraints b c a
  open-turned a b c o = record {
    corners = (o.corners.1, o.corners.2, o.corners.0);
    turns = left_if_above _ _ _
        (turned-above (vertex t a) (vertex t b) (vertex t c) (above_if_left _ _ _ o.turns));
    unentered = λ p s. o.unentered p (inside-turned_back s);
    outside = λ n v s. subst (λ z. z ≤ℤ pos 0)
        (sym (lift-turned (vertex t a) (vertex t b) (vertex t c) (vertex t n)))
        (o.outside n v (record {
          from = s.from;
          inside = triangle_of_inside _ _ _ s.from o.turns
              (inside-turned_back (inside_of _ _ _ s.from (left_if_above _ _ _ (turned-above
              (vertex t a) (vertex t b) (vertex t c) (above_if_left _ _ _ o.turns))) s.inside));
          free = s.free;
        }));
  }

  -- two such triples that overlap have one circle
  pub overlapping : (a b c d e f : ℕ) (q : Fraction) → IsOpenTriple t constraints a b c
      → IsOpenTriple t constraints d e f → InOpen (vertex t a) (vertex t b) (vertex t c) q
      → InOpen (vertex t d) (vertex t e) (vertex t f) q
      → OneCircle (vertex t a) (vertex t b) (vertex t c) (vertex t d) (vertex t e) (vertex t f)
  overlapping a b c d e f q o p i j =
      let o₂ = open-turned a b c o in let o₃ = open-turned b c a o₂ in
      let p₂ = open-turned d e f p in let p₃ = open-turned e f d p₂ in
      one_circle (vertex t a) (vertex t b) (vertex t c) (vertex t d) (vertex t e) (vertex t f) q i j
      (p.outside a o.corners.0 (corner_seen a b c d e f q o p.turns i j))
      (p.outside b o.corners.1 (corner_seen b c a d e f q o₂ p.turns (inside-turned i) j))
      (p.outside c o.corners.2
      (corner_seen c a b d e f q o₃ p.turns (inside-turned (inside-turned i)) j))
      (o.outside d p.corners.0 (corner_seen d e f a b c q p o.turns j i))
      (o.outside e p.corners.1 (corner_seen e f d a b c q p₂ o.turns (inside-turned j) i))
      (o.outside f p.corners.2
      (corner_seen f d e a b c q p₃ o.turns (inside-turned (inside-turned j)) i))

  -- the triple of a face is open
  pub face_open : (h : TilesHull t) → IsConstrainedDelaunay t constraints → (i j k : ℕ)
      → IsFace t i j k → IsOpenTriple t constraints i j k
  face_open h D i j k f = record {
    corners = h.corners i j k f;
    turns = h.turning i j k f;
    unentered = λ p s m n u l. edge_not_inside t h m n i j k p (D.kept m n u) f l s;
    outside = λ n v s. circle_lift t i j k n (h.turning i j k f) (D.empty i j k n f v s);
  }

module _ (t : Triangulation) (constraints : List (ℕ × ℕ)) (a b c : ℕ)
    (s : IsVisiblyEmpty t constraints a b c) where
  corner_lift : (n : ℕ) → IsOneListed a b c n
      → lift (vertex t a) (vertex t b) (vertex t c) (vertex t n) ≡ pos 0
  corner_lift n (inl e) = ap (λ i. lift (vertex t a) (vertex t b) (vertex t c) (vertex t i)) e
      ∙ lift-first (vertex t a) (vertex t b) (vertex t c)
  corner_lift n (inr (inl e)) = ap (λ i. lift (vertex t a) (vertex t b) (vertex t c) (vertex t i)) e
      ∙ lift-second (vertex t a) (vertex t b) (vertex t c)
  corner_lift n (inr (inr e)) = ap (λ i. lift (vertex t a) (vertex t b) (vertex t c) (vertex t i)) e
      ∙ lift-third (vertex t a) (vertex t b) (vertex t c)

  empty_open : IsOpenTriple t constraints a b c
  empty_open = record {
    corners = s.corners;
    turns = s.turns;
    unentered = λ p i. s.unentered p (triangle_of_inside _ _ _ p s.turns i);
    outside = λ n v seen. low n v seen (one_of a b c n);
  }
    where
      low : (n : ℕ) → IsVertex t n
          → IsSeen t constraints (vertex t a) (vertex t b) (vertex t c) (vertex t n)
          → IsOneListed a b c n ⊎ ((n ≢ a) × (n ≢ b) × (n ≢ c))
          → lift (vertex t a) (vertex t b) (vertex t c) (vertex t n) ≤ℤ pos 0
      low n v seen (inl o) = zero_weak (corner_lift n o)
      low n v seen (inr d) = circle_lift t a b c n s.turns (s.clear n v d.0 d.1 d.2 seen).0

  -- a seen vertex that the circle carries is a corner
  carried : (n : ℕ) → IsVertex t n
      → IsSeen t constraints (vertex t a) (vertex t b) (vertex t c) (vertex t n)
      → lift (vertex t a) (vertex t b) (vertex t c) (vertex t n) ≡ pos 0 → IsOneListed a b c n
  carried n v seen z = go (one_of a b c n)
    where
      go : IsOneListed a b c n ⊎ ((n ≢ a) × (n ≢ b) × (n ≢ c)) → IsOneListed a b c n
      go (inl o) = o
      go (inr d) = absurd ((s.clear n v d.0 d.1 d.2 seen).1
          ((on_is_lift (spot t a) (spot t b) (spot t c) (spot t n) s.turns).1 z))

  overlapped : (h : TilesHull t) → IsConstrainedDelaunay t constraints → (d e f : ℕ) (q : Fraction)
      → IsFace t d e f → InOpen (vertex t a) (vertex t b) (vertex t c) q
      → InOpen (vertex t d) (vertex t e) (vertex t f) q → IsFace t a b c
  overlapped h D d e f q g i j =
      let p = face_open t constraints h D d e f g in
      let o = empty_open in
      let one = overlapping t constraints a b c d e f q o p i j in
      let p₂ = open-turned t constraints d e f p in let p₃ = open-turned t constraints e f d p₂ in
      face_from_turned t a b c d e f (same_corners (vertex t) a b c d e f
      (above_if_left _ _ _ s.turns) (above_if_left _ _ _ p.turns)
      (carried d p.corners.0 (corner_seen t constraints d e f a b c q p s.turns j i) one.fourth)
      (carried e p.corners.1
      (corner_seen t constraints e f d a b c q p₂ s.turns (inside-turned j) i) one.fifth)
      (carried f p.corners.2 (corner_seen t constraints f d e a b c q p₃ s.turns
      (inside-turned (inside-turned j)) i) one.sixth)) g

  -- a visibly empty triple is a face
  pub visibly_empty_is_face : IsConstrainedDelaunay t constraints → IsFace t a b c
  visibly_empty_is_face D = go D.tiling
    where
      go : IsTiling t → IsFace t a b c
      go (inl h) = found (covering_middle t h a b c s.corners)
        where
          found : (d e f : ℕ) × IsFace t d e f × Closed (vertex t d) (vertex t e) (vertex t f)
              (middle (vertex t a) (vertex t b) (vertex t c)) → IsFace t a b c
          found r = next (both_inside (vertex t r.0) (vertex t r.1) (vertex t r.2) (vertex t a)
              (vertex t b) (vertex t c) (middle (vertex t a) (vertex t b) (vertex t c))
              (above_if_left _ _ _ (h.turning r.0 r.1 r.2 r.3)) r.4
              (middle-inside (vertex t a) (vertex t b) (vertex t c) (above_if_left _ _ _ s.turns)))
            where
              next : (y : Fraction) × InOpen (vertex t r.0) (vertex t r.1) (vertex t r.2) y
                  × InOpen (vertex t a) (vertex t b) (vertex t c) y → IsFace t a b c
              next y = overlapped h D r.0 r.1 r.2 y.0 r.3 y.2 y.1
      go (inr l) = absurd (straight_line t l a b c s.corners.0 s.corners.1 s.corners.2 s.turns)

-- without constraints: a strictly empty triple is a face
pub strictly_empty_is_face : (t : Triangulation) → IsConstrainedDelaunay t [] → (i j k : ℕ)
    → IsStrictlyEmpty t i j k → IsFace t i j k
strictly_empty_is_face t D i j k s = visibly_empty_is_face t [] i j k (record {
  corners = s.corners;
  turns = s.turns;
  unentered = λ p i m n u. absurd (none_joined m n u);
  clear = λ n v p q r _. s.clear n v p q r;
}) D
  where
    none_joined : (m n : ℕ) → ¬ Joins [] m n
    none_joined m n (inl c) = absurd (omega (arith, c.1))
    none_joined m n (inr c) = absurd (omega (arith, c.1))
