-- A point off all lines, right of every outer edge, is strictly inside exactly one face: the
-- crossings of a ray are counted over faces and outer edges.
-- at p i: the point with index i as a triple
-- SignMesh n p faces outer: what `LocalMesh` says, by signs of brackets
-- corners_differ: the corners of a triple that turns left have different indexes
-- within_turned: strictly within a segment, so within it read from its other end
-- same_index, same_place: equal points have one index; so have points at one place of a line
-- hits p q f: 1 where q is strictly inside face f, and 0 else
-- total_hits: exactly one face has q strictly inside
use Rattle.std.proofs.Common.{◌≡◌, ◌⊎◌, ℕ, ◌<◌, List, [], ◌∷◌, sym, ap, ◌∙◌, subst}
use mathlib.Core.Logic.{inl, inr, ◌≢◌}
use Rattle.std.specs.Prelude.{ℤ, pos, negsuc, ◌+ℤ◌, ◌*ℤ◌, ◌≤ℤ◌, ◌<ℤ◌, neg_ℤ, Contains, AllPairs}
use Rattle.std.proofs.lemmas.Bool.{cases_eq}
use Rattle.plane.specs.{Face, IsPositive, Point, whole, WithinSegment}
use Rattle.plane.proofs.{AllDiffer, both_signs, bracket, bracket-last, bracket-moved, bracket-outer}
use Rattle.plane.proofs.{bracket-same, bracket-swap, bracket-turn, cramer_w, Inside, IsOneToOne}
use Rattle.plane.proofs.{left_not_zero, lift, moved, mul-nonneg_of_nonpos_ℤ}
use Rattle.plane.proofs.{mul-nonpos_of_nonneg_nonpos_ℤ, mul-pos_ℤ, negated_left, place_of_start}
use Rattle.plane.proofs.{place_on, right_not_zero, same_by_places, sum_not_positive, sum_of_zeros}
use Rattle.plane.proofs.{trichotomy_ℤ, turned_mean_of_two, Vec3, weak, weak_right, zero-mul_ℤ}
use Rattle.{plane.proofs.zero_of_mul-zero_ℤ, plane_theorems.proofs.Tiling.Totals.total_single}
use Rattle.plane.proofs.BracketIdentities.{passing, passing_w, rays}
use Rattle.plane.proofs.{Collinear.passing_place, Collinear.place-moved, Signs.negation_is_positive}
use Rattle.plane.proofs.Crossings.{crossing, crossing_back, crossing_not_from_left}
use Rattle.plane.proofs.Crossings.{crossings_of_triangle, hit, hit_all, hit_is, left_turn, turn}
use Rattle.plane.proofs.Crossings.{turn-negated, turn_left, turn_right}
use Rattle.plane.proofs.{Generic.IsGeneric, Generic.spot, LineOrder.overlap_by_average}
use Rattle.plane.proofs.Nudges.{bracket-moved_first, nudge_each, Nudged, nudged_zero}
use Rattle.plane_theorems.specs.{along, AreBalanced, around, IsAntisymmetric, IsCorner, total}
use Rattle.plane_theorems.proofs.Tiling.StepsOfCounting.{all_zero, average_from, minus_one_and}
use Rattle.plane_theorems.proofs.Tiling.StepsOfCounting.{one_more, sum_is_positive, weight_below}
use Rattle.plane_theorems.proofs.Tiling.StepsOfCounting.{weights_from, zero_plus'}
use Rattle.plane_theorems.proofs.Tiling.Totals.{Contains-head, total_agree, total_at_least}

-- the point of index i, in homogeneous form
abbrev pub at : (ℕ → Point) → ℕ → Vec3
at p i = lift (p i)

-- the ends of the pair are two indexes below n
abbrev pub IsPairBelow : ℕ → ℕ × ℕ → Type 0
IsPairBelow n e = (e.0 < n) × (e.1 < n) × (e.0 ≢ e.1)

-- each pair of the list is such a pair
abbrev pub ArePairsBelow : ℕ → List (ℕ × ℕ) → Type 0
ArePairsBelow n pairs = (e : ℕ × ℕ) → Contains pairs e → IsPairBelow n e

-- the local invariant, by signs of determinants
pub record SignMesh (n : ℕ) (p : ℕ → Point) (faces : List Face)
    (outer : List (ℕ × ℕ)) : Type 0 where
  pub distinct : AllDiffer n p
  pub some_face : (f : Face) × Contains faces f
  pub used : (k : ℕ) → k < n → ((f : Face) × Contains faces f × IsCorner f k)
      ⊎ ((e : ℕ × ℕ) × Contains outer e × ((k ≡ e.0) ⊎ (k ≡ e.1)))
  pub corners : (f : Face) → Contains faces f → (f.a < n) × (f.b < n) × (f.c < n)
  pub turning : (f : Face) → Contains faces f → pos 0 <ℤ bracket (at p f.a) (at p f.b) (at p f.c)
  pub ends : ArePairsBelow n outer
  pub supporting : (e : ℕ × ℕ) → Contains outer e → (k : ℕ) → k < n
      → bracket (at p e.0) (at p e.1) (at p k) ≤ℤ pos 0
  pub bare : (e : ℕ × ℕ) → Contains outer e → (k : ℕ) → k < n
      → ¬ WithinSegment (whole (p e.0)) (whole (p e.1)) (whole (p k))
  pub once : AllPairs (λ d e. d ≢ e) outer
  pub balanced : AreBalanced faces outer

-- where the first n points differ, indexes with one point are one
pub same_index : (n : ℕ) (p : ℕ → Point) → AllDiffer n p → IsOneToOne n p
same_index n p distinct i j h k e = go (cases_eq i j)
  where
    go : (i ≡ j) ⊎ (i ≡ j → ⊥) → i ≡ j
    go (inl s) = s
    go (inr s) = absurd (distinct i j h k s e)

-- points of a line at one place have one index
pub same_place : (n : ℕ) (p : ℕ → Point) → AllDiffer n p → (u v : Point) → ¬ (u ≡ v) → (i j : ℕ)
    → i < n → j < n → bracket (lift u) (lift v) (at p i) ≡ pos 0
    → bracket (lift u) (lift v) (at p j) ≡ pos 0
    → place_on u v (at p i) ≡ place_on u v (at p j) → i ≡ j
same_place n p distinct u v apart i j h k on_i on_j e =
    same_index n p distinct i j h k (same_by_places u v apart (p i) (p j) on_i on_j e)

-- the corners of a triple that turns left have three indexes
pub corners_differ : (p : ℕ → Point) (a b c : ℕ) → pos 0 <ℤ bracket (at p a) (at p b) (at p c)
    → (a ≢ b) × (b ≢ c) × (c ≢ a)
corners_differ p a b c h = (
  (λ e. left_not_zero h
      (ap (λ i. bracket (at p a) (at p i) (at p c)) (sym e) ∙ bracket-same (at p a) (at p c))),
  (λ e. left_not_zero h
      (ap (λ i. bracket (at p a) (at p b) (at p i)) (sym e) ∙ bracket-last (at p a) (at p b))),
  (λ e. left_not_zero h
      (ap (λ i. bracket (at p a) (at p b) (at p i)) e ∙ bracket-outer (at p a) (at p b))),
)

-- a point strictly within a segment is so the other way round
pub within_turned : (a b c : Point) → WithinSegment (whole a) (whole b) (whole c)
    → WithinSegment (whole b) (whole a) (whole c)
within_turned a b c h = turned_mean_of_two IsPositive (whole a) (whole b) (whole c) h

-- ---- the crossings of the ray from q to x
flow_of : (ℕ → Point) → Vec3 → Vec3 → ℕ → ℕ → ℤ
flow_of p q x s t = crossing (turn (bracket x (at p s) q)) (turn (bracket x (at p t) q))
    (turn (bracket (at p s) (at p t) q))

flow_is_antisymmetric : (p : ℕ → Point) (q x : Vec3) → IsAntisymmetric (flow_of p q x)
unfolding flow_of
flow_is_antisymmetric p q x s t =
    crossing_back (turn (bracket x (at p s) q)) (turn (bracket x (at p t) q))
    (turn (bracket (at p s) (at p t) q))
    ∙ ap (λ o. neg_ℤ (crossing (turn (bracket x (at p t) q)) (turn (bracket x (at p s) q)) o))
    (sym (turn-negated (bracket (at p s) (at p t) q))
    ∙ ap turn (sym (bracket-swap (at p t) (at p s) q)))

-- whether q is strictly inside f
pub hits : (ℕ → Point) → Vec3 → Face → ℤ
hits p q f = hit (turn (bracket (at p f.a) (at p f.b) q)) (turn (bracket (at p f.b) (at p f.c) q))
    (turn (bracket (at p f.c) (at p f.a) q))

-- a face counts 0 or 1
pub hits_is : (p : ℕ → Point) (q : Vec3) (f : Face) → (hits p q f ≡ pos 0) ⊎ (hits p q f ≡ pos 1)
unfolding hits
hits_is p q f = hit_is (turn (bracket (at p f.a) (at p f.b) q))
    (turn (bracket (at p f.b) (at p f.c) q)) (turn (bracket (at p f.c) (at p f.a) q))

-- a face counts 1 where the point is strictly inside it
pub hits_inside : (p : ℕ → Point) (q : Vec3) (f : Face) → Inside (at p f.a) (at p f.b) (at p f.c) q
    → hits p q f ≡ pos 1
unfolding hits
hits_inside p q f i = λ k. hit (turn_left (bracket (at p f.a) (at p f.b) q) i.first k)
    (turn_left (bracket (at p f.b) (at p f.c) q) i.second k)
    (turn_left (bracket (at p f.c) (at p f.a) q) i.third k)

-- where a face counts 1, the point is strictly inside it
pub inside_hits : (p : ℕ → Point) (q : Vec3) (f : Face) → hits p q f ≡ pos 1
    → Inside (at p f.a) (at p f.b) (at p f.c) q
unfolding hits
inside_hits p q f e =
    let h = hit_all (turn (bracket (at p f.a) (at p f.b) q))
    (turn (bracket (at p f.b) (at p f.c) q)) (turn (bracket (at p f.c) (at p f.a) q)) e in
    record {
      first = left_turn (bracket (at p f.a) (at p f.b) q) h.0;
      second = left_turn (bracket (at p f.b) (at p f.c) q) h.1;
      third = left_turn (bracket (at p f.c) (at p f.a) q) h.2;
    }

-- what a face counts is not below 0
pub hits_nonneg : (p : ℕ → Point) (q : Vec3) (f : Face) → pos 0 ≤ℤ hits p q f
hits_nonneg p q f = go (hits_is p q f)
  where
    go : (hits p q f ≡ pos 0) ⊎ (hits p q f ≡ pos 1) → pos 0 ≤ℤ hits p q f
    go (inl e) = subst (λ z. pos 0 ≤ℤ z) (sym e) (record { le = tt })
    go (inr e) = subst (λ z. pos 0 ≤ℤ z) (sym e) (record { le = tt })

-- a ray on which no vertex is: towards a point between u and v, near v
record Ray (n : ℕ) (p : ℕ → Point) (q : Vec3) (u v : ℕ) : Type 0 where
  k : ℤ
  positive : pos 0 <ℤ k
  sides : (z : ℕ) → z < n → Nudged (bracket (at p v) (at p z) q) (bracket (at p u) (at p z) q)
      (bracket (moved k (at p v) (at p u)) (at p z) q)

-- there is such a ray for each u and v
ray : (n : ℕ) (p : ℕ → Point) (q : Vec3) (u v : ℕ) → Ray n p q u v
ray n p q u v =
    let m = nudge_each n (λ z. bracket (at p v) (at p z) q) (λ z. bracket (at p u) (at p z) q) in
    record {
      k = m.0;
      positive = m.1;
      sides = λ z h. subst (Nudged (bracket (at p v) (at p z) q) (bracket (at p u) (at p z) q))
          (sym (bracket-moved_first m.0 (at p v) (at p u) (at p z) q)) (m.2 z h);
    }

module _ (n : ℕ) (p : ℕ → Point) (q : Vec3) (g : IsGeneric n p q) where
  ray_off : (u v : ℕ) → u < n → v < n → u ≢ v → (r : Ray n p q u v) (z : ℕ) → z < n
      → ¬ (bracket (moved r.k (at p v) (at p u)) (at p z) q ≡ pos 0)
  ray_off u v hu hv apart r z h e =
      let both = nudged_zero (bracket (at p v) (at p z) q) (bracket (at p u) (at p z) q)
      (bracket (moved r.k (at p v) (at p u)) (at p z) q) (r.sides z h) e in
      go both.0 both.1 (cases_eq v z)
    where
      go : bracket (at p v) (at p z) q ≡ pos 0 → bracket (at p u) (at p z) q ≡ pos 0
          → (v ≡ z) ⊎ (v ≡ z → ⊥) → ⊥
      go a b (inl s) = g.off u v hu hv apart (ap (λ i. bracket (at p u) (at p i) q) s ∙ b)
      go a b (inr s) = g.off v z hv h s a

  flow_around : (f : Face) → f.a < n → f.b < n → f.c < n
      → pos 0 <ℤ bracket (at p f.a) (at p f.b) (at p f.c) → (x : Vec3)
      → ¬ (bracket x (at p f.a) q ≡ pos 0) → ¬ (bracket x (at p f.b) q ≡ pos 0)
      → ¬ (bracket x (at p f.c) q ≡ pos 0) → around (flow_of p q x) f ≡ hits p q f
  unfolding flow_of hits
  flow_around f ha hb hc turns x xa xb xc =
      let d = corners_differ p f.a f.b f.c turns in
      crossings_of_triangle (bracket x (at p f.a) q) (bracket x (at p f.b) q)
      (bracket x (at p f.c) q) (bracket (at p f.a) (at p f.b) q)
      (bracket (at p f.b) (at p f.c) q) (bracket (at p f.c) (at p f.a) q)
      xa xb xc (g.off f.a f.b ha hb d.0) (g.off f.b f.c hb hc d.1) (g.off f.c f.a hc ha d.2)
      (rays (at p f.a) (at p f.b) (at p f.c) q x)
      (sum_is_positive (bracket (at p f.a) (at p f.b) (at p f.c) *ℤ q.w) (bracket (at p f.b)
      (at p f.c) q) (bracket (at p f.c) (at p f.a) q) (bracket (at p f.a) (at p f.b) q)
      (cramer_w (at p f.a) (at p f.b) (at p f.c) q) (mul-pos_ℤ turns g.weight))

  module _ (faces : List Face) (outer : List (ℕ × ℕ)) (m : SignMesh n p faces outer) where
    total_flow : (u v : ℕ) → u < n → v < n → u ≢ v → (r : Ray n p q u v) → total (hits p q) faces
        +ℤ total (along (flow_of p q (moved r.k (at p v) (at p u)))) outer ≡ pos 0
    total_flow u v hu hv apart r =
        let x = moved r.k (at p v) (at p u) in
        let off = ray_off u v hu hv apart r in
        ap (λ t. t +ℤ total (along (flow_of p q x)) outer) (sym
        (total_agree (around (flow_of p q x)) (hits p q) faces (λ f h. let c = m.corners f h in
        flow_around f c.0 c.1 c.2 (m.turning f h) x (off f.a c.0) (off f.b c.1) (off f.c c.2))))
        ∙ m.balanced (flow_of p q x) (flow_is_antisymmetric p q x)

    -- two outer edges, with q on the right of both, that the ray crosses the same way
    module _ (u v s t : ℕ) (first : Contains outer (u, v)) (second : Contains outer (s, t))
        (q_first : bracket (at p u) (at p v) q <ℤ pos 0)
        (q_second : bracket (at p s) (at p t) q <ℤ pos 0) (k : ℤ) (k_positive : pos 0 <ℤ k)
        (s_left : pos 0 <ℤ bracket (moved k (at p v) (at p u)) (at p s) q)
        (t_right : bracket (moved k (at p v) (at p u)) (at p t) q <ℤ pos 0) where
      abbrev x : Vec3
      x = moved k (at p v) (at p u)

      on_own_line : bracket (at p u) (at p v) x ≡ pos 0
      on_own_line = bracket-moved (at p u) (at p v) k (at p v) (at p u) ∙ sum_of_zeros
          (k *ℤ bracket (at p u) (at p v) (at p v)) (bracket (at p u) (at p v) (at p u))
          (zero-mul_ℤ k (bracket-last (at p u) (at p v))) (bracket-outer (at p u) (at p v))

      seen_below : bracket x (at p s) (at p t) ≤ℤ pos 0
      seen_below =
          let a = subst (λ z. z ≤ℤ pos 0) (sym (bracket-turn (at p v) (at p s) (at p t)))
          (m.supporting (s, t) second v (m.ends (u, v) first).1) in
          let b = subst (λ z. z ≤ℤ pos 0) (sym (bracket-turn (at p u) (at p s) (at p t)))
          (m.supporting (s, t) second u (m.ends (u, v) first).0) in
          sum_not_positive (bracket x (at p s) (at p t)) (k *ℤ bracket (at p v) (at p s) (at p t))
          (bracket (at p u) (at p s) (at p t)) (bracket-moved_first k (at p v) (at p u) (at p s)
          (at p t)) (mul-nonpos_of_nonneg_nonpos_ℤ (weak k_positive) a) b

      zeros : (bracket x (at p s) q *ℤ bracket (at p u) (at p v) (at p t) ≡ pos 0)
          × (bracket x (at p t) q *ℤ bracket (at p u) (at p v) (at p s) ≡ pos 0)
          × (bracket x (at p s) (at p t) *ℤ bracket (at p u) (at p v) q ≡ pos 0)
      zeros = all_zero (bracket x (at p s) q *ℤ bracket (at p u) (at p v) (at p t))
          (bracket x (at p t) q *ℤ bracket (at p u) (at p v) (at p s))
          (bracket x (at p s) (at p t) *ℤ bracket (at p u) (at p v) q)
          (bracket (at p s) (at p t) q *ℤ bracket (at p u) (at p v) x)
          (passing (at p u) (at p v) x (at p s) (at p t) q)
          (mul-nonpos_of_nonneg_nonpos_ℤ (weak s_left)
          (m.supporting (u, v) first t (m.ends (s, t) second).1))
          (mul-nonneg_of_nonpos_ℤ (weak_right t_right)
          (m.supporting (u, v) first s (m.ends (s, t) second).0))
          (mul-nonneg_of_nonpos_ℤ seen_below (weak_right q_first))
          (zero-mul_ℤ (bracket (at p s) (at p t) q) on_own_line)

      -- t is on the line of the first edge
      on_t : bracket (at p u) (at p v) (at p t) ≡ pos 0
      on_t = zero_of_mul-zero_ℤ (λ e. left_not_zero s_left e) zeros.0

      -- and so is s
      on_s : bracket (at p u) (at p v) (at p s) ≡ pos 0
      on_s = zero_of_mul-zero_ℤ (λ e. right_not_zero t_right e) zeros.1

      -- s and t are on one line with x
      flat : bracket x (at p s) (at p t) ≡ pos 0
      flat = go (trichotomy_ℤ (bracket x (at p s) (at p t)))
        where
          go : (bracket x (at p s) (at p t) <ℤ pos 0)
              ⊎ ((bracket x (at p s) (at p t) ≡ pos 0) ⊎ (pos 0 <ℤ bracket x (at p s) (at p t)))
              → bracket x (at p s) (at p t) ≡ pos 0
          go (inl h) =
              absurd (right_not_zero q_first (zero_of_mul-zero_ℤ (λ e. right_not_zero h e) zeros.2))
          go (inr (inl h)) = h
          go (inr (inr h)) =
              absurd (right_not_zero q_first (zero_of_mul-zero_ℤ (λ e. left_not_zero h e) zeros.2))

      apart : ¬ (p u ≡ p v)
      apart = let e = m.ends (u, v) first in m.distinct u v e.0 e.1 e.2

      abbrev place : ℕ → ℤ
      place i = place_on (p u) (p v) (at p i)

      average : bracket x (at p s) q *ℤ place t +ℤ neg_ℤ (bracket x (at p t) q) *ℤ place s
          ≡ (neg_ℤ (bracket (at p s) (at p t) q) *ℤ k) *ℤ place v
      average = average_from (bracket x (at p s) (at p t)) (place_on (p u) (p v) q)
          (bracket x (at p s) q) (place t) (bracket x (at p t) q) (place s)
          (bracket (at p s) (at p t) q) (place_on (p u) (p v) x) k (place v)
          flat (place-moved (p u) (p v) k (at p v) (at p u)
          ∙ ap (λ z. k *ℤ place v +ℤ z) (place_of_start (p u) (p v)) ∙ plus_zero (k *ℤ place v))
          (passing_place (p u) (p v) x (at p s) (at p t) q)
        where
          plus_zero : (z : ℤ) → z +ℤ pos 0 ≡ z
          plus_zero z = zero_plus' z

      weights : bracket x (at p s) q +ℤ neg_ℤ (bracket x (at p t) q)
          ≡ neg_ℤ (bracket (at p s) (at p t) q) *ℤ (k +ℤ pos 1)
      weights = weights_from (bracket x (at p s) (at p t)) q.w (bracket x (at p s) q) (bracket x
          (at p t) q) (bracket (at p s) (at p t) q) k flat (passing_w x (at p s) (at p t) q)

      ends_first : (u < n) × (v < n) × (u ≢ v)
      ends_first = m.ends (u, v) first

      ends_second : (s < n) × (t < n) × (s ≢ t)
      ends_second = m.ends (s, t) second

      -- the two outer edges that are crossed at one place are one
      pub crossed_is_first : (s ≡ u) × (t ≡ v)
      crossed_is_first =
          go (overlap_by_average (p u) (p v) (p s) (p t) apart on_s on_t (bracket x (at p s) q)
          (neg_ℤ (bracket x (at p t) q)) (neg_ℤ (bracket (at p s) (at p t) q) *ℤ k)
          s_left (negation_is_positive (bracket x (at p t) q) t_right)
          (mul-pos_ℤ (negation_is_positive (bracket (at p s) (at p t) q) q_second) k_positive)
          average (weight_below (bracket x (at p s) q +ℤ neg_ℤ (bracket x (at p t) q))
          (neg_ℤ (bracket (at p s) (at p t) q)) k weights
          (negation_is_positive (bracket (at p s) (at p t) q) q_second))
          (m.bare (u, v) first s ends_second.0) (m.bare (u, v) first t ends_second.1)
          (m.bare (s, t) second u ends_first.0) (m.bare (s, t) second v ends_first.1))
        where
          go : ((p s ≡ p u) × (p t ≡ p v)) ⊎ ((p s ≡ p v) × (p t ≡ p u)) → (s ≡ u) × (t ≡ v)
          go (inl e) = (
            same_index n p m.distinct s u ends_second.0 ends_first.0 e.0,
            same_index n p m.distinct t v ends_second.1 ends_first.1 e.1,
          )
          go (inr e) =
              let a = same_index n p m.distinct s v ends_second.0 ends_first.1 e.0 in
              let b = same_index n p m.distinct t u ends_second.1 ends_first.0 e.1 in
              absurd (both_signs (negated_left (bracket-swap (at p v) (at p u) q) q_first)
              (subst (λ z. z <ℤ pos 0) (λ i. bracket (at p (a i)) (at p (b i)) q) q_second))

    -- the outer edges count -1
    module _ (e : ℕ × ℕ) (h : Contains outer e) (below : (d : ℕ × ℕ) → Contains outer d
        → bracket (at p d.0) (at p d.1) q <ℤ pos 0) (r : Ray n p q e.0 e.1) where
      abbrev far : Vec3
      far = moved r.k (at p e.1) (at p e.0)

      first_left : pos 0 <ℤ bracket far (at p e.0) q
      first_left = (r.sides e.0 (m.ends e h).0).left
          (negated_left (bracket-swap (at p e.1) (at p e.0) q) (below e h))

      second_right : bracket far (at p e.1) q <ℤ pos 0
      second_right = subst (λ z. z <ℤ pos 0)
          (sym ((r.sides e.1 (m.ends e h).1).on (bracket-same (at p e.1) q))) (below e h)

      -- the ray crosses e, which counts -1
      own : crossing (turn (bracket far (at p e.0) q)) (turn (bracket far (at p e.1) q))
          (turn (bracket (at p e.0) (at p e.1) q)) ≡ negsuc 0
      own i = crossing (turn_left (bracket far (at p e.0) q) first_left i)
          (turn_right (bracket far (at p e.1) q) second_right i)
          (turn_right (bracket (at p e.0) (at p e.1) q) (below e h) i)

      -- another outer edge counts 0
      none : (d : ℕ × ℕ) → Contains outer d → ¬ (d ≡ e) → (bracket far (at p d.0) q <ℤ pos 0)
          ⊎ ((bracket far (at p d.0) q ≡ pos 0) ⊎ (pos 0 <ℤ bracket far (at p d.0) q))
          → (bracket far (at p d.1) q <ℤ pos 0)
          ⊎ ((bracket far (at p d.1) q ≡ pos 0) ⊎ (pos 0 <ℤ bracket far (at p d.1) q))
          → crossing (turn (bracket far (at p d.0) q)) (turn (bracket far (at p d.1) q))
          (turn (bracket (at p d.0) (at p d.1) q)) ≡ pos 0
      none d i away (inl a) b = (λ j. crossing (turn_right (bracket far (at p d.0) q) a j) (turn
          (bracket far (at p d.1) q)) (turn_right (bracket (at p d.0) (at p d.1) q) (below d i) j))
          ∙ crossing_not_from_left (turn (bracket far (at p d.1) q))
      none d i away (inr (inl a)) b = absurd
          (ray_off e.0 e.1 (m.ends e h).0 (m.ends e h).1 (m.ends e h).2 r d.0 (m.ends d i).0 a)
      none d i away (inr (inr a)) (inr (inl b)) = absurd
          (ray_off e.0 e.1 (m.ends e h).0 (m.ends e h).1 (m.ends e h).2 r d.1 (m.ends d i).1 b)
      none d i away (inr (inr a)) (inr (inr b)) = λ j. crossing
          (turn_left (bracket far (at p d.0) q) a j) (turn_left (bracket far (at p d.1) q) b j)
          (turn_right (bracket (at p d.0) (at p d.1) q) (below d i) j)
      none d i away (inr (inr a)) (inl b) = absurd (let c = crossed_is_first e.0 e.1 d.0 d.1 h i
          (below e h) (below d i) r.k r.positive a b in away (λ j. (c.0 j, c.1 j)))

      -- each outer edge is e or counts 0
      each : (d : ℕ × ℕ) → Contains outer d
          → (d ≡ e) ⊎ ((d ≢ e) × (crossing (turn (bracket far (at p d.0) q))
          (turn (bracket far (at p d.1) q)) (turn (bracket (at p d.0) (at p d.1) q)) ≡ pos 0))
      each d i = go (cases_eq d.0 e.0) (cases_eq d.1 e.1)
        where
          else : ¬ (d ≡ e) → (d ≡ e) ⊎ ((d ≢ e) × (crossing (turn (bracket far (at p d.0) q))
              (turn (bracket far (at p d.1) q)) (turn (bracket (at p d.0) (at p d.1) q)) ≡ pos 0))
          else away = inr (
            away,
            none d i away (trichotomy_ℤ (bracket far (at p d.0) q))
                (trichotomy_ℤ (bracket far (at p d.1) q)),
          )

          go : (d.0 ≡ e.0) ⊎ (d.0 ≡ e.0 → ⊥) → (d.1 ≡ e.1) ⊎ (d.1 ≡ e.1 → ⊥)
              → (d ≡ e) ⊎ ((d ≢ e) × (crossing (turn (bracket far (at p d.0) q))
              (turn (bracket far (at p d.1) q)) (turn (bracket (at p d.0) (at p d.1) q)) ≡ pos 0))
          go (inl a) (inl b) = inl (λ j. (a j, b j))
          go (inr a) b = else (λ s. a (ap (λ o. o.0) s))
          go (inl a) (inr b) = else (λ s. b (ap (λ o. o.1) s))

      outer_total : total (along (flow_of p q (moved r.k (at p e.1) (at p e.0)))) outer ≡ negsuc 0
      unfolding flow_of
      outer_total = total_single (along (flow_of p q (moved r.k (at p e.1) (at p e.0)))) outer e
          (negsuc 0) h m.once own each

-- there is an outer edge
pub outer_edge : (n : ℕ) (p : ℕ → Point) (faces : List Face) (outer : List (ℕ × ℕ))
    → SignMesh n p faces outer → (e : ℕ × ℕ) × Contains outer e
outer_edge n p faces [] m =
    let f = m.some_face.0 in
    let h = m.some_face.1 in
    let c = m.corners f h in
    let d = spot n p m.distinct f.a f.b f.c c.0 c.1 c.2 (m.turning f h) in
    let r = ray n p d.0 f.a f.b in
    let t = total_flow n p d.0 d.1.generic faces [] m f.a f.b c.0 c.1
    (corners_differ p f.a f.b f.c (m.turning f h)).0 r in
    let at_least = total_at_least (hits p d.0) faces (λ g _. hits_nonneg p d.0 g) f h in
    absurd (minus_one_and (hits p d.0 f) (total (hits p d.0) faces) at_least
    (hits_inside p d.0 f d.1.inside) t)
outer_edge n p faces (e ∷ es) m = (e, Contains-head e es)

-- exactly one face has q strictly inside
pub total_hits : (n : ℕ) (p : ℕ → Point) (faces : List Face) (outer : List (ℕ × ℕ))
    → SignMesh n p faces outer → (q : Vec3) → IsGeneric n p q
    → ((e : ℕ × ℕ) → Contains outer e → bracket (at p e.0) (at p e.1) q <ℤ pos 0)
    → total (hits p q) faces ≡ pos 1
total_hits n p faces outer m q g below =
    let e = outer_edge n p faces outer m in
    let h = m.ends e.0 e.1 in
    let r = ray n p q e.0.0 e.0.1 in
    one_more (total (hits p q) faces)
    (total (along (flow_of p q (moved r.k (at p e.0.1) (at p e.0.0)))) outer)
    (total_flow n p q g faces outer m e.0.0 e.0.1 h.0 h.1 h.2 r)
    (outer_total n p q g faces outer m e.0 e.1 below r)
