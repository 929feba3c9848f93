-- What a segment meets first from past the end of a line of vertices: the vertex there, or nothing.
-- Lemmas: past_if_unseen, end_passed, end_missed.
use Rattle.std.proofs.Common.{◌≡◌, ◌≢◌, ◌<◌, ℕ, List, [], ◌∷◌, length, map, Some, None}
use Rattle.std.proofs.Common.{sym, subst, inl, inr, arith}
use Rattle.std.specs.Prelude.{ℤ, pos, ◌<ℤ◌, ◌+ℤ◌, ◌*ℤ◌}
use Rattle.std.proofs.lemmas.Bool.{cases_eq}
use Rattle.std.proofs.lemmas.Int.{ints}
use Rattle.plane.specs.{across, at_vertex, Fraction, IsNearer, IsNotNegative, IsPast, IsPositive}
use Rattle.plane.specs.{IsSame, IsVertex, JoinsLine, Meets, OnSegment, Point, TilesHull}
use Rattle.plane.specs.{Triangulation, vertex, whole, WithinSegment}
use Rattle.plane.proofs.{◌⊕◌, ◌⊗◌, at_most_and_more, end_on_segment, mul-nonneg_ℤ, mul-pos_ℤ}
use Rattle.plane.proofs.{on_of_within, on_segment_is, opposite_of_negative}
use Rattle.plane.proofs.{opposites_not_both_positive, pos_of_mul-pos_ℤ, product_zero_left}
use Rattle.plane.proofs.{ring_in_from, same-refl, same_not_nearer, sum_not_negative_of, two_weights}
use Rattle.plane_theorems.specs.{EdgesMeetAtVertices, IsLaid, Segments.LineLaws.ArePlacedOnce}
use Rattle.plane_theorems.proofs.{bracket, bracket-second, bracket-swapped, first_on_line}
use Rattle.plane_theorems.proofs.Delaunay.Circles.EmptyCircles.{weights_along}
use Rattle.plane_theorems.proofs.Delaunay.Floods.Flooded.{segment_from}
use Rattle.plane_theorems.proofs.Delaunay.Points.AlongSegment.{reach_less}
use Rattle.plane_theorems.proofs.Delaunay.Points.Bracket.{above_if_left, bracket-first}
use Rattle.plane_theorems.proofs.Segments.First.EdgeStarts.{crossing_on_line}
use Rattle.plane_theorems.proofs.Segments.Items.SideSigns.{below_if_right}
use Rattle.plane_theorems.proofs.Segments.Walking.OneLine.{line_ends}
use Rattle.{half_edge_dcel.specs.Contents, half_edge_links.specs.Mesh, half_edge_links.specs.origin}
use Rattle.delaunay_legalization.specs.{drawn, IsEmbedding, point_at}
use Rattle.delaunay_location.specs.{IsLeftOf, Locates, OutsideOfConvexHull, StartsOutside, Vertex}
use Rattle.delaunay_location.specs.Walk.{Starts}
use Rattle.delaunay_location.proofs.FirstItems.{nothing_met, starts_first}
use Rattle.{delaunay_location.proofs.Located.none_past, plane.proofs.TwoWeights, plane.proofs.weak}
use Rattle.delaunay_location.proofs.MeshSteps.{in_mesh, laid, not_same, start_in, start_known}

-- ---- a point i strictly within the way from p to k
module _ (p k i : Fraction) (within : WithinSegment p k i) where
  -- is on each segment from p through k
  between_on : (q : Fraction) → OnSegment p q k → OnSegment p q i
  between_on q on = segment_from (s.n *ℤ t.n) (t.k *ℤ s.n +ℤ t.l *ℤ s.k) (t.l *ℤ s.l) p q i
      (mul-pos_ℤ s.positive t.positive)
      (sum_not_negative_of (mul-nonneg_ℤ (weak t.k_allowed) (weak s.positive))
      (mul-nonneg_ℤ (weak t.l_allowed) s.k_allowed))
      (mul-nonneg_ℤ (weak t.l_allowed) s.l_allowed)
      (λ a b. mixed s.n s.k s.l t.n t.k t.l (bracket a b p) (bracket a b q) (bracket a b k)
      (bracket a b i) (weights_along IsNotNegative p q k s a b)
      (weights_along IsPositive p k i t a b))
    where
      s : TwoWeights IsNotNegative p q k
      s = two_weights IsNotNegative p q k on

      t : TwoWeights IsPositive p k i
      t = two_weights IsPositive p k i within

      mixed : (n k l n' k' l' b g f d : ℤ) → n *ℤ f ≡ k *ℤ b +ℤ l *ℤ g
          → n' *ℤ d ≡ k' *ℤ b +ℤ l' *ℤ f
          → (n *ℤ n') *ℤ d ≡ (k' *ℤ n +ℤ l' *ℤ k) *ℤ b +ℤ (l' *ℤ l) *ℤ g
      mixed n k l n' k' l' b g f d e c =
          ring_in_from (n ∷ k ∷ l ∷ n' ∷ k' ∷ l' ∷ b ∷ g ∷ f ∷ d ∷ [])
          (λ n k l n' k' l' b g f d. (n ⊗ n') ⊗ d)
          (λ n k l n' k' l' b g f d. (k' ⊗ n ⊕ l' ⊗ k) ⊗ b ⊕ (l' ⊗ l) ⊗ g)
          (λ n k l n' k' l' b g f d. (l', n ⊗ f, k ⊗ b ⊕ l ⊗ g) ∷ (n, n' ⊗ d, k' ⊗ b ⊕ l' ⊗ f)
          ∷ [])
          (e, (c, tt)) tt

  -- is no farther from p
  between_no_farther : ¬ IsSame p k → ¬ IsNearer p k i
  between_no_farther apart near = at_most_and_more _ _
      ((on_segment_is p k i apart).0 (on_of_within p k i within)).2
      (reach_less p k apart k i (end_on_segment p k) (on_of_within p k i within) near)

  -- and is left of a line through p where k is
  between_left : (u v : Fraction) → bracket u v p ≡ pos 0 → pos 0 <ℤ bracket u v k
      → pos 0 <ℤ bracket u v i
  between_left u v level high = pos_of_mul-pos_ℤ t.positive (above (t.n *ℤ bracket u v i)
      (bracket u v p) t.k (t.l *ℤ bracket u v k) (weights_along IsPositive p k i t u v) level
      (mul-pos_ℤ t.l_allowed high))
    where
      t : TwoWeights IsPositive p k i
      t = two_weights IsPositive p k i within

      above : (a b k c : ℤ) → a ≡ k *ℤ b +ℤ c → b ≡ pos 0 → pos 0 <ℤ c → pos 0 <ℤ a
      above a b k c e z h = let n = product_zero_left {a = b} k z in
          let w = lib.IntN.*ℤ_comm k b in omega (arith, ints)

-- ---- over a mesh
module _ {V D U F P : Type 0} {at : V → Point} {IsSite : P → Point → Type 0}
    {c : Contents V D U F} {tests : P} (embedding : IsEmbedding at IsSite c tests) where
  abbrev m : Mesh
  m = c.mesh

  abbrev points : List Point
  points = map at c.vertices

  abbrev t : Triangulation
  t = drawn points m

  -- located beyond an outer edge that p does not see, p is past the vertex where the edge starts
  pub past_if_unseen : {p : Point} (e : ℕ) → Locates points m p (OutsideOfConvexHull e)
      → ¬ IsLeftOf points m p e → IsPast t (origin m e) (whole p)
  past_if_unseen e l unseen = elim l.location.1 [
    | inl seen ↦ absurd (unseen seen)
    | inr past ↦ past
  ]

  -- ---- past the vertex where directed edge h starts
  module _ {p q : Point} (outside : StartsOutside t p) (apart : p ≢ q) (h : ℕ)
      (h_in : h < length c.directed) (past : IsPast t (origin m h) (whole p)) where
    abbrev end : ℕ
    end = origin m h

    end_in : IsVertex t end
    end_in = start_in embedding h
        (in_mesh embedding h h_in)

    t_laid : IsLaid t
    t_laid = laid embedding

    ways_apart : ¬ IsSame (whole p) (whole q)
    ways_apart = not_same p q apart

    no_hull : ¬ TilesHull t
    no_hull tiles = none_past embedding tiles p end end_in past

    -- a segment through a vertex passes the end
    end_on_way : (k : ℕ) → Meets t (whole p) (whole q) (at_vertex k)
        → OnSegment (whole p) (whole q) (vertex t end)
    end_on_way k met =
        elim (cases_eq k end) as (λ _. OnSegment (whole p) (whole q) (vertex t end)) [
          | inl e ↦ subst (λ (j : ℕ). OnSegment (whole p) (whole q) (vertex t j)) e met.1
          | inr d ↦ between_on (whole p) (vertex t k) (vertex t end) (past k met.0 d) (whole q)
              met.1
        ]

    -- and no vertex sooner
    none_sooner : (k : ℕ) → Meets t (whole p) (whole q) (at_vertex k)
        → ¬ IsNearer (whole p) (vertex t k) (vertex t end)
    none_sooner k met =
        elim (cases_eq k end) as (λ _. ¬ IsNearer (whole p) (vertex t k) (vertex t end)) [
          | inl e ↦ same_not_nearer (whole p) (vertex t k) (vertex t end)
              (subst (λ (j : ℕ). IsSame (vertex t k) (vertex t j)) e (same-refl (vertex t k)))
          | inr d ↦ between_no_farther (whole p) (vertex t k) (vertex t end) (past k met.0 d)
              (outside.no_vertex k met.0)
        ]

    -- left of a line through p where one vertex is, the end is too
    end_left : (u v : Fraction) → bracket u v (whole p) ≡ pos 0 → (k : ℕ) → IsVertex t k
        → pos 0 <ℤ bracket u v (vertex t k) → pos 0 <ℤ bracket u v (vertex t end)
    end_left u v level k hk high =
        elim (cases_eq k end) as (λ _. pos 0 <ℤ bracket u v (vertex t end)) [
          | inl e ↦ subst (λ (j : ℕ). pos 0 <ℤ bracket u v (vertex t j)) e high
          | inr d ↦ between_left (whole p) (vertex t k) (vertex t end) (past k hk d) u v level high
        ]

    -- so no edge is crossed
    none_crossed : JoinsLine t → EdgesMeetAtVertices t → ArePlacedOnce t → (a b : ℕ)
        → ¬ Meets t (whole p) (whole q) (across a b)
    none_crossed line meet once a b met =
        let ends = line_ends t line a b met.0 in
        let sides = ((crossing_on_line t line meet once).0 (whole p) (whole q) ways_apart a b
        met.0).0 met in
        opposites_not_both_positive (bracket (whole q) (whole p) (vertex t end))
        (bracket (whole p) (whole q) (vertex t end))
        (bracket-swapped (whole p) (whole q) (vertex t end))
        (end_left (whole q) (whole p) (bracket-second (whole q) (whole p)) b ends.1
        (opposite_of_negative _ _ (bracket-swapped (whole p) (whole q) (vertex t b))
        (below_if_right (whole p) (whole q) (vertex t b) sides.1)))
        (end_left (whole p) (whole q) (bracket-first (whole p) (whole q)) a ends.0
        (above_if_left (whole p) (whole q) (vertex t a) sides.0))

    -- the end comes first where the segment passes it
    pub end_passed : {z : Point} → z ≡ point_at points end → OnSegment (whole p) (whole q) (whole z)
        → Starts at c p q (Some (Vertex end))
    end_passed is met =
        let on = subst (λ (x : Point). OnSegment (whole p) (whole q) (whole x)) is met in
        starts_first embedding apart (Vertex end) (start_known embedding h h_in) (elim t_laid [
          | inl tiles ↦ absurd (no_hull tiles)
          | inr l ↦ ((first_on_line t l.0 l.1 l.2 (whole p) (whole q) ways_apart).3
              outside.no_edge).0 end (end_in, on) none_sooner
        ])

    -- else it meets nothing
    pub end_missed : {z : Point} → z ≡ point_at points end
        → ¬ OnSegment (whole p) (whole q) (whole z) → Starts at c p q None
    end_missed is missed =
        let off = λ (on : OnSegment (whole p) (whole q) (vertex t end)).
        missed (subst (λ (x : Point). OnSegment (whole p) (whole q) (whole x)) (sym is) on) in
        nothing_met embedding apart (elim t_laid [
          | inl tiles ↦ absurd (no_hull tiles)
          | inr l ↦
              ((first_on_line t l.0 l.1 l.2 (whole p) (whole q) ways_apart).3 outside.no_edge).1
              (λ k met. off (end_on_way k met)) (none_crossed l.0 l.1 l.2)
        ])
