-- How many edges and faces there are, by the number of vertices and outer edges.
-- Lemmas: hull_edges_count, line_edges_count.
use Rattle.std.proofs.Common.{◌≡◌, ◌⊎◌, ◌<◌, ◌≤◌, [], ◌∷◌, ◌∙◌}
use Rattle.std.proofs.Common.{ℕ, List, length, refl, sym, subst, arith}
use Prim.Native.Nat.{◌+◌, ◌-◌, ◌*◌}
use mathlib.Core.Logic.{inl, inr, ◌≢◌}
use Rattle.std.specs.Prelude.{ℤ, pos, ◌+ℤ◌, ◌-ℤ◌, ◌<ℤ◌, ◌≤ℤ◌, Contains}
use Rattle.std.proofs.lemmas.Int.{ints}
use Rattle.std.proofs.lemmas.Bool.{cases_eq, cases_lt}
use Rattle.plane.specs.{Face, Point, whole}
use Rattle.plane.proofs.{AllDiffer, bracket-outer, less_if_not_same, same_if_neither_less, Vec3}
use Rattle.plane.proofs.Signs.{less_by_negations}
use Rattle.plane_theorems.specs.{AreEdgesOf, LineMesh, LocalMesh, total}
use Rattle.plane_theorems.proofs.Tiling.Counting.{ArePairsBelow, at, corners_differ, IsPairBelow}
use Rattle.plane_theorems.proofs.Tiling.Counting.{SignMesh, within_turned}
use Rattle.plane_theorems.proofs.Tiling.Flows.{HasSide, no_turn}
use Rattle.plane_theorems.proofs.Tiling.Line.{Adjoin, SignLine}
use Rattle.plane_theorems.proofs.{Tiling.LineMeshes.line_by_signs, Tiling.Rising.total_ones}
use Rattle.plane_theorems.proofs.Tiling.Rising.{below_top, count_at, edges_counted, first, greatest}
use Rattle.plane_theorems.proofs.Tiling.Rising.{leaves, leaves_counted, rises_nowhere, rises_once}
use Rattle.plane_theorems.proofs.Tiling.Sweep.{count_none, count_one, IsSweep, sweep}
use Rattle.plane_theorems.proofs.Tiling.Tiles.{by_signs, point_at}
use Rattle.plane_theorems.proofs.Tiling.Totals.{all_none, Contains-head, Contains-none, total-sum}
use Rattle.plane_theorems.proofs.Tiling.Edges as E
use Rattle.plane_theorems.proofs.Tiling.Loops as L
use Rattle.plane_theorems.proofs.Tiling.LinePlaces as O

module _ (n : ℕ) (p : ℕ → Point) (faces : List Face) (outer edges : List (ℕ × ℕ))
    (m : SignMesh n p faces outer) (own : AreEdgesOf faces outer edges) where
  some_vertex : 0 < n
  some_vertex = let c = m.corners m.some_face.0 m.some_face.1 in positive c.0
    where
      positive : {a : ℕ} → a < n → 0 < n
      positive h = omega arith

  ends_of_edge : (e : ℕ × ℕ) → Contains edges e → (e.0 < n) × (e.1 < n) × (e.0 ≢ e.1)
  ends_of_edge e h = E.side_index n p faces outer m e.0 e.1
      ((L.edges_are_sides n p faces outer m edges own e.0 e.1).0 (inl h))

  -- as many edges as faces and vertices below the top one
  edges_and_faces : total (λ e. pos 1) edges +ℤ pos 1 ≡ total (λ f. pos 1) faces +ℤ pos n
  edges_and_faces = go (sweep n p m.distinct)
    where
      gathered : (e f c n : ℤ) → e ≡ f +ℤ c → c +ℤ pos 1 ≡ n → e +ℤ pos 1 ≡ f +ℤ n
      gathered e f c n h k = omega (arith, ints)

      go : (way : Vec3) × ((height : ℕ → ℤ) × IsSweep n p way height)
          → total (λ e. pos 1) edges +ℤ pos 1 ≡ total (λ f. pos 1) faces +ℤ pos n
      go (way, (height, s)) =
          let t = greatest height n some_vertex in
          gathered (total (λ e. pos 1) edges) (total (λ f. pos 1) faces)
          (total (count_at height faces outer) (first n)) (pos n)
          (edges_counted height n s.distinct faces outer edges own (λ f h. let c = m.corners f h in
          (c.0, c.1, c.2, (corners_differ p f.a f.b f.c (m.turning f h)).0))
          (λ e h. (m.ends e h).0) ends_of_edge)
          (below_top (count_at height faces outer) n t.0 t.1 (λ v h. each v h t (cases_eq v t.0)))
        where
          each : (v : ℕ) → v < n
              → (t : (k : ℕ) × (k < n) × ((j : ℕ) → j < n → height j ≤ℤ height k))
              → (v ≡ t.0) ⊎ (v ≡ t.0 → ⊥) → ((v ≡ t.0) × (count_at height faces outer v ≡ pos 0))
              ⊎ ((v ≢ t.0) × (count_at height faces outer v ≡ pos 1))
          each v h t (inl e) = inl (
            e,
            count_none n p faces outer m way height s v h
                (λ k i. subst (λ o. height k ≤ℤ height o) (sym e) (t.2 k i)),
          )
          each v h t (inr e) = inr (
            e,
            count_one n p faces outer m way height s v h t.0 t.1
                (less_if_not_same (height v) (height t.0) (t.2 v h) (s.distinct v t.0 h t.1 e)),
          )

  -- each edge has two ways, each face three sides
  ways_counted : total (λ e. pos 1) edges +ℤ total (λ e. pos 1) edges ≡ total (λ f. pos 1) faces
      +ℤ total (λ f. pos 1) faces +ℤ total (λ f. pos 1) faces +ℤ total (λ e. pos 1) outer
  ways_counted =
      sym (total-sum (λ e. pos 1) (λ e. pos 1) edges) ∙ own (λ _ _. pos 1)
      ∙ (λ i. total-sum (λ f. pos 1 +ℤ pos 1) (λ f. pos 1) faces i +ℤ total (λ e. pos 1) outer)
      ∙ (λ i. total-sum (λ f. pos 1) (λ f. pos 1) faces i +ℤ total (λ f. pos 1) faces
      +ℤ total (λ e. pos 1) outer)

  counts : (length edges + length outer + 3 ≡ 3 * n) × (length faces + length outer + 2 ≡ 2 * n)
  counts = numbers (length edges) (length faces) (length outer) n (total (λ e. pos 1) edges)
      (total (λ f. pos 1) faces) (total (λ e. pos 1) outer) (total_ones edges) (total_ones faces)
      (total_ones outer) edges_and_faces ways_counted
    where
      numbers : (e f h n : ℕ) (a b c : ℤ) → a ≡ pos e → b ≡ pos f → c ≡ pos h → a +ℤ pos 1
          ≡ b +ℤ pos n → a +ℤ a ≡ b +ℤ b +ℤ b +ℤ c → (e + h + 3 ≡ 3 * n) × (f + h + 2 ≡ 2 * n)
      numbers e f h n a b c i j k x y = (omega (arith, ints), omega (arith, ints))

-- n vertices with h outer edges have 3 n - h - 3 edges and 2 n - h - 2 faces
pub hull_edges_count : (points : List Point) (faces : List Face) (outer edges : List (ℕ × ℕ))
    → LocalMesh points faces outer → AreEdgesOf faces outer edges
    → (length edges + length outer + 3 ≡ 3 * length points)
    × (length faces + length outer + 2 ≡ 2 * length points)
hull_edges_count points faces outer edges m own =
    counts (length points) (point_at points) faces outer edges (by_signs points faces outer m) own

-- ---- on a line: at each vertex but the last one edge leads on
module _ (n : ℕ) (p : ℕ → Point) (outer edges : List (ℕ × ℕ)) (m : SignLine n p outer)
    (own : AreEdgesOf [] outer edges) where
  line_ends : ArePairsBelow n edges
  line_ends e h = go (L.way_of_edge [] outer edges own e.0 e.1 (inl h))
    where
      of_next : Adjoin n p e.0 e.1 → IsPairBelow n e
      of_next s = (s.first, s.second, s.apart)

      go : HasSide [] e.0 e.1 ⊎ Contains outer (e.0, e.1) → IsPairBelow n e
      go (inl s) = absurd (no_turn e.0 e.1 s.0 s.1)
      go (inr o) = of_next ((m.neighbours e.0 e.1).0 o)

  module _ (several : 1 < n) where
    from_zero : 0 < n
    from_zero = omega arith

    zero_not_one : ◌≢◌ {A = ℕ} 0 1
    zero_not_one e = omega arith

    -- how far along the line from vertex 0 to vertex 1 a vertex lies
    spot : ℕ → ℤ
    spot = O.spot n p outer m (whole (p 0)) 0 1 from_zero several zero_not_one
        (bracket-outer (at p 0) (at p 1))

    height : ℕ → ℤ
    height k = pos 0 -ℤ spot k

    places : O.ArePlaces n p spot
    unfolding spot
    places = O.places n p outer m (whole (p 0)) 0 1 from_zero several zero_not_one
        (bracket-outer (at p 0) (at p 1))

    distinct : AllDiffer n height
    unfolding height
    distinct i j h k a e = a (places.same i j h k (equal (spot i) (spot j) e))
      where
        equal : (a b : ℤ) → pos 0 -ℤ a ≡ pos 0 -ℤ b → a ≡ b
        equal a b e = omega (arith, ints)

    flips : (a b : ℤ) → b <ℤ a → (pos 0 -ℤ a) <ℤ (pos 0 -ℤ b)
    flips a b h = omega (arith, ints)

    -- two edges that lead on from v
    not_further : (v a b : ℕ) → Contains outer (v, a) → Contains outer (v, b) → height v <ℤ height a
        → height v <ℤ height b → ¬ (height a <ℤ height b)
    unfolding height
    not_further v a b x y h k l =
        let s = (m.neighbours v b).0 y in
        let r = (m.neighbours v a).0 x in
        s.none_between a r.second
        (within_turned (p b) (p v) (p a) (places.within b v a s.second s.first r.second
        (less_by_negations (spot a) (spot b) l) (less_by_negations (spot v) (spot a) h)))

    one_on : (v a b : ℕ) → Contains outer (v, a) → Contains outer (v, b) → height v <ℤ height a
        → height v <ℤ height b → a ≡ b
    one_on v a b x y h k = elim (cases_eq a b) [
      | inl e ↦ e
      | inr d ↦ absurd (distinct a b ((m.neighbours v a).0 x).second
          ((m.neighbours v b).0 y).second d (same_if_neither_less (height a) (height b)
          (not_further v a b x y h k) (not_further v b a y x k h)))
    ]

    outer_once : (v : ℕ) → total (leaves height v) outer ≤ℤ pos 1
    outer_once v = rises_once height v outer m.once (one_on v)

    count_on : (v k : ℕ) → v < n → k < n → height v <ℤ height k → count_at height [] outer v ≡ pos 1
    unfolding count_at height
    count_on v k hv hk h = go (O.nearest_below spot n (spot v))
      where
        exactly : (a : ℤ) → a ≤ℤ pos 1 → pos 1 ≤ℤ a → pos 0 +ℤ a ≡ pos 1
        exactly a h k = omega (arith, ints)

        clash : (a b : ℤ) → (pos 0 -ℤ a) <ℤ (pos 0 -ℤ b) → a ≤ℤ b → ⊥
        clash a b h k = omega (arith, ints)

        go : ((j : ℕ) × O.IsBelow spot n (spot v) j) ⊎ ((j : ℕ) → j < n → spot v ≤ℤ spot j)
            → pos 0 +ℤ total (leaves height v) outer ≡ pos 1
        go (inl (j, s)) =
            exactly (total (leaves height v) outer) (outer_once v) (leaves_counted height v outer j
            (O.next_below n p outer m spot places v hv j s) (flips (spot v) (spot j) s.below))
        go (inr none) = absurd (clash (spot v) (spot k) h (none k hk))

    count_last : (v : ℕ) → v < n → ((k : ℕ) → k < n → height k ≤ℤ height v)
        → count_at height [] outer v ≡ pos 0
    unfolding count_at
    count_last v hv top = all_zero (total (leaves height v) outer) (all_none (leaves height v) outer
        (rises_nowhere height v outer (λ e h. top e.1 ((m.neighbours e.0 e.1).0 h).second)))
      where
        all_zero : (a : ℤ) → a ≡ pos 0 → pos 0 +ℤ a ≡ pos 0
        all_zero a e = omega (arith, ints)

    line_edges : length edges + 1 ≡ n
    line_edges =
        let t = greatest height n from_zero in
        numbers (length edges) n (total (λ e. pos 1) edges)
        (total (count_at height [] outer) (first n)) (total_ones edges)
        (edges_counted height n distinct [] outer edges own (λ f h. absurd (Contains-none f h))
        (λ e h. ((m.neighbours e.0 e.1).0 h).first) line_ends)
        (below_top (count_at height [] outer) n t.0 t.1 (λ v h. each v h t (cases_eq v t.0)))
      where
        numbers : (e n : ℕ) (a c : ℤ) → a ≡ pos e → a ≡ pos 0 +ℤ c → c +ℤ pos 1 ≡ pos n → e + 1 ≡ n
        numbers e n a c i j k = omega (arith, ints)

        each : (v : ℕ) → v < n → (t : (k : ℕ) × (k < n) × ((j : ℕ) → j < n → height j ≤ℤ height k))
            → (v ≡ t.0) ⊎ (v ≡ t.0 → ⊥) → ((v ≡ t.0) × (count_at height [] outer v ≡ pos 0))
            ⊎ ((v ≢ t.0) × (count_at height [] outer v ≡ pos 1))
        each v h t (inl e) =
            inl (e, count_last v h (λ k i. subst (λ o. height k ≤ℤ height o) (sym e) (t.2 k i)))
        each v h t (inr e) = inr (
          e,
          count_on v t.0 h t.1
              (less_if_not_same (height v) (height t.0) (t.2 v h) (distinct v t.0 h t.1 e)),
        )

  no_edge : n ≤ 1 → length edges ≡ 0
  no_edge few = go edges line_ends
    where
      none : {a b : ℕ} → a < n → b < n → a ≢ b → n ≤ 1 → ⊥
      none h k d f = omega arith

      go : (es : List (ℕ × ℕ)) → ArePairsBelow n es → length es ≡ 0
      go [] ends = refl
      go (e ∷ es) ends = absurd (let c = ends e (Contains-head e es) in none c.0 c.1 c.2 few)

  line_count : length edges ≡ n - 1
  line_count = elim (cases_lt 1 n) [ inl h ↦ one_fewer (line_edges h) | inr h ↦ few h (no_edge h) ]
    where
      one_fewer : {e : ℕ} → e + 1 ≡ n → e ≡ n - 1
      one_fewer h = omega arith

      few : {e : ℕ} → n ≤ 1 → e ≡ 0 → e ≡ n - 1
      few h k = omega arith

-- on one line there is one edge fewer than vertices, and none where there is no vertex
pub line_edges_count : (points : List Point) (outer edges : List (ℕ × ℕ)) → LineMesh points outer
    → AreEdgesOf [] outer edges → length edges ≡ length points - 1
line_edges_count points outer edges m own =
    line_count (length points) (point_at points) outer edges (line_by_signs points outer m) own
