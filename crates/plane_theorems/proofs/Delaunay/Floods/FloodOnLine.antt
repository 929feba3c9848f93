-- Where all vertices are on one line: a flood along shared vertices finds each edge in a region,
-- and where it starts; each vertex has an edge.
-- Lemmas: turned_edge, edge_at, first_edge, finds, flood_finds_on_line, edge_beside,
-- flood_starts_on_line.
use Rattle.std.proofs.Common.{◌≡◌, ℕ, zero, suc, ◌<◌, List, length, arith, ap, sym, ◌∙◌, subst}
use lib.IntN.{nat_abs, *ℤ_comm}
use mathlib.Core.Logic.{◌⊎◌, inl, inr}
use Rattle.std.specs.Prelude.{ℤ, pos, ◌<ℤ◌, ◌≤ℤ◌, ◌-ℤ◌, ◌*ℤ◌, slice_index_or}
use Rattle.std.proofs.lemmas.Int.{ints}
use Rattle.std.proofs.Math.Nat.{lt-suc_self}
use Rattle.plane.specs.{AreNeighbours, Fraction, IsEdge, IsEdgeIn, IsLocation, IsNotNegative}
use Rattle.plane.specs.{IsSame, IsVertex, Joins, JoinsLine, Location, no_triangulation, on_edge}
use Rattle.plane.specs.{on_face, on_vertex, OnSegment, outside_hull, Point, Triangulation, vertex}
use Rattle.plane.specs.{whole, WithinSegment}
use Rattle.plane.proofs.{ahead, at_most_itself, bracket, bracket_of_two, decide_within_segment}
use Rattle.plane.proofs.{if_on, IsBetween, less_is_not_same, lift, lt_or_ge_ℤ, magnitude_below}
use Rattle.plane.proofs.{on_of_within, on_segment-same, one_below, place_of_end, place_of_start}
use Rattle.plane.proofs.{place_on, place_within, same-refl, same-sym, same_by_places, same_if_level}
use Rattle.plane.proofs.{same_is_at_most, start_on_segment, trichotomy_ℤ, two_weights, vec, weak}
use Rattle.plane.proofs.{Decisions.find_below, within_if_ahead, within_itself, within_places}
use Rattle.plane.proofs.{Collinear.mean_place, Signs.at_most_through, Signs.at_most_times_one}
use Rattle.plane_theorems.specs.{Delaunay.Flood.IsFloodedByVertices, HasStart, InRegion, Region}
use Rattle.plane_theorems.proofs.Delaunay.Circles.EmptyCircles.{no_face}
use Rattle.plane_theorems.proofs.Delaunay.Floods.Regions.{above_line, below_line, region_convex}
use Rattle.plane_theorems.proofs.Delaunay.Points.Numbers.{sum_none}
use Rattle.plane_theorems.proofs.Delaunay.Segments.LineItems.{turned_segment}
pub use Rattle.plane.proofs.{turned_join}

-- ---- either way round

-- an edge in a shape
pub turned_edge : (t : Triangulation) (Shape : Fraction → Type 0) (k n : ℕ) → IsEdgeIn Shape t k n →
    IsEdgeIn Shape t n k
turned_edge t Shape k n e = (
  turned_join t.edges k n e.0,
  (e.1.0, turned_segment (vertex t k) (vertex t n) e.1.0 e.1.1, e.1.2),
)

-- an edge at a vertex in a shape is in it
pub edge_at : (t : Triangulation) (Shape : Fraction → Type 0) (a b : ℕ) → IsEdge t a b
    → Shape (vertex t a) → IsEdgeIn Shape t a b
edge_at t Shape a b e k = (e, (vertex t a, start_on_segment (vertex t a) (vertex t b), k))

-- ---- steps on numbers
not_behind : (p w s : ℤ) → p ≤ℤ (s *ℤ w) → (w *ℤ s -ℤ pos 1 *ℤ p) <ℤ pos 0 → ⊥
not_behind p w s h k = let e = *ℤ_comm w s in omega (arith, ints)

not_past : (p w s : ℤ) → (s *ℤ w) ≤ℤ p → (pos 1 *ℤ p -ℤ w *ℤ s) <ℤ pos 0 → ⊥
not_past p w s h k = let e = *ℤ_comm w s in omega (arith, ints)

one_high : (c s : ℤ) → s ≤ℤ c → s ≤ℤ (c *ℤ pos 1)
one_high c s h = omega (arith, ints)

between_up : (x y z : ℤ) → x <ℤ y → IsBetween x y z ⊎ ((x ≡ z) × (z ≡ y)) → (x <ℤ z) × (z <ℤ y)
between_up x y z l (inl (inl b)) = b
between_up x y z l (inl (inr b)) = absurd (omega (arith, ints, b.0, b.1))
between_up x y z l (inr b) = absurd (omega (arith, ints, b.0, b.1))

-- the way between two numbers, in two parts
first_part : (m : ℕ) (x y z : ℤ) → x <ℤ z → z <ℤ y → nat_abs (y -ℤ x) < suc m → nat_abs (z -ℤ x) < m
first_part m x y z h k n =
    magnitude_below m (z -ℤ x) (y -ℤ x) (omega (arith, ints)) (omega (arith, ints)) n

second_part : (m : ℕ) (x y z : ℤ) → x <ℤ z → z <ℤ y → nat_abs (y -ℤ x) < suc m
    → nat_abs (y -ℤ z) < m
second_part m x y z h k n =
    magnitude_below m (y -ℤ z) (y -ℤ x) (omega (arith, ints)) (omega (arith, ints)) n

data Compared (a b : ℤ) : Type 0 where
  less : a <ℤ b → Compared a b
  equal : a ≡ b → Compared a b
  more : b <ℤ a → Compared a b

compare : (a b : ℤ) → Compared a b
compare a b = go (trichotomy_ℤ (b -ℤ a))
  where
    go : ((b -ℤ a) <ℤ pos 0) ⊎ ((b -ℤ a ≡ pos 0) ⊎ (pos 0 <ℤ (b -ℤ a))) → Compared a b
    go (inl h) = more (omega (arith, ints))
    go (inr (inl h)) = equal (omega (arith, ints))
    go (inr (inr h)) = less (omega (arith, ints))

-- the point of an index
abbrev point_at : Triangulation → ℕ → Point
point_at t k = slice_index_or t.points k (record { x = pos 0; y = pos 0 })

module _ (t : Triangulation) (h : JoinsLine t) where
  abbrev at : ℕ → Point
  at k = point_at t k

  -- neighbours are not in one place
  neighbours_apart : (a b : ℕ) → AreNeighbours t a b → ¬ (at a ≡ at b)
  neighbours_apart a b n e = n.none_between a n.first
      (within_itself (vertex t a) (vertex t b) (vertex t a)
      (subst (λ q. IsSame (vertex t a) (whole q)) e (same-refl (vertex t a)))
      (same-refl (vertex t a)))

  -- vertices in one place have the same neighbours
  moved : (a b n : ℕ) → IsVertex t a → at b ≡ at a → AreNeighbours t b n → AreNeighbours t a n
  moved a b n ha e s = record {
    apart = λ d. neighbours_apart b n s (e ∙ ap at d);
    first = ha;
    second = s.second;
    none_between =
        λ k hk w. s.none_between k hk
        (subst (λ q. WithinSegment (whole q) (vertex t n) (vertex t k)) (sym e) w);
  }

  -- the line goes from i to j
  module _ (i j : ℕ) (hi : IsVertex t i) (hj : IsVertex t j) (apart : ¬ (at i ≡ at j)) where
    -- how far a point is on the way from i to j
    spot : Fraction → ℤ
    spot x = place_on (at i) (at j) (vec x)

    -- how far a vertex is on the way from i to j
    abbrev far : ℕ → ℤ
    far k = spot (vertex t k)

    level : (k : ℕ) → IsVertex t k → bracket (lift (at i)) (lift (at j)) (lift (at k)) ≡ pos 0
    level k hk = if_on (vertex t i) (vertex t j) (vertex t k) (h.straight i j k hi hj hk)

    -- vertices as far are in one place
    one_place : (a b : ℕ) → IsVertex t a → IsVertex t b → far a ≡ far b → at a ≡ at b
    unfolding spot
    one_place a b ha hb e =
        same_by_places (at i) (at j) apart (at a) (at b) (level a ha) (level b hb) e

    -- a vertex strictly between two in the plane is so in the order, and back
    inner : (a b k : ℕ) → far a <ℤ far b → WithinSegment (vertex t a) (vertex t b) (vertex t k) →
        (far a <ℤ far k) × (far k <ℤ far b)
    unfolding spot
    inner a b k l w =
        between_up (far a) (far b) (far k) l (place_within (at i) (at j) (at a) (at b) (at k) w)

    inner_within : (a b k : ℕ) → IsVertex t a → IsVertex t b → IsVertex t k → far a <ℤ far k
        → far k <ℤ far b → WithinSegment (vertex t a) (vertex t b) (vertex t k)
    unfolding spot
    inner_within a b k ha hb hk l m =
        within_places (at i) (at j) apart (at a) (at b) (at k) (level a ha) (level b hb)
        (level k hk) (inl (l, m))

    start_far : far i ≡ pos 0
    unfolding spot
    start_far = place_of_start (at i) (at j)

    end_far : pos 0 <ℤ far j
    unfolding spot
    end_far = place_of_end (at i) (at j) apart

    -- two vertices with none between are an edge
    edge_if : (a b : ℕ) → IsVertex t a → IsVertex t b → far a <ℤ far b
        → ((k : ℕ) → IsVertex t k → ¬ WithinSegment (vertex t a) (vertex t b) (vertex t k))
        → IsEdge t a b
    edge_if a b ha hb l none = (h.neighbours a b).1
        (record {
          apart = λ e. less_is_not_same (far a) (far b) l (ap far e);
          first = ha;
          second = hb;
          none_between = none;
        })

    -- a vertex with one ahead of it has an edge
    edge_ahead : (m a b : ℕ) → IsVertex t a → IsVertex t b → far a <ℤ far b
        → nat_abs (far b -ℤ far a) < m → (c : ℕ) × IsEdge t a c
    edge_ahead zero a b ha hb l d = absurd (omega (arith, d))
    edge_ahead (suc m) a b ha hb l d =
        elim (find_below (length t.points)
        (λ k. decide_within_segment (vertex t a) (vertex t b) (vertex t k))) [
          | inl f ↦ edge_ahead m a f.0 ha f.1 (inner a b f.0 l f.2).0
              (first_part m (far a) (far b) (far f.0) (inner a b f.0 l f.2).0
              (inner a b f.0 l f.2).1 d)
          | inr none ↦ (b, edge_if a b ha hb l none)
        ]

    -- vertex i has an edge
    pub first_edge : (c : ℕ) × IsEdge t i c
    first_edge = edge_ahead (suc (nat_abs (far j -ℤ far i))) i j hi hj
        (subst (λ z. z <ℤ far j) (sym start_far) end_far)
        (lt-suc_self _)

    module _ (region : Region) where
      -- the points of the region
      abbrev K : Fraction → Type 0
      K = InRegion region

      same_in : (x v : Fraction) → IsSame x v → K x → K v
      same_in x v e k =
          region_convex region x x v k k (on_segment-same x x x v e (start_on_segment x x))

      -- a point of an edge is on the line, and as far as its ends
      on_line : (a b : ℕ) → IsVertex t a → IsVertex t b → (x : Fraction)
          → OnSegment (vertex t a) (vertex t b) x
          → bracket (lift (at i)) (lift (at j)) (vec x) ≡ pos 0
      on_line a b ha hb x m = let s = two_weights IsNotNegative (vertex t a) (vertex t b) x m in
          sum_none s.n s.k s.l _ _ _ s.positive
          (bracket_of_two IsNotNegative (lift (at i)) (lift (at j)) (vertex t a)
          (vertex t b) x s) (level a ha) (level b hb)

      at_least : (a b : ℕ) (x : Fraction) → OnSegment (vertex t a) (vertex t b) x → (c : ℤ)
          → c ≤ℤ far a → c ≤ℤ far b → (c *ℤ x.w) ≤ℤ spot x
      unfolding spot
      at_least a b x m c p q = let s = two_weights IsNotNegative (vertex t a) (vertex t b) x m in
          above_line s.n s.k s.l (spot x) (far a) (far b) x.w (pos 1)
          (pos 1) c s.positive s.k_allowed s.l_allowed
          (mean_place IsNotNegative (at i) (at j) (vertex t a) (vertex t b) x s) s.w
          (at_most_times_one c (far a) p)
          (at_most_times_one c (far b) q)

      at_most : (a b : ℕ) (x : Fraction) → OnSegment (vertex t a) (vertex t b) x → (c : ℤ)
          → far a ≤ℤ c → far b ≤ℤ c → spot x ≤ℤ (c *ℤ x.w)
      unfolding spot
      at_most a b x m c p q = let s = two_weights IsNotNegative (vertex t a) (vertex t b) x m in
          below_line s.n s.k s.l (spot x) (far a) (far b) x.w (pos 1)
          (pos 1) c s.positive s.k_allowed s.l_allowed
          (mean_place IsNotNegative (at i) (at j) (vertex t a) (vertex t b) x s) s.w
          (one_high c (far a) p)
          (one_high c (far b) q)

      -- a vertex between two points of the region is in it
      between : (x y : Fraction) (e : ℕ) → IsVertex t e → K x → K y
          → bracket (lift (at i)) (lift (at j)) (vec x) ≡ pos 0
          → bracket (lift (at i)) (lift (at j)) (vec y) ≡ pos 0 → spot x ≤ℤ (far e *ℤ x.w)
          → (far e *ℤ y.w) ≤ℤ spot y → K (vertex t e)
      unfolding spot ahead
      between x y e he kx ky lx ly p q =
          go (trichotomy_ℤ (ahead (at i) (at j) x (vertex t e)))
          (trichotomy_ℤ (ahead (at i) (at j) (vertex t e) y))
        where
          go : (ahead (at i) (at j) x (vertex t e) <ℤ pos 0)
              ⊎ ((ahead (at i) (at j) x (vertex t e) ≡ pos 0)
              ⊎ (pos 0 <ℤ ahead (at i) (at j) x (vertex t e)))
              → (ahead (at i) (at j) (vertex t e) y <ℤ pos 0)
              ⊎ ((ahead (at i) (at j) (vertex t e) y ≡ pos 0)
              ⊎ (pos 0 <ℤ ahead (at i) (at j) (vertex t e) y)) → K (vertex t e)
          go (inl b) s = absurd (not_behind (spot x) x.w (far e) p b)
          go (inr (inl z)) s =
              same_in x (vertex t e)
              (same_if_level (at i) (at j) apart x (vertex t e) lx (level e he) z) kx
          go (inr (inr a)) (inl b) = absurd (not_past (spot y) y.w (far e) q b)
          go (inr (inr a)) (inr (inl z)) = same_in y (vertex t e)
              (same-sym (vertex t e) y
              (same_if_level (at i) (at j) apart (vertex t e) y (level e he) ly z)) ky
          go (inr (inr a)) (inr (inr b)) = region_convex region x y (vertex t e) kx ky
              (on_of_within x y (vertex t e)
              (within_if_ahead (at i) (at j) apart x y (vertex t e) lx ly (level e he) a
              b))

      module _ (found : List (ℕ × ℕ)) (flooded : IsFloodedByVertices t region found) where
        abbrev Touched : ℕ → Type 0
        Touched a = (c : ℕ) × Joins found a c

        -- over an edge at a vertex in the region
        over : (a b : ℕ) → IsEdge t a b → K (vertex t a) → Touched a → Touched b
        over a b e k (c, s) = (
          a,
          turned_join found a b
              (flooded.next c a b (turned_join found a c s) (edge_at t K a b e k)),
        )

        -- between two vertices in the region, either way
        chain : (m a b : ℕ) → IsVertex t a → IsVertex t b → far a <ℤ far b
            → nat_abs (far b -ℤ far a) < m → K (vertex t a) → K (vertex t b)
            → (Touched a → Touched b) × (Touched b → Touched a)
        chain zero a b ha hb l d ka kb = absurd (omega (arith, d))
        chain (suc m) a b ha hb l d ka kb =
            elim (find_below (length t.points)
            (λ k. decide_within_segment (vertex t a) (vertex t b) (vertex t k))) [
              | inl f ↦ joined
                  (chain m a f.0 ha f.1 (inner a b f.0 l f.2).0
                  (first_part m (far a) (far b) (far f.0)
                  (inner a b f.0 l f.2).0 (inner a b f.0 l f.2).1 d) ka (middle f.0 f.2))
                  (chain m f.0 b f.1 hb (inner a b f.0 l f.2).1
                  (second_part m (far a) (far b) (far f.0)
                  (inner a b f.0 l f.2).0 (inner a b f.0 l f.2).1 d) (middle f.0 f.2) kb)
              | inr none ↦ (
                over a b (edge_if a b ha hb l none) ka,
                over b a (turned_join t.edges a b (edge_if a b ha hb l none)) kb,
              )
            ]
          where
            middle : (k : ℕ) → WithinSegment (vertex t a) (vertex t b) (vertex t k) → K (vertex t k)
            middle k w = region_convex region (vertex t a) (vertex t b) (vertex t k) ka kb
                (on_of_within (vertex t a) (vertex t b) (vertex t k) w)

            joined : {A B C : Type 0} → (A → B) × (B → A) → (B → C) × (C → B) → (A → C) × (C → A)
            joined p q = ((λ s. q.0 (p.0 s)), (λ s. p.1 (q.1 s)))

        -- an edge at a vertex in the region is found from a touched one
        found_from : (a k n : ℕ) → IsVertex t a → IsVertex t k → K (vertex t a) → K (vertex t k)
            → IsEdgeIn K t k n → Touched a → Joins found k n
        found_from a k n ha hk ka kk d s = go (compare (far a) (far k))
          where
            here : Touched k → Joins found k n
            here (c, f) = flooded.next c k n (turned_join found k c f) d

            beside : at a ≡ at k → Touched a → Joins found k n
            beside e (c, f) =
                let first = flooded.next c a n (turned_join found a c f)
                (edge_at t K a n ((h.neighbours a n).1
                (moved a k n ha (sym e) ((h.neighbours k n).0 d.0))) ka) in
                turned_join found n k (flooded.next a n k first (turned_edge t K k n d))

            go : Compared (far a) (far k) → Joins found k n
            go (less l) = here
                ((chain (suc (nat_abs (far k -ℤ far a))) a k ha hk l (lt-suc_self _) ka kk).0 s)
            go (equal e) = beside (one_place a k ha hk e) s
            go (more l) = here
                ((chain (suc (nat_abs (far a -ℤ far k))) k a hk ha l (lt-suc_self _) kk ka).1 s)

        module _ (s : Joins found i j) (e : IsEdgeIn K t i j) where
          abbrev x : Fraction
          x = e.1.0

          here_line : bracket (lift (at i)) (lift (at j)) (vec x) ≡ pos 0
          here_line = on_line i j hi hj x e.1.1

          end_above : far i ≤ℤ far j
          end_above = at_most_through (far i) (pos 0) (far j)
              (same_is_at_most (far i) (pos 0) start_far) (weak end_far)

          -- an edge with both ends after j
          after : (k n : ℕ) → IsVertex t k → IsVertex t n → IsEdgeIn K t k n → far j ≤ℤ far k
              → far k ≤ℤ far n → Joins found k n
          after k n hk hn d p q = found_from j k n hj hk
              (between x y j hj e.1.2 d.1.2 here_line ly (at_most i j x e.1.1 (far j) end_above
              (at_most_itself (far j))) (at_least k n y d.1.1 (far j) p
              (at_most_through (far j) (far k) (far n) p q)))
              (between x y k hk e.1.2 d.1.2 here_line ly (at_most i j x e.1.1 (far k)
              (at_most_through (far i) (far j) (far k) end_above p) p)
              (at_least k n y d.1.1 (far k) (at_most_itself (far k)) q))
              d (i, turned_join found i j s)
            where
              y : Fraction
              y = d.1.0

              ly : bracket (lift (at i)) (lift (at j)) (vec y) ≡ pos 0
              ly = on_line k n hk hn y d.1.1

          -- an edge with both ends before i
          before : (k n : ℕ) → IsVertex t k → IsVertex t n → IsEdgeIn K t k n → far k ≤ℤ far i
              → far n ≤ℤ far k → Joins found k n
          before k n hk hn d p q = found_from i k n hi hk
              (between y x i hi d.1.2 e.1.2 ly here_line (at_most k n y d.1.1 (far i) p
              (at_most_through (far n) (far k) (far i) q p))
              (at_least i j x e.1.1 (far i) (at_most_itself (far i)) end_above))
              (between y x k hk d.1.2 e.1.2 ly here_line
              (at_most k n y d.1.1 (far k) (at_most_itself (far k)) q)
              (at_least i j x e.1.1 (far k) p
              (at_most_through (far k) (far i) (far j) p end_above)))
              d (j, s)
            where
              y : Fraction
              y = d.1.0

              ly : bracket (lift (at i)) (lift (at j)) (vec y) ≡ pos 0
              ly = on_line k n hk hn y d.1.1

          -- an edge from before i to after j is in the same two places
          beyond : (k n : ℕ) → IsVertex t k → IsVertex t n → IsEdgeIn K t k n → far k ≤ℤ far i
              → far j ≤ℤ far n → Joins found k n
          beyond k n hk hn d p q = flooded.next j k n (flooded.next i j k s joined) d
            where
              far_less : far i <ℤ far j
              far_less = subst (λ z. z <ℤ far j) (sym start_far) end_far

              none : (m : ℕ) → IsVertex t m → far k <ℤ far m → far m <ℤ far n → ⊥
              none m hm a b =
                  ((h.neighbours k n).0 d.0).none_between m hm (inner_within k n m hk hn hm a b)

              high : (a b c z : ℤ) → a ≤ℤ b → b <ℤ c → c ≤ℤ z → (a <ℤ c → c <ℤ z → ⊥) → z ≡ c
              high a b c z h l m out = by (compare c z)
                where
                  by : Compared c z → z ≡ c
                  by (less o) = absurd (out (omega (arith, ints)) o)
                  by (equal o) = sym o
                  by (more o) = absurd (omega (arith, ints))

              other_end : at n ≡ at j
              other_end = one_place n j hn hj
                  (high (far k) (far i) (far j) (far n) p far_less q (λ a b. none j hj a b))

              joined : IsEdgeIn K t j k
              joined = (
                (h.neighbours j k).1
                    (moved j n k hj other_end ((h.neighbours n k).0 (turned_join t.edges k n d.0))),
                (
                  d.1.0,
                  subst (λ q. OnSegment (whole q) (vertex t k) d.1.0) other_end
                      (turned_segment (vertex t k) (vertex t n) d.1.0 d.1.1),
                  d.1.2,
                ),
              )

          -- each vertex is before or after
          outside : (k : ℕ) → IsVertex t k → (far k ≤ℤ far i) ⊎ (far j ≤ℤ far k)
          outside k hk = go (lt_or_ge_ℤ (far i) (far k)) (lt_or_ge_ℤ (far k) (far j))
            where
              go : (far i <ℤ far k) ⊎ (far k ≤ℤ far i) → (far k <ℤ far j) ⊎ (far j ≤ℤ far k) →
                  (far k ≤ℤ far i) ⊎ (far j ≤ℤ far k)
              go (inr a) b = inl a
              go (inl a) (inr b) = inr b
              go (inl a) (inl b) =
                  absurd (((h.neighbours i j).0 e.0).none_between k hk
                  (inner_within i j k hi hj hk a b))

          -- the flood finds each edge in the region
          pub finds : (k n : ℕ) → IsEdgeIn K t k n → Joins found k n
          finds k n d = go (outside k hk) (outside n hn) (lt_or_ge_ℤ (far k) (far n))
            where
              hk : IsVertex t k
              hk = ((h.neighbours k n).0 d.0).first

              hn : IsVertex t n
              hn = ((h.neighbours k n).0 d.0).second

              d' : IsEdgeIn K t n k
              d' = turned_edge t K k n d

              go : (far k ≤ℤ far i) ⊎ (far j ≤ℤ far k) → (far n ≤ℤ far i) ⊎ (far j ≤ℤ far n) →
                  (far k <ℤ far n) ⊎ (far n ≤ℤ far k) → Joins found k n
              go (inl a) (inl b) (inl c) =
                  turned_join found n k (before n k hn hk d' b (weak_less c))
                where
                  weak_less : far k <ℤ far n → far k ≤ℤ far n
                  weak_less c = omega (arith, ints)
              go (inl a) (inl b) (inr c) = before k n hk hn d a c
              go (inr a) (inr b) (inl c) = after k n hk hn d a (weak_less c)
                where
                  weak_less : far k <ℤ far n → far k ≤ℤ far n
                  weak_less c = omega (arith, ints)
              go (inr a) (inr b) (inr c) = turned_join found n k (after n k hn hk d' b c)
              go (inl a) (inr b) c = beyond k n hk hn d a b
              go (inr a) (inl b) c = turned_join found n k (beyond n k hn hk d' b a)

  -- a flood along shared vertices from one edge in a region finds each
  pub flood_finds_on_line : (region : Region) (found : List (ℕ × ℕ))
      → IsFloodedByVertices t region found → (i j k n : ℕ) → Joins found i j
      → IsEdgeIn (InRegion region) t i j → IsEdgeIn (InRegion region) t k n → Joins found k n
  flood_finds_on_line region found f i j k n s e d =
      let o = (h.neighbours i j).0 e.0 in
      finds i j o.first o.second (neighbours_apart i j o) region found f s e k n d

  -- a vertex with another elsewhere has an edge
  pub edge_beside : (i j : ℕ) → IsVertex t i → IsVertex t j → ¬ (at i ≡ at j)
      → (c : ℕ) × IsEdge t i c
  edge_beside i j hi hj apart = first_edge i j hi hj apart

  -- where any edge is in a region, one is beside each point of the region
  pub flood_starts_on_line : (region : Region) (c : Fraction) → InRegion region c → (k n : ℕ) →
      IsEdgeIn (InRegion region) t k n → (m : Location) → IsLocation t c m → HasStart t region m
  flood_starts_on_line region c kc k n e (on_vertex i) l =
      λ j s. (
        s,
        (
          c,
          on_segment-same (vertex t i) (vertex t j) (vertex t i) c (same-sym c (vertex t i) l.1)
              (start_on_segment (vertex t i) (vertex t j)),
          kc,
        ),
      )
  flood_starts_on_line region c kc k n e (on_edge i j) l =
      (l.0, (c, on_of_within (vertex t i) (vertex t j) c l.1, kc))
  flood_starts_on_line region c kc k n e (on_face i j m) l = absurd (no_face t h.no_face i j m l.0)
  flood_starts_on_line region c kc k n e (outside_hull i j) l =
      (k, n, (e.0, λ f. no_face t h.no_face k n f.0 f.1), e)
  flood_starts_on_line region c kc k n e no_triangulation l =
      absurd (few ((h.neighbours k n).0 e.0))
    where
      few : AreNeighbours t k n → ⊥
      few o = o.apart (one_below k n (length t.points) o.first o.second l.0)
