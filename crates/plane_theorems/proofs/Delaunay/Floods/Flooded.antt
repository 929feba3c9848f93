-- Floods in the definitions' words: where one starts, and that it finds each edge in a region.
-- Lemmas: segment_from, side_of_segment, edge_of, flood_finds_region, not_few, flood_starts.
use Rattle.std.proofs.Common.{◌≡◌, ℕ, ◌≤◌, List, [], ◌∷◌, length, arith, ap, sym, ◌∙◌}
use mathlib.Core.Logic.{◌⊎◌, inl, inr}
use Rattle.std.specs.Prelude.{◌≢◌, ℤ, pos, ◌<ℤ◌, ◌+ℤ◌, ◌*ℤ◌}
use Rattle.std.proofs.lemmas.Int.{ints}
use Rattle.plane.specs.{Fraction, HasFace, InsideTriangle, IsEdgeIn, IsFace, IsLocation}
use Rattle.plane.specs.{IsNotNegative, IsOuter, IsPast, IsPositive, IsVertex, Joins, Location}
use Rattle.plane.specs.{no_triangulation, on_edge, on_face, on_vertex, OnSegment, outside_hull}
use Rattle.plane.specs.{TilesHull, Triangulation, TurnsLeft, vertex}
use Rattle.plane.proofs.{◌⊕◌, ◌⊗◌, bracketᵖ, left_not_zero, mean_of_two, mul-pos_ℤ, num}
use Rattle.plane.proofs.{on_of_within, on_segment-same, pos-ne-zero_ℤ, ring_in, ring_in_from}
use Rattle.plane.proofs.{same-sym, start_on_segment, turned_face, two_weights, TwoWeights, weak}
use Rattle.plane.proofs.{Signs.same_plus_no_part, zero-mul_ℤ, zero_of_mul-zero_ℤ, ⊝}
use Rattle.{plane.proofs.IntegerLaws.one-*ℤ, plane_theorems.proofs.Delaunay.Tilings.Walk.OnWay}
use Rattle.plane_theorems.specs.{HasStart, InRegion, Region}
use Rattle.plane_theorems.proofs.Delaunay.Circles.EmptyCircles.{weights_along}
use Rattle.plane_theorems.proofs.Delaunay.Floods.Flood.{flood_finds, IsFlooded}
use Rattle.plane_theorems.proofs.Delaunay.Floods.FloodStart.{Border, border_of_outside}
use Rattle.plane_theorems.proofs.Delaunay.Floods.FloodStart.{side_of_inside}
use Rattle.plane_theorems.proofs.Delaunay.Floods.Regions.{IsConvex, region_convex}
use Rattle.plane_theorems.proofs.Delaunay.Points.Bracket.{above_if_left, bracket, bracket-first}
use Rattle.plane_theorems.proofs.Delaunay.Points.Bracket.{bracket-second, bracket-turned}
use Rattle.plane_theorems.proofs.Delaunay.Tilings.Ground.{inside_of, tiling}
use Rattle.plane_theorems.proofs.Delaunay.Tilings.Meets.{IsAt, IsEdge, on_side-closed}
use Rattle.plane_theorems.proofs.Delaunay.Tilings.Meets.{on_side-swapped, OnSide}
use Rattle.plane_theorems.proofs.Delaunay.Tilings.OuterEdges.{beyond_outer, face_of_outer}
use Rattle.plane_theorems.proofs.Delaunay.Tilings.Where.{IsBeyond, IsCovered}
use Rattle.plane.proofs.Bracket as B
use Rattle.plane.specs.Tiling as D
use Rattle.plane_theorems.specs.Delaunay.Flood as F

-- ---- a point's coordinates as brackets
probe : ℤ → ℤ → Fraction
probe x y = record { x = x; y = y; w = pos 1; positive = record { lt = tt } }

-- x as a bracket with the points (0, 1) and (0, 0)
at_x : (p : Fraction) → bracket (probe (pos 0) (pos 1)) (probe (pos 0) (pos 0)) p ≡ p.x
unfolding bracket B.bracket probe
at_x p =
    ring_in (p.x ∷ p.y ∷ p.w ∷ []) (λ x y w. bracketᵖ (record { x = num 0; y = num 1; w = num 1 })
    (record { x = num 0; y = num 0; w = num 1 }) (record { x = x; y = y; w = w })) (λ x y w. x) tt

-- y as a bracket with the points (0, 0) and (1, 0)
at_y : (p : Fraction) → bracket (probe (pos 0) (pos 0)) (probe (pos 1) (pos 0)) p ≡ p.y
unfolding bracket B.bracket probe
at_y p =
    ring_in (p.x ∷ p.y ∷ p.w ∷ []) (λ x y w. bracketᵖ (record { x = num 0; y = num 0; w = num 1 })
    (record { x = num 1; y = num 0; w = num 1 }) (record { x = x; y = y; w = w })) (λ x y w. y) tt

at_rest : (p : Fraction)
    → bracket (probe (pos 1) (pos 0)) (probe (pos 0) (pos 1)) p +ℤ p.x +ℤ p.y ≡ p.w
unfolding bracket B.bracket probe
at_rest p =
    ring_in (p.x ∷ p.y ∷ p.w ∷ []) (λ x y w. bracketᵖ (record { x = num 1; y = num 0; w = num 1 })
    (record { x = num 0; y = num 1; w = num 1 }) (record { x = x; y = y; w = w }) ⊕ x ⊕ y)
    (λ x y w. w) tt

coordinate : (f g : Fraction → ℤ) → ((p : Fraction) → g p ≡ f p) → (n k l : ℤ) (a b x : Fraction)
    → n *ℤ g x ≡ k *ℤ g a +ℤ l *ℤ g b → n *ℤ f x ≡ k *ℤ f a +ℤ l *ℤ f b
coordinate f g same n k l a b x e =
    sym (λ i. n *ℤ same x i) ∙ e ∙ (λ i. k *ℤ same a i +ℤ l *ℤ same b i)

last_coordinate : (n k l r ra rb x xa xb y ya yb w wa wb : ℤ) → n *ℤ r ≡ k *ℤ ra +ℤ l *ℤ rb
    → n *ℤ x ≡ k *ℤ xa +ℤ l *ℤ xb → n *ℤ y ≡ k *ℤ ya +ℤ l *ℤ yb → r +ℤ x +ℤ y ≡ w
    → ra +ℤ xa +ℤ ya ≡ wa → rb +ℤ xb +ℤ yb ≡ wb → n *ℤ w ≡ k *ℤ wa +ℤ l *ℤ wb
last_coordinate n k l r ra rb x xa xb y ya yb w wa wb e₁ e₂ e₃ e₄ e₅ e₆ =
    ring_in_from (n ∷ k ∷ l ∷ r ∷ ra ∷ rb ∷ x ∷ xa ∷ xb ∷ y ∷ ya ∷ yb ∷ w ∷ wa ∷ wb ∷ [])
    (λ n k l r ra rb x xa xb y ya yb w wa wb. n ⊗ w)
    (λ n k l r ra rb x xa xb y ya yb w wa wb. k ⊗ wa ⊕ l ⊗ wb)
    (λ n k l r ra rb x xa xb y ya yb w wa wb. (num 1, n ⊗ r, k ⊗ ra ⊕ l ⊗ rb)
    ∷ (num 1, n ⊗ x, k ⊗ xa ⊕ l ⊗ xb) ∷ (num 1, n ⊗ y, k ⊗ ya ⊕ l ⊗ yb) ∷ (⊝ n, r ⊕ x ⊕ y, w)
    ∷ (k, ra ⊕ xa ⊕ ya, wa) ∷ (l, rb ⊕ xb ⊕ yb, wb) ∷ [])
    (e₁, (e₂, (e₃, (e₄, (e₅, (e₆, tt)))))) tt

-- a mean, seen from each line, is a mean
pub segment_from : (n k l : ℤ) (a b x : Fraction) → pos 0 <ℤ n → IsNotNegative k → IsNotNegative l
    → ((u v : Fraction) → n *ℤ bracket u v x ≡ k *ℤ bracket u v a +ℤ l *ℤ bracket u v b)
    → OnSegment a b x
segment_from n k l a b x hn hk hl e = mean_of_two IsNotNegative a b x (record {
  k = k;
  l = l;
  n = n;
  k_allowed = hk;
  l_allowed = hl;
  positive = hn;
  x = ex;
  y = ey;
  w = last_coordinate n k l _ _ _ x.x a.x b.x x.y a.y b.y x.w a.w b.w
      (e (probe (pos 1) (pos 0)) (probe (pos 0) (pos 1))) ex ey (at_rest x) (at_rest a) (at_rest b);
})
  where
    ex : n *ℤ x.x ≡ k *ℤ a.x +ℤ l *ℤ b.x
    ex = coordinate (λ p. p.x) (λ p. bracket (probe (pos 0) (pos 1)) (probe (pos 0) (pos 0)) p) at_x
        n k l a b x (e (probe (pos 0) (pos 1)) (probe (pos 0) (pos 0)))

    ey : n *ℤ x.y ≡ k *ℤ a.y +ℤ l *ℤ b.y
    ey = coordinate (λ p. p.y) (λ p. bracket (probe (pos 0) (pos 0)) (probe (pos 1) (pos 0)) p) at_y
        n k l a b x (e (probe (pos 0) (pos 0)) (probe (pos 1) (pos 0)))

segment_of_side : (a b x : Fraction) → OnSide a b x → OnSegment a b x
segment_of_side a b x o = segment_from o.n o.k o.l a b x o.n_above o.k_least o.l_least o.along

-- a point of a closed segment is on it for each linear form
pub side_of_segment : (a b x : Fraction) → OnSegment a b x → OnSide a b x
side_of_segment a b x m = let t = two_weights IsNotNegative a b x m in
    record {
      n = t.n;
      k = t.k;
      l = t.l;
      n_above = t.positive;
      k_least = t.k_allowed;
      l_least = t.l_allowed;
      along = weights_along IsNotNegative a b x t;
      weight = t.w;
    }

both_ways : (i c j m n k l n' k' l' : ℤ) → n *ℤ i ≡ k *ℤ c +ℤ l *ℤ j → n' *ℤ i ≡ k' *ℤ c +ℤ l' *ℤ m
    → i ≡ pos 0 → j ≡ pos 0 → pos 0 <ℤ k → pos 0 <ℤ k' → pos 0 <ℤ l' → pos 0 <ℤ m → ⊥
both_ways i c j m n k l n' k' l' e e' hi hj hk hk' hl' hm =
    left_not_zero (mul-pos_ℤ {a = l'} {b = m} hl' hm) none_left
  where
    no_c : c ≡ pos 0
    no_c = zero_of_mul-zero_ℤ {k = k} {x = c} (pos-ne-zero_ℤ hk) (let p = zero-mul_ℤ n hi in
        let q = zero-mul_ℤ l hj in omega (arith, ints))

    none_left : l' *ℤ m ≡ pos 0
    none_left = let p = zero-mul_ℤ n' hi in let q = zero-mul_ℤ k' no_c in omega (arith, ints)

-- ---- convex sets, in the words of the walk
module _ (K : Fraction → Type 0) (convex : IsConvex K) where
  on_way : (x p x' : Fraction) → OnWay x p x' → K x → K p → K x'
  on_way x p x' w kx kp =
      convex x p x' kx kp (segment_from (pos 1) w.k w.l x p x' (record { lt = tt }) (weak w.k_above)
      (weak w.l_above) (λ u v. one-*ℤ (bracket u v x') ∙ w.along u v))

  at_place : (v x : Fraction) → IsAt v x → K x → K v
  at_place v x i kx =
      convex x x v kx kx (segment_from i.k i.n (pos 0) x x v i.k_above (weak i.n_above)
      (record { le = tt }) (λ s u. same_plus_no_part _ _ (bracket s u x) (i.along s u)))

-- an edge of a triangulation is one of its tiling
pub edge_of : (t : Triangulation) (h : TilesHull t) (i j : ℕ) → D.IsEdge t i j
    → IsEdge (tiling t h) i j
unfolding tiling
edge_of t h i j e = (h.sides i j).0 e

module _ (t : Triangulation) (h : TilesHull t) (region : Region) where
  -- the points of the region
  abbrev K : Fraction → Type 0
  K = InRegion region

  convex : IsConvex K
  convex = region_convex region

  is_edge : (i j : ℕ) → IsEdge (tiling t h) i j → D.IsEdge t i j
  unfolding tiling
  is_edge i j e = (h.sides i j).1 e

  -- an edge in the region has a point of it on its closed segment
  met : (i j : ℕ) → IsEdgeIn K t i j → (x : Fraction) × K x × OnSide (vertex t i) (vertex t j) x
  met i j e = (e.1.0, e.1.2, side_of_segment (vertex t i) (vertex t j) e.1.0 e.1.1)

  meets : (i j : ℕ) → D.IsEdge t i j → (x : Fraction) × K x × OnSide (vertex t i) (vertex t j) x
      → IsEdgeIn K t i j
  meets i j e (x, k, o) = (e, (x, segment_of_side (vertex t i) (vertex t j) x o, k))

  first_side : (i j k : ℕ) → IsFace t i j k → D.IsEdge t i j
  first_side i j k f = (h.sides i j).1 (inl (k, f))

  -- ---- a flood from one edge in the region finds each
  flooded : (found : List (ℕ × ℕ)) → F.IsFlooded t region found
      → IsFlooded (tiling t h) K (on_way K convex) (at_place K convex) (λ i j. Joins found i j)
  unfolding tiling
  flooded found g = record {
    turned = λ a b s. swapped a b s;
    next = λ a b c f s m. g.next a b c f s (meets b c (first_side b c a (turned_face t a b c f)) m);
    last = λ a b c f s m. g.last a b c f s
        (meets c a (first_side c a b (turned_face t b c a (turned_face t a b c f))) m);
  }
    where
      swapped : (a b : ℕ) → Joins found a b → Joins found b a
      swapped a b (inl s) = inr s
      swapped a b (inr s) = inl s

  -- a flood that has an edge in the region has them all
  pub flood_finds_region : (found : List (ℕ × ℕ)) → F.IsFlooded t region found → (i j k n : ℕ)
      → Joins found i j → IsEdgeIn K t i j → IsEdgeIn K t k n → Joins found k n
  unfolding tiling
  flood_finds_region found g i j k n s e d = flood_finds (tiling t h) K (on_way K convex)
      (at_place K convex) (λ i j. Joins found i j) (flooded found g) i j k n (edge_of t h i j e.0) s
      (met i j e) (edge_of t h k n d.0) (met k n d)

  -- ---- where it starts
  outer_edge : (k n : ℕ) (c : Fraction) → K c → IsBeyond (tiling t h) c → IsEdgeIn K t k n
      → (i j : ℕ) × IsOuter t i j × IsEdgeIn K t i j
  unfolding tiling
  outer_edge k n c kc o e = go (border_of_outside (tiling t h) K (on_way K convex) (met k n e).0
      (met k n e).1 c covered kc o)
    where
      covered : IsCovered (tiling t h) (met k n e).0
      covered = over (edge_of t h k n e.0)
        where
          x : Fraction
          x = (met k n e).0

          on_edge_side : OnSide (vertex t k) (vertex t n) x
          on_edge_side = (met k n e).2

          over : IsEdge (tiling t h) k n → IsCovered (tiling t h) x
          over (inl f) = record {
            a = k;
            b = n;
            c = f.0;
            is_face = f.1;
            closed =
                on_side-closed _ _ _ x on_edge_side (above_if_left _ _ _ (h.turning k n f.0 f.1));
          }
          over (inr f) = record {
            a = n;
            b = k;
            c = f.0;
            is_face = f.1;
            closed = on_side-closed _ _ _ x (on_side-swapped _ _ x on_edge_side)
                (above_if_left _ _ _ (h.turning n k f.0 f.1));
          }

      go : (y : Fraction) × K y × Border (tiling t h) y
          → (i j : ℕ) × IsOuter t i j × IsEdgeIn K t i j
      go (y, ky, b) = (
        b.b,
        b.a,
        (edge, λ f. b.alone f.0 f.1),
        meets b.b b.a edge (y, ky, on_side-swapped (vertex t b.a) (vertex t b.b) y b.on_side),
      )
        where
          edge : D.IsEdge t b.b b.a
          edge = (h.sides b.b b.a).1 (inr (b.c, b.is_face))

  start_inside : (i j k u v : ℕ) (c : Fraction) → K c → IsEdgeIn K t u v → IsFace t i j k
      → InsideTriangle (vertex t i) (vertex t j) (vertex t k) c → HasStart t region (on_face i j k)
  unfolding tiling
  start_inside i j k u v c kc e f inside =
      go (side_of_inside (tiling t h) K (on_way K convex) (met u v e).0 (met u v e).1 i j k u v c f
      (inside_of _ _ _ c (h.turning i j k f) inside) kc (edge_of t h u v e.0) (met u v e).2)
    where
      Meets : ℕ → ℕ → Type 0
      Meets i j = (x : Fraction) × K x × OnSide (vertex t i) (vertex t j) x

      go : Meets i j ⊎ (Meets j k ⊎ Meets k i) → HasStart t region (on_face i j k)
      go (inl m) = inl (meets i j (first_side i j k f) m)
      go (inr (inl m)) = inr (inl (meets j k (first_side j k i (turned_face t i j k f)) m))
      go (inr (inr m)) =
          inr (inr (meets k i (first_side k i j (turned_face t j k i (turned_face t i j k f))) m))

  -- not all vertices are behind one, seen from one point
  not_past : (i j : ℕ) (c : Fraction) → IsOuter t i j → ¬ IsPast t i c
  not_past i j c o past = behind (face_of_outer t h i j o)
    where
      behind : HasFace t j i → ⊥
      behind (m, f) = flat
          (two_weights IsPositive c (vertex t j) (vertex t i) (past j (h.corners j i m f).0 first))
          (two_weights IsPositive c (vertex t m) (vertex t i) (past m (h.corners j i m f).2 third))
        where
          turns : pos 0 <ℤ bracket (vertex t j) (vertex t i) (vertex t m)
          turns = above_if_left _ _ _ (h.turning j i m f)

          first : j ≢ i
          first e = left_not_zero turns (ap (λ n. bracket (vertex t n) (vertex t i) (vertex t m)) e
              ∙ sym (bracket-turned (vertex t i) (vertex t i) (vertex t m))
              ∙ bracket-first (vertex t i) (vertex t m))

          third : m ≢ i
          third e = left_not_zero turns (ap (λ n. bracket (vertex t j) (vertex t i) (vertex t n)) e
              ∙ bracket-second (vertex t j) (vertex t i))

          flat : TwoWeights IsPositive c (vertex t j) (vertex t i)
              → TwoWeights IsPositive c (vertex t m) (vertex t i) → ⊥
          flat a b = both_ways (bracket (vertex t j) (vertex t i) (vertex t i))
              (bracket (vertex t j) (vertex t i) c) _
              (bracket (vertex t j) (vertex t i) (vertex t m)) a.n a.k a.l b.n b.k b.l
              (weights_along IsPositive c (vertex t j) (vertex t i) a (vertex t j) (vertex t i))
              (weights_along IsPositive c (vertex t m) (vertex t i) b (vertex t j) (vertex t i))
              (bracket-second (vertex t j) (vertex t i)) (bracket-first (vertex t j) (vertex t i))
              a.k_allowed b.k_allowed b.l_allowed turns

  -- there are two points at least
  pub not_few : ¬ (length t.points ≤ 1)
  not_few few = level h.spread
    where
      level : (i j k : ℕ) × IsVertex t i × IsVertex t j × IsVertex t k
          × TurnsLeft (vertex t i) (vertex t j) (vertex t k) → ⊥
      level (i, j, k, hi, hj, hk, turns) = left_not_zero (above_if_left _ _ _ turns)
          (ap (λ n. bracket (vertex t n) (vertex t j) (vertex t k)) same
          ∙ sym (bracket-turned (vertex t j) (vertex t j) (vertex t k))
          ∙ bracket-first (vertex t j) (vertex t k))
        where
          same : i ≡ j
          same = omega arith

  -- where an edge is in the region, one of those tried first is
  pub flood_starts : (c : Fraction) → K c → (k n : ℕ) → IsEdgeIn K t k n → (m : Location)
      → IsLocation t c m → HasStart t region m
  flood_starts c kc k n e (on_vertex i) l =
      λ j s. (
        s,
        (
          c,
          on_segment-same (vertex t i) (vertex t j) (vertex t i) c
              (same-sym c (vertex t i) l.1) (start_on_segment (vertex t i) (vertex t j)),
          kc,
        ),
      )
  flood_starts c kc k n e (on_edge i j) l =
      (l.0, (c, on_of_within (vertex t i) (vertex t j) c l.1, kc))
  flood_starts c kc k n e (on_face i j m) l = start_inside i j m k n c kc e l.0 l.1
  flood_starts c kc k n e (outside_hull i j) l = go l.1
    where
      go : TurnsLeft (vertex t i) (vertex t j) c ⊎ IsPast t i c
          → HasStart t region (outside_hull i j)
      go (inl turns) = outer_edge k n c kc (beyond_outer t h i j c l.0 turns) e
      go (inr past) = absurd (not_past i j c l.0 past)
  flood_starts c kc k n e no_triangulation l = absurd (not_few l.0)
