-- The exact start of a flood, vertices as ends of edges, and how many edges a flood finds.
-- Lemmas: region_has_start, vertices_are_ends, one_vertex_is_alone, start_is_exact,
-- flood_is_bounded, marks_fill_up, flood_by_vertices_finds, flood_is_exact.
use Rattle.std.proofs.Common.{◌≡◌, ◌↔◌, ◌<◌, ◌≤◌, [], ◌∷◌, ◌+◌, ◌∙◌}
use Rattle.std.proofs.Common.{ℕ, zero, suc, List, length, refl, arith, ap, sym}
use Rattle.std.proofs.Common.{subst}
use lib.IntN.{*ℤ_comm}
use mathlib.Core.Logic.{◌⊎◌, inl, inr, ◌≢◌}
use Rattle.std.specs.Prelude.{◌<ℤ◌, ◌≤ℤ◌, ◌*ℤ◌}
use Rattle.std.specs.Prelude.{ℤ, pos, slice_index_or, slice_set, count_by, Bool, true, false, not}
use Rattle.std.specs.Prelude.{cond}
use Rattle.std.proofs.lemmas.Int.{ints}
use Rattle.std.proofs.lemmas.List.Sums.{sum_by-set}
use Rattle.plane.specs.{AreDifferent, AreNeighbours, EachPairOnce, Fraction, gap, IsEdge, IsEdgeIn}
use Rattle.plane.specs.{IsLocation, IsSame, IsSamePair, IsTiling, IsVertex, Joins, Location}
use Rattle.plane.specs.{no_triangulation, on_edge, on_face, on_vertex, outside_hull, Point}
use Rattle.plane.specs.{Shape.IsVertexIn, Triangulation, vertex, whole}
use Rattle.plane.proofs.{at_most_itself, decide_point, gap_not_negative, mul-pos_ℤ}
use Rattle.plane.proofs.{nonneg_of_mul-nonneg_ℤ, one_below, same-refl, turned_join, within_itself}
use Rattle.plane.proofs.{IntegerOrder.le_of_mul-le-mul_ℤ, Signs.at_most_times_one}
use Rattle.{plane.proofs.Nearer.gap_of_none, plane_theorems.specs.start_point}
use Rattle.plane_theorems.specs.{circle, HasStart, InRegion, IsTried, rectangle, Region}
use Rattle.plane_theorems.specs.Delaunay.Flood.{IsFlooded, IsFloodedAround, IsFloodedByVertices}
use Rattle.plane_theorems.proofs.Delaunay.Floods.FloodOnLine.{edge_at, edge_beside}
use Rattle.plane_theorems.proofs.Delaunay.Floods.FloodOnLine.{flood_finds_on_line}
use Rattle.plane_theorems.proofs.Delaunay.Floods.FloodOnLine.{flood_starts_on_line, turned_edge}
use Rattle.plane_theorems.proofs.Delaunay.Floods.Flooded.{flood_finds_region, flood_starts, not_few}
use Rattle.plane_theorems.proofs.Delaunay.Points.Members.{contained, Member, member}
use Rattle.plane_theorems.proofs.Delaunay.Segments.LineItems.{edge_last}
use Rattle.plane_theorems.proofs.Delaunay.Tilings.OuterEdges.{EachHasEdge, edge_of_corner}

radius_least : (g r w : ℤ) → pos 0 ≤ℤ g → g ≤ℤ (r *ℤ (w *ℤ w)) → pos 0 <ℤ w → pos 0 ≤ℤ r
radius_least g r w h k p =
    nonneg_of_mul-nonneg_ℤ {k = w *ℤ w} {x = r} (mul-pos_ℤ p p) (let e = *ℤ_comm (w *ℤ w) r in
    omega (arith, ints))

at_centre : (g r : ℤ) → g ≡ pos 0 → pos 0 ≤ℤ r → g ≤ℤ (r *ℤ (pos 1 *ℤ pos 1))
at_centre g r e h = omega (arith, ints)

corners_in_order : (a b x w : ℤ) → (a *ℤ w) ≤ℤ x → x ≤ℤ (b *ℤ w) → pos 0 <ℤ w → a ≤ℤ b
corners_in_order a b x w h k p =
    le_of_mul-le-mul_ℤ {k = w} {x = a} {y = b} p (let e = *ℤ_comm w a in let d = *ℤ_comm w b in
    omega (arith, ints))

whole_high : (a b : ℤ) → a ≤ℤ b → a ≤ℤ (b *ℤ pos 1)
whole_high a b h = omega (arith, ints)

-- a circle with a point has its centre, and a rectangle with a point has its lower corner
pub region_has_start : (region : Region) (p : Fraction) → InRegion region p →
    InRegion region (whole (start_point region))
region_has_start (circle c r) p h = record {
  near = at_centre (gap (whole c) (whole c)) r (gap_of_none (whole c))
      (radius_least (gap (whole c) p) r p.w (gap_not_negative (whole c) p) h.near p.positive);
}
region_has_start (rectangle lower upper) p h = record {
  left = at_most_times_one lower.x lower.x (at_most_itself lower.x);
  right = whole_high lower.x upper.x
      (corners_in_order lower.x upper.x p.x p.w h.left h.right p.positive);
  below = at_most_times_one lower.y lower.y (at_most_itself lower.y);
  above = whole_high lower.y upper.y
      (corners_in_order lower.y upper.y p.y p.w h.below h.above p.positive);
}

-- ---- each vertex has an edge
abbrev point_at : Triangulation → ℕ → Point
point_at t k = slice_index_or t.points k (record { x = pos 0; y = pos 0 })

-- with an edge anywhere
edge_of_vertex : (t : Triangulation) → IsTiling t → (k n : ℕ) → IsEdge t k n → EachHasEdge t
edge_of_vertex t (inl h) k n e i hi = edge_of_corner t h i hi
edge_of_vertex t (inr h) k n e i hi = go (decide_point (point_at t i) (point_at t k))
  where
    o : AreNeighbours t k n
    o = (h.neighbours k n).0 e

    apart : ¬ (point_at t k ≡ point_at t n)
    apart d = o.none_between k o.first (within_itself (vertex t k) (vertex t n) (vertex t k)
        (subst (λ q. IsSame (vertex t k) (whole q)) d (same-refl (vertex t k)))
        (same-refl (vertex t k)))

    go : (point_at t i ≡ point_at t k) ⊎ ¬ (point_at t i ≡ point_at t k) → (c : ℕ) × IsEdge t i c
    go (inr d) = edge_beside t h i k hi o.first d
    go (inl d) = edge_beside t h i n hi o.second (λ b. apart (sym d ∙ b))

-- of two or more vertices
edge_of_several : (t : Triangulation) → IsTiling t
    → ((i j : ℕ) → IsVertex t i → IsVertex t j → IsSame (vertex t i) (vertex t j) → i ≡ j)
    → 2 ≤ length t.points → EachHasEdge t
edge_of_several t (inl h) one some i hi = edge_of_corner t h i hi
edge_of_several t (inr h) one some i hi = go i hi
  where
    beside : (i j : ℕ) → IsVertex t i → IsVertex t j → i ≢ j → (c : ℕ) × IsEdge t i c
    beside i j hi hj d = edge_beside t h i j hi hj
        (λ e. d
        (one i j hi hj (subst (λ q. IsSame (vertex t i) (whole q)) e (same-refl (vertex t i)))))

    go : EachHasEdge t
    go zero hi = beside zero 1 hi (omega (arith, some)) (λ e. omega arith)
    go (suc i) hi = beside (suc i) zero hi (omega (arith, some)) (λ e. omega arith)

-- of two or more vertices, all apart, those in a region are those of its edges' ends that are in it
pub vertices_are_ends : (t : Triangulation) → IsTiling t
    → ((i j : ℕ) → IsVertex t i → IsVertex t j → IsSame (vertex t i) (vertex t j) → i ≡ j)
    → 2 ≤ length t.points → (region : Region) (i : ℕ) → IsVertexIn (InRegion region) t i
    ↔ (InRegion region (vertex t i) × ((k : ℕ) × IsEdgeIn (InRegion region) t i k))
vertices_are_ends t h one some region i = (forth, back)
  where
    forth : IsVertexIn (InRegion region) t i → InRegion region (vertex t i) ×
        ((k : ℕ) × IsEdgeIn (InRegion region) t i k)
    forth v = let e = edge_of_several t h one some i v.0 in
        (v.1, (e.0, edge_at t (InRegion region) i e.0 e.1 v.1))

    first_end : (h : IsTiling t) (k : ℕ) → IsEdge t i k → IsVertex t i
    first_end (inl h) k e = edge_last t h k i (turned_join t.edges i k e)
    first_end (inr h) k e = ((h.neighbours i k).0 e).first

    back : InRegion region (vertex t i) × ((k : ℕ) × IsEdgeIn (InRegion region) t i k) →
        IsVertexIn (InRegion region) t i
    back v = (first_end h v.1.0 v.1.1.0, v.0)

-- at most one vertex, which is 0, has no edge
pub one_vertex_is_alone : (t : Triangulation) → IsTiling t → length t.points ≤ 1
    → ((i j : ℕ) → ¬ IsEdge t i j) × ((i : ℕ) → IsVertex t i → i ≡ 0)
one_vertex_is_alone t h few = (no_edge h, λ i hi. first i (length t.points) hi few)
  where
    first : (i n : ℕ) → i < n → n ≤ 1 → i ≡ 0
    first i n p q = omega arith

    no_edge : IsTiling t → (i j : ℕ) → ¬ IsEdge t i j
    no_edge (inl h) i j e = not_few t h (rectangle (point_at t 0) (point_at t 0)) few
    no_edge (inr h) i j e =
        let o = (h.neighbours i j).0 e in
        o.apart (one_below i j (length t.points) o.first o.second few)

-- ---- the exact start
-- an edge is in the region exactly where one of those tried first is
pub start_is_exact : (t : Triangulation) → IsTiling t → (region : Region) (m : Location)
    → IsLocation t (whole (start_point region)) m → ((k n : ℕ) × IsEdgeIn (InRegion region) t k n)
    ↔ ((a b : ℕ) × IsTried t m a b × IsEdgeIn (InRegion region) t a b)
start_is_exact t h region m l = ((λ e. forth e.0 e.1 e.2), (λ s. (s.0, s.1, s.3)))
  where
    c : Fraction
    c = whole (start_point region)

    Found : Location → Type 0
    Found m = (a b : ℕ) × IsTried t m a b × IsEdgeIn (InRegion region) t a b

    has : (k n : ℕ) → IsEdgeIn (InRegion region) t k n → HasStart t region m
    has k n e = go h
      where
        kc : InRegion region c
        kc = region_has_start region e.1.0 e.1.2

        go : IsTiling t → HasStart t region m
        go (inl h) = flood_starts t h region c kc k n e m l
        go (inr h) = flood_starts_on_line t h region c kc k n e m l

    by : (m : Location) → IsLocation t c m → HasStart t region m → (k n : ℕ)
        → IsEdge t k n → Found m
    by (on_vertex i) l s k n e =
        let o = edge_of_vertex t h k n e i l.0 in (i, o.0, (refl, o.1), s o.0 o.1)
    by (on_edge i j) l s k n e = (i, j, inl (refl, refl), s)
    by (on_face i j m) l (inl s) k n e = (i, j, inl (inl (refl, refl)), s)
    by (on_face i j m) l (inr (inl s)) k n e = (j, m, inr (inl (inl (refl, refl))), s)
    by (on_face i j m) l (inr (inr s)) k n e = (m, i, inr (inr (inl (refl, refl))), s)
    by (outside_hull i j) l s k n e = (s.0, s.1, s.2, s.3)
    by no_triangulation l s k n e = absurd s

    forth : (k n : ℕ) → IsEdgeIn (InRegion region) t k n → Found m
    forth k n e = by m l (has k n e) k n e.0

-- ---- edges found once each are no more than the edges
-- a list without one of its members
record Without (p : ℕ × ℕ) (es : List (ℕ × ℕ)) : Type 0 where
  rest : List (ℕ × ℕ)
  shorter : length es ≡ suc (length rest)
  kept : (q : ℕ × ℕ) → Member q es → (p ≡ q) ⊎ Member q rest

without : (p : ℕ × ℕ) (es : List (ℕ × ℕ)) → Member p es → Without p es
without p [] m = absurd m
without p (e ∷ es) (inl d) =
    record {
      rest = es;
      shorter = refl;
      kept = λ q m. elim m [ inl b ↦ inl (sym d ∙ b) | inr b ↦ inr b ];
    }
without p (e ∷ es) (inr m) = let w = without p es m in record {
  rest = e ∷ w.rest;
  shorter = ap suc w.shorter;
  kept = λ q n. elim n
      [ inl b ↦ inr (inl b) | inr b ↦ elim (w.kept q b) [ inl d ↦ inl d | inr d ↦ inr (inr d) ] ];
}

-- the pair or its turn
abbrev Either : ℕ × ℕ → List (ℕ × ℕ) → Type 0
Either q es = Member (q.0, q.1) es ⊎ Member (q.1, q.0) es

not_longer : (found edges : List (ℕ × ℕ)) → EachPairOnce found
    → ((q : ℕ × ℕ) → Member q found → Either q edges) → length found ≤ length edges
not_longer [] edges once all = omega arith
not_longer (p ∷ ps) edges once all = elim (all p (inl refl)) [
  | inl m ↦ step (p.0, p.1) m (inl refl) (λ rest r. not_longer ps rest (later once) r)
  | inr m ↦ step (p.1, p.0) m (inr refl) (λ rest r. not_longer ps rest (later once) r)
]
  where
    later : EachPairOnce (p ∷ ps) → EachPairOnce ps
    later o i j d lt within = o (suc i) (suc j) d (omega (arith, lt)) (omega (arith, within))

    -- p is none of the later pairs
    differ : (q : ℕ × ℕ) → Member q ps → AreDifferent p q
    differ q n = let c = contained q ps n in subst (λ r. AreDifferent p r) c.2
        (once zero (suc c.0) q (omega arith) (omega (arith, c.1)))

    same_one : (r q : ℕ × ℕ) → ((p.0, p.1) ≡ r) ⊎ ((p.1, p.0) ≡ r) → r ≡ (q.0, q.1)
        → IsSamePair p.0 p.1 q.0 q.1
    same_one r q (inl e) d = inl (ap (λ z. z.0) (e ∙ d), ap (λ z. z.1) (e ∙ d))
    same_one r q (inr e) d = inr (ap (λ z. z.1) (e ∙ d), ap (λ z. z.0) (e ∙ d))

    same_other : (r q : ℕ × ℕ) → ((p.0, p.1) ≡ r) ⊎ ((p.1, p.0) ≡ r) → r ≡ (q.1, q.0)
        → IsSamePair p.0 p.1 q.0 q.1
    same_other r q (inl e) d = inr (ap (λ z. z.0) (e ∙ d), ap (λ z. z.1) (e ∙ d))
    same_other r q (inr e) d = inl (ap (λ z. z.1) (e ∙ d), ap (λ z. z.0) (e ∙ d))

    still : (r : ℕ × ℕ) → ((p.0, p.1) ≡ r) ⊎ ((p.1, p.0) ≡ r) → (w : Without r edges) → (q : ℕ × ℕ)
        → Member q ps → Either q edges → Either q w.rest
    still r is w q n (inl a) =
        elim (w.kept (q.0, q.1) a)
        [ inl d ↦ absurd (differ q n (same_one r q is d)) | inr b ↦ inl b ]
    still r is w q n (inr a) =
        elim (w.kept (q.1, q.0) a)
        [ inl d ↦ absurd (differ q n (same_other r q is d)) | inr b ↦ inr b ]

    longer : (a b n m : ℕ) → a ≤ b → n ≡ suc b → m ≡ suc a → m ≤ n
    longer a b n m h e d = omega arith

    step : (r : ℕ × ℕ) → Member r edges → ((p.0, p.1) ≡ r) ⊎ ((p.1, p.0) ≡ r)
        → ((rest : List (ℕ × ℕ)) → ((q : ℕ × ℕ) → Member q ps → Either q rest)
        → length ps ≤ length rest) → length (p ∷ ps) ≤ length edges
    step r m is again = let w = without r edges m in
        longer (length ps) (length w.rest) (length edges) (length (p ∷ ps))
        (again w.rest (λ q n. still r is w q n (all q (inr n)))) w.shorter refl

-- a list of pairs of a second list, each once, is not longer
pub flood_is_bounded : (edges found : List (ℕ × ℕ)) → EachPairOnce found →
    ((i j : ℕ) → Joins found i j → Joins edges i j) → length found ≤ length edges
flood_is_bounded edges found once all =
    not_longer found edges once (λ q m. either q (all q.0 q.1 (inl (contained q found m))))
  where
    either : (q : ℕ × ℕ) → Joins edges q.0 q.1 → Either q edges
    either q (inl c) = inl (member (q.0, q.1) edges c)
    either q (inr c) = inr (member (q.1, q.0) edges c)

-- with each new mark one fewer is unmarked
pub marks_fill_up : (marks : List Bool) (i : ℕ) (default : Bool) → i < length marks
    → slice_index_or marks i default ≡ false
    → count_by not marks ≡ count_by not (slice_set marks i true) + 1
marks_fill_up marks i default h e = let f = λ (x : Bool). cond (not x) 1 0 in
    let s = sum_by-set f marks i true default h in let one = ap f e in omega (arith, s, one)

-- ---- with faces or without
-- a flood from vertex to vertex that has an edge in the region has them all
pub flood_by_vertices_finds : (t : Triangulation) → IsTiling t
    → (region : Region) (found : List (ℕ × ℕ)) → IsFloodedByVertices t region found → (i j a b : ℕ)
    → Joins found i j → IsEdgeIn (InRegion region) t i j → IsEdgeIn (InRegion region) t a b
    → Joins found a b
flood_by_vertices_finds t (inr h) region found f = flood_finds_on_line t h region found f
flood_by_vertices_finds t (inl h) region found f = flood_finds_region t h region found through
  where
    through : IsFlooded t region found
    through = record {
      next = λ i j k face s m. f.next i j k s m;
      last = λ i j k face s m. turned_join found i k
          (f.next j i k (turned_join found i j s) (turned_edge t (InRegion region) k i m));
    }

-- ---- a flood from the exact start has the edges in the region, and no others
-- a flood from the edges tried first has exactly the edges in the region
pub flood_is_exact : (t : Triangulation) → IsTiling t → (region : Region) (m : Location)
    → IsLocation t (whole (start_point region)) m → (found : List (ℕ × ℕ))
    → ((i j : ℕ) → Joins found i j → IsEdgeIn (InRegion region) t i j)
    → IsFloodedAround t region found
    → ((a b : ℕ) → IsTried t m a b → IsEdgeIn (InRegion region) t a b → (i j : ℕ) × Joins found i j)
    → (k n : ℕ) → Joins found k n ↔ IsEdgeIn (InRegion region) t k n
flood_is_exact t h region m l found sound f started k n = (sound k n, back)
  where
    reach : IsTiling t → (i j : ℕ) → Joins found i j → IsEdgeIn (InRegion region) t k n
        → Joins found k n
    reach (inl h) i j s e =
        flood_finds_region t h region found (f.faces h) i j k n s (sound i j s) e
    reach (inr h) i j s e =
        flood_finds_on_line t h region found (f.line h) i j k n s (sound i j s) e

    back : IsEdgeIn (InRegion region) t k n → Joins found k n
    back e =
        let s = (start_is_exact t h region m l).0 (k, n, e) in let o = started s.0 s.1 s.2 s.3 in
        reach h o.0 o.1 o.2 e
