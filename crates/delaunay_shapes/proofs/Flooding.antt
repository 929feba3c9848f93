-- A flood over a mesh that has spread is a flood round the triangulation, and has each edge in its
-- region.
-- Notions: GoesOn; half_of_even, half_of_rev, tiles, below_half, to_half, from_half, half_by_ends,
-- pair_edge, joined_half, half_joined, joined_by_ends, flooded_around, begun_finds_all.
use Rattle.std.proofs.Common.{◌≡◌, ◌⊎◌, ◌*◌, ◌/◌, ◌<◌, ◌∙◌}
use Rattle.std.proofs.Common.{ℕ, List, length, refl, sym, ap, subst, arith, eq-eqb}
use mathlib.Core.Logic.{inl, inr, ◌≢◌}
use mathlib.Core.Bool.{Bool}
use Rattle.std.specs.Prelude.{Contains, ◌==◌}
use Rattle.std.proofs.lemmas.Bool.{cases_eq, eqb-true}
use Rattle.std.proofs.lemmas.Grind.{common_steps}
use Rattle.plane.specs.{Fraction, IsEdge, IsEdgeIn, IsFace, IsTiling, Joins, JoinsLine, Point}
use Rattle.half_edge_links.specs.{face, IsClosed, IsInnerEdge, IsValidMesh, Mesh, next, origin}
use Rattle.{half_edge_links.specs.prev, half_edge_links.specs.rev, plane.proofs.turned_join}
use Rattle.half_edge_links.proofs.{Lists.Rev.rev_same, rev-rev, rev_within}
use Rattle.plane_theorems.specs.{HasPointIn, InRegion, IsMesh, LineMesh, Region}
use Rattle.plane_theorems.specs.Delaunay.Flood.{IsFloodedAround}
use Rattle.plane_theorems.proofs.{Delaunay.Floods.Flooded.flood_finds_region, meshes_tile}
use Rattle.plane_theorems.proofs.Delaunay.Floods.FloodOnLine.{flood_finds_on_line, turned_edge}
use Rattle.delaunay_legalization.specs.{drawn, edges_of, faces_of, outer_of, pair_at, pairs_at}
use Rattle.delaunay_legalization.proofs.{contains_map, contains_map_from, edge_joins, edge_of_face}
use Rattle.delaunay_legalization.proofs.{half_same, halved, joins_edge, own_edges, own_indexes}
use Rattle.{delaunay_legalization.proofs.LineNeighbours.two_neighbours, plane.specs.Triangulation}
use Rattle.delaunay_shapes.specs.{AreEdgesInShape, HasStartAt, IsAsked, IsEdgeInShape, IsFlooding}
use Rattle.delaunay_shapes.specs.{point_at, Spreads, undirected_of}
use Rattle.delaunay_shapes.specs.Flood.{AreAskedBeside, HasBegunWith, IsBegunBy, IsSpread}
use Rattle.delaunay_shapes.proofs.Asking.{rev_half}

-- the undirected edge of either of its directions
pub half_of_even : (k : ℕ) → (2 * k) / 2 ≡ k
half_of_even k = omega arith

pub half_of_rev : (k : ℕ) → rev (2 * k) / 2 ≡ k
half_of_rev k = grind (arith, common_steps)

half_below : (h n : ℕ) → h < 2 * n → h / 2 < n
half_below h n w = omega (arith, w)

module _ (points : List Point) (m : Mesh) (v : IsValidMesh m)
    (shape : IsMesh points (faces_of m) (outer_of m)) where
  abbrev t : Triangulation
  t = drawn points m

  -- the mesh is a tiling
  pub tiles : IsTiling t
  tiles = meshes_tile points (faces_of m) (outer_of m) (edges_of m) shape (own_edges m v)

  one_edge : (g h : ℕ) → g < length m.half_edges → h < length m.half_edges → origin m h ≡ origin m g
      → origin m (rev h) ≡ origin m (rev g) → h ≡ g
  one_edge g h a b e f = (own_indexes points m v shape).edges g h a b (e, f)

  rev_in : (h : ℕ) → h < length m.half_edges → rev h < length m.half_edges
  rev_in h w = rev_within h (length m.half_edges) v.sound.even w

  -- the undirected edge of a directed one is below their count
  pub below_half : (count : ℕ) → 2 * count ≡ length m.half_edges → (h : ℕ) → h < length m.half_edges
      → h / 2 < count
  below_half count even h w = half_below h count (subst (λ z. h < z) (sym even) w)

  -- where the edge after h ends, and where the one before it starts
  after_ends : (h : ℕ) → h < length m.half_edges → origin m (rev h) ≡ origin m (next m h)
  after_ends h w = sym (v.sound.edges h w).starts

  before_ends : (h : ℕ) → h < length m.half_edges → origin m (rev (prev m h)) ≡ origin m h
  before_ends h w =
      sym (v.sound.edges (prev m h) (v.sound.edges h w).prev_in).starts
      ∙ ap (origin m) (v.sound.edges h w).next_prev

  -- ---- an edge by either of its directions
  module _ (Shape : Fraction → Type 0) where
    -- edge h has a point in the shape
    abbrev IsIn : ℕ → Type 0
    IsIn h = HasPointIn Shape (point_at points (origin m h)) (point_at points (origin m (rev h)))

    edge_in : (h : ℕ) → h < length m.half_edges → IsIn h
        → IsEdgeIn Shape t (origin m h) (origin m (rev h))
    edge_in h w p = (edge_joins m v.sound h w, p)

    turned_in : (h : ℕ) → h < length m.half_edges → IsIn h → IsIn (rev h)
    turned_in h w p = subst
        (λ g. HasPointIn Shape (point_at points (origin m (rev h))) (point_at points (origin m g)))
        (sym (rev-rev h)) (turned_edge t Shape (origin m h) (origin m (rev h)) (edge_in h w p)).1

    -- a directed edge with a point in the shape has an undirected edge with one
    pub to_half : (h : ℕ) → h < length m.half_edges → IsIn h → IsEdgeInShape Shape points m (h / 2)
    to_half h w p = elim (halved h) [
      | inl e ↦ subst IsIn (sym e) p
      | inr e ↦ subst IsIn (sym e) (turned_in h w p)
    ]

    -- and a directed edge has a point in it where its undirected edge has
    pub from_half : (h : ℕ) → h < length m.half_edges
        → IsEdgeInShape Shape points m (h / 2) → IsIn h
    from_half h w p = elim (halved h) [
      | inl e ↦ subst IsIn e p
      | inr e ↦ subst IsIn (rev-rev h) (turned_in (rev h) (rev_in h w) (subst IsIn e p))
    ]

    -- so has the undirected edge of an edge that has one, by the ends of a direction
    pub half_by_ends : (h i j : ℕ) → h < length m.half_edges → origin m h ≡ i → origin m (rev h) ≡ j
        → IsEdgeIn Shape t i j → IsEdgeInShape Shape points m (h / 2)
    half_by_ends h i j w a b e = to_half h w (subst
        (λ x. HasPointIn Shape (point_at points x) (point_at points (origin m (rev h)))) (sym a)
        (subst (λ x. HasPointIn Shape (point_at points i) (point_at points x)) (sym b) e.1))

  -- directed edge g goes on from where h ends, at the other side of h only where h is the last, and
  -- is found if it is in the shape
  pub record GoesOn (Shape : Fraction → Type 0) (found : List ℕ) (h g : ℕ) : Type 0 where
    pub within : g < length m.half_edges
    pub starts : origin m g ≡ origin m (rev h)
    pub turns : g ≡ rev h → next m h ≡ rev h
    pub finds : IsEdgeInShape Shape points m (g / 2) → Contains found (g / 2)

  -- ---- edges found, as pairs of vertices
  module _ (found : List ℕ)
      (within : (k : ℕ) → Contains found k → 2 * k < length m.half_edges) where
    abbrev pairs : List (ℕ × ℕ)
    pairs = pairs_at m found

    -- a found pair is a directed edge
    pub pair_edge : (i j : ℕ) → Joins pairs i j → (h : ℕ) × (h < length m.half_edges)
        × (origin m h ≡ i) × (origin m (rev h) ≡ j) × Contains found (h / 2)
    pair_edge i j (inl c) =
        let r = contains_map_from (pair_at m) found (i, j) c in (
          2 * r.0,
          within r.0 r.1,
          ap (λ q. q.0) r.2,
          ap (λ q. q.1) r.2,
          subst (Contains found) (sym (half_of_even r.0)) r.1,
        )
    pair_edge i j (inr c) =
        let r = contains_map_from (pair_at m) found (j, i) c in (
          rev (2 * r.0),
          rev_in (2 * r.0) (within r.0 r.1),
          ap (λ q. q.1) r.2,
          ap (origin m) (rev-rev (2 * r.0))
              ∙ ap (λ q. q.0) r.2,
          subst (Contains found) (sym (half_of_rev r.0)) r.1,
        )

    -- an edge with the ends of a found pair is found
    pub joined_half : (i j h : ℕ) → h < length m.half_edges → origin m h ≡ i → origin m (rev h) ≡ j
        → Joins pairs i j → Contains found (h / 2)
    joined_half i j h w a b s =
        let r = pair_edge i j s in
        subst (λ g. Contains found (g / 2)) (one_edge h r.0 w r.1 (r.2 ∙ sym a) (r.3 ∙ sym b)) r.4

    -- the ends of an edge that is found are a found pair
    pub half_joined : (h : ℕ) → Contains found (h / 2) → Joins pairs (origin m h) (origin m (rev h))
    half_joined h c = elim (halved h) [
      | inl e ↦ inl (subst (λ g. Contains pairs (origin m g, origin m (rev g))) e
          (contains_map (pair_at m) found (h / 2) c))
      | inr e ↦ inr (subst (λ g. Contains pairs (origin m (rev h), origin m g)) (rev-rev h)
          (subst (λ g. Contains pairs (origin m g, origin m (rev g))) e
          (contains_map (pair_at m) found (h / 2) c)))
    ]

    -- so are two vertices that are its ends
    pub joined_by_ends : (h i j : ℕ) → origin m h ≡ i → origin m (rev h) ≡ j
        → Contains found (h / 2) → Joins pairs i j
    joined_by_ends h i j a b c =
        subst (λ x. Joins pairs x j) a (subst (λ x. Joins pairs (origin m h) x) b (half_joined h c))

    -- ---- with an edge, the edges beside it in its face that are in the shape, and one that goes
    -- on from where it ends
    module _ (Shape : Fraction → Type 0)
        (after : (h : ℕ) → IsInnerEdge m h → Contains found (h / 2) →
        IsEdgeInShape Shape points m (next m h / 2) → Contains found (next m h / 2))
        (before : (h : ℕ) → IsInnerEdge m h → Contains found (h / 2) →
        IsEdgeInShape Shape points m (prev m h / 2) → Contains found (prev m h / 2))
        (onward : (h : ℕ) → h < length m.half_edges → Contains found (h / 2)
        → (g : ℕ) × GoesOn Shape found h g) where
      -- through faces
      face_next : (i j k : ℕ) → IsFace t i j k → Joins pairs i j → IsEdgeIn Shape t j k
          → Joins pairs j k
      face_next i j k f s e =
          let r = edge_of_face m v.sound i j k f in
          let h = r.0 in
          let w = r.1.inner.0 in
          let links = v.sound.edges h w in
          let far : origin m (rev (next m h)) ≡ k =
          after_ends (next m h) links.next_in ∙ ap (origin m) (links.three r.1.inner.1)
          ∙ r.1.third in
          joined_by_ends (next m h) j k r.1.second far
          (after h r.1.inner (joined_half i j h w r.1.first (after_ends h w ∙ r.1.second) s)
          (half_by_ends Shape (next m h) j k links.next_in r.1.second far e))

      face_last : (i j k : ℕ) → IsFace t i j k → Joins pairs i j → IsEdgeIn Shape t k i
          → Joins pairs k i
      face_last i j k f s e =
          let r = edge_of_face m v.sound i j k f in
          let h = r.0 in
          let w = r.1.inner.0 in
          let links = v.sound.edges h w in
          let far : origin m (rev (prev m h)) ≡ i = before_ends h w ∙ r.1.first in
          joined_by_ends (prev m h) k i r.1.third far
          (before h r.1.inner (joined_half i j h w r.1.first (after_ends h w ∙ r.1.second) s)
          (half_by_ends Shape (prev m h) k i links.prev_in r.1.third far e))

      -- ---- on a line
      -- where the edge after h goes back, no other edge starts where h ends
      only_back : (h g : ℕ) → h < length m.half_edges → g < length m.half_edges → next m h ≡ rev h →
          origin m g ≡ origin m (rev h) → g ≡ rev h
      only_back h g w u back starts = eqb-true g (rev h)
          (v.stars (λ a. a == rev h) closed (rev h) g (rev_in h w) u (sym starts)
          (eq-eqb (rev h) (rev h) refl))
        where
          closed : IsClosed m (λ a. a == rev h)
          closed a a_in is = eq-eqb (rev (prev m a)) (rev h)
              (ap (λ b. rev (prev m b)) (eqb-true a (rev h) is ∙ sym back)
              ∙ ap rev (v.sound.edges h w).prev_next)

      line_next : JoinsLine t → LineMesh points (outer_of m) → (i j k : ℕ) → Joins pairs i j
          → IsEdgeIn Shape t j k → Joins pairs j k
      line_next line outer i j k s e =
          let r = pair_edge i j s in
          let g = joins_edge m v.sound j k e.0 in
          let o = onward r.0 r.1 r.4 in
          go r.0 r.1 r.2 r.3 o.0 o.1 g.0 g.1 g.2 g.3 (cases_eq k i)
          (cases_eq (origin m (rev o.0)) i) (cases_eq (origin m (rev o.0)) k)
        where
          near : (a b : ℕ) → IsEdge t a b → Contains (outer_of m) (a, b)
          near a b c = let n = (line.neighbours a b).0 c in
              (outer.neighbours a b).1 (record {
                apart = n.apart;
                first = n.first;
                second = n.second;
                none_between = n.none_between;
              })

          go : (h : ℕ) (w : h < length m.half_edges) → origin m h ≡ i → origin m (rev h) ≡ j
              → (o : ℕ) → GoesOn Shape found h o → (g : ℕ) → g < length m.half_edges
              → origin m g ≡ j → origin m (rev g) ≡ k → (k ≡ i) ⊎ (k ≢ i)
              → (origin m (rev o) ≡ i) ⊎ (origin m (rev o) ≢ i)
              → (origin m (rev o) ≡ k) ⊎ (origin m (rev o) ≢ k) → Joins pairs j k
          go h w a b o on g u p q (inl back) x y =
              subst (Joins pairs j) (sym back) (turned_join pairs i j s)
          go h w a b o on g u p q (inr far) (inl x) y =
              let at_j : origin m o ≡ j = on.starts ∙ b in
              let nx : next m h ≡ rev h = on.turns (one_edge (rev h) o (rev_in h w) on.within
              (at_j ∙ sym b) (x ∙ sym a ∙ ap (origin m) (sym (rev-rev h)))) in
              let is : g ≡ rev h = only_back h g w u nx (p ∙ sym b) in
              absurd (far (sym q ∙ ap (λ z. origin m (rev z)) is ∙ ap (origin m) (rev-rev h) ∙ a))
          go h w a b o on g u p q (inr far) (inr x) (inl y) =
              let at_j : origin m o ≡ j = on.starts ∙ b in
              joined_by_ends o j k at_j y
              (on.finds (half_by_ends Shape o j k on.within at_j y e))
          go h w a b o on g u p q (inr far) (inr x) (inr y) =
              let at_j : origin m o ≡ j = on.starts ∙ b in
              let back : IsEdge t j i = subst (λ z. IsEdge t z i) b
              (subst (λ z. IsEdge t (origin m (rev h)) z) a
              (turned_join t.edges (origin m h) (origin m (rev h))
              (edge_joins m v.sound h w))) in
              let there : IsEdge t j (origin m (rev o)) = subst (λ z. IsEdge t z (origin m (rev o)))
              at_j (edge_joins m v.sound o on.within) in
              absurd (two_neighbours points (outer_of m) outer j i (origin m (rev o)) k
              (near j i back) (near j (origin m (rev o)) there) (near j k e.0)
              (λ z. x (sym z)) y (λ z. far (sym z)))

      -- a tiling of the hull has a face, and a line none
      line_of : JoinsLine t → IsMesh points (faces_of m) (outer_of m) → LineMesh points (outer_of m)
      line_of line (inl s) = absurd (s.some_face line.no_face)
      line_of line (inr s) = s.1

      -- where the next and the last side in the shape are found with an edge, all round is flooded
      pub flooded_around : (region : Region)
          → ((i j : ℕ) → IsEdgeIn (InRegion region) t i j → IsEdgeIn Shape t i j)
          → IsFloodedAround t region pairs
      flooded_around region into = record {
        faces = λ hull. record {
          next = λ i j k f s e. face_next i j k f s (into j k e);
          last = λ i j k f s e. face_last i j k f s (into k i e);
        };
        line = λ line. record {
          next = λ i j k s e. line_next line (line_of line shape) i j k s (into j k e);
        };
      }

  -- ---- a flood that has spread
  -- a flood that has spread from where a region begins has found all edges in it
  spread_finds_all : (Shape : Fraction → Type 0) (p : Point) → HasStartAt Shape p → (count : ℕ)
      → 2 * count ≡ length m.half_edges → (starts : List ℕ) (asked : List Bool) (sides : List ℕ)
      → IsFlooding (IsEdgeInShape Shape points m) count asked (undirected_of sides)
      → IsSpread m asked sides → IsBegunBy (IsEdgeInShape Shape points m) count starts
      → ((k : ℕ) → Contains starts k → (k < count) × IsAsked asked k)
      → AreEdgesInShape Shape points m (undirected_of sides)
  spread_finds_all Shape p shaped count even starts asked sides flooding spread begun tried =
      record {
        once = flooding.once;
        exact = λ k. ((λ c. (within k c, flooding.inside k c)), (λ q. back k q.0 q.1));
      }
    where
      found : List ℕ
      found = undirected_of sides

      region : Region
      region = shaped.region

      within : (k : ℕ) → Contains found k → 2 * k < length m.half_edges
      within k c = let h = flooding.within k c in omega (arith, h, even)

      into : (i j : ℕ) → IsEdgeIn (InRegion region) t i j → IsEdgeIn Shape t i j
      into i j e = (e.0, (e.1.0, e.1.1, (shaped.same e.1.0).1 e.1.2))

      out_of : (i j : ℕ) → IsEdgeIn Shape t i j → IsEdgeIn (InRegion region) t i j
      out_of i j e = (e.0, (e.1.0, e.1.1, (shaped.same e.1.0).0 e.1.2))

      -- the side of a found edge from which the flood went on
      side_of : (h : ℕ) → Contains found (h / 2)
          → (g : ℕ) × Contains sides g × ((h ≡ g) ⊎ (h ≡ rev g))
      side_of h c = let r = contains_map_from (λ (x : ℕ). x / 2) sides (h / 2) c in
          (r.0, r.1, half_same r.0 h (sym r.2))

      beside : (h : ℕ) → IsInnerEdge m h → Contains found (h / 2) → AreAskedBeside m asked h
      beside h inner c = let r = side_of h c in
          elim r.2 as (λ _. AreAskedBeside m asked h) [
            | inl e ↦ subst (AreAskedBeside m asked) (sym e) (spread.on r.0 r.1)
            | inr e ↦ subst (AreAskedBeside m asked) (sym e)
                (spread.back r.0 r.1 (subst (λ x. 0 < face m x) e inner.1))
          ]

      finds : (h : ℕ) → h < length m.half_edges → IsAsked asked (h / 2)
          → IsEdgeInShape Shape points m (h / 2) → Contains found (h / 2)
      finds h w a p = flooding.complete (h / 2) (below_half count even h w) a p

      -- the edge after h goes on from its end, or the other side of the edge before its other side
      onward : (h : ℕ) → h < length m.half_edges → Contains found (h / 2)
          → (g : ℕ) × GoesOn Shape found h g
      onward h w c = let r = side_of h c in
          elim r.2 as (λ _. (g : ℕ) × GoesOn Shape found h g) [
            | inl e ↦ (
              next m h,
              record {
                within = (v.sound.edges h w).next_in;
                starts = (v.sound.edges h w).starts;
                turns = λ back. back;
                finds = finds (next m h) (v.sound.edges h w).next_in
                    (subst (AreAskedBeside m asked) (sym e) (spread.on r.0 r.1)).after;
              },
            )
            | inr e ↦ other h w (subst (AreAskedBeside m asked) (sym (ap rev e ∙ rev-rev r.0))
                (spread.on r.0 r.1))
          ]
        where
          other : (h : ℕ) → h < length m.half_edges → AreAskedBeside m asked (rev h)
              → (g : ℕ) × GoesOn Shape found h g
          other h w b =
              let r = rev h in
              let links = v.sound.edges r (rev_in h w) in
              let half = rev_half (prev m r) in (
                rev (prev m r),
                record {
                  within = rev_in (prev m r) links.prev_in;
                  starts = before_ends r (rev_in h w);
                  turns = λ back.
                      let same : prev m r ≡ h = rev_same (prev m r) h back in
                      ap (next m) (sym same) ∙ links.next_prev;
                  finds = λ p. subst (Contains found) (sym half)
                      (finds (prev m r) links.prev_in b.before
                      (subst (IsEdgeInShape Shape points m) half p));
                },
              )

      around : IsFloodedAround t region (pairs found within)
      around = flooded_around found within Shape
          (λ h inner c p.
          finds (next m h) (v.sound.edges h inner.0).next_in (beside h inner c).after p)
          (λ h inner c p.
          finds (prev m h) (v.sound.edges h inner.0).prev_in (beside h inner c).before p)
          onward region into

      sound : (i j : ℕ) → Joins (pairs found within) i j → IsEdgeIn (InRegion region) t i j
      sound i j s =
          let r = pair_edge found within i j s in
          let p = edge_in Shape r.0 r.1 (from_half Shape r.0 r.1 (flooding.inside (r.0 / 2) r.4)) in
          out_of i j (subst (λ x. IsEdgeIn Shape t x j) r.2
          (subst (λ x. IsEdgeIn Shape t (origin m r.0) x) r.3 p))

      reach : IsTiling t → (i j a b : ℕ) → Joins (pairs found within) i j
          → IsEdgeIn (InRegion region) t a b → Joins (pairs found within) a b
      reach (inl h) i j a b s e =
          flood_finds_region t h region (pairs found within) (around.faces h) i j a b s
          (sound i j s) e
      reach (inr h) i j a b s e =
          flood_finds_on_line t h region (pairs found within) (around.line h) i j a b s
          (sound i j s) e

      back : (k : ℕ) → 2 * k < length m.half_edges → IsEdgeInShape Shape points m k
          → Contains found k
      back k w p =
          let first =
          begun.begun k (subst (λ (x : ℕ). x < count) (half_of_even k)
          (below_half count even (2 * k) w)) p in
          let here = flooding.complete first.0 (tried first.0 first.1).0
          (tried first.0 first.1).1 first.2 in
          let s = half_joined found within (2 * first.0)
          (subst (Contains found) (sym (half_of_even first.0)) here) in
          let e = out_of (origin m (2 * k)) (origin m (rev (2 * k))) (edge_in Shape (2 * k) w p) in
          subst (Contains found) (half_of_even k)
          (joined_half found within (origin m (2 * k)) (origin m (rev (2 * k)))
          (2 * k) w refl refl (reach tiles (origin m (2 * first.0)) (origin m (rev (2 * first.0)))
          (origin m (2 * k)) (origin m (rev (2 * k))) s e))

  -- so has one that began with these before it went on
  pub begun_finds_all : (Shape : Fraction → Type 0) (p : Point) → HasStartAt Shape p → (count : ℕ)
      → 2 * count ≡ length m.half_edges → (first asked : List Bool) (begun sides : List ℕ)
      → IsFlooding (IsEdgeInShape Shape points m) count asked (undirected_of sides)
      → IsSpread m asked sides → HasBegunWith (IsEdgeInShape Shape points m) count first
      → Spreads first asked begun sides → AreEdgesInShape Shape points m (undirected_of sides)
  begun_finds_all Shape p shaped count even first asked begun sides flooding spread b on =
      spread_finds_all Shape p shaped count even b.starts asked sides flooding spread b.begun
      (λ k c. (
        subst (λ (x : ℕ). x < count) c.2 (b.within c.0 k c.1),
        on.kept k (b.each k c),
      ))
