-- From an item that a segment meets to the next, by the links of a mesh.
-- Notions: IsExit, IsPastFace, AreEndsOf; embedding_value, starts_at, not_same, positive, at_ends,
-- side_at, laid, in_mesh, of_mesh, joined, tiles_with, bare, face_at, start_in, start_known,
-- twin_within, next_spoke, ends_apart, ends_not_within, twin_of_prev, twin_of_next, last_at_edge,
-- past_face, last_within_overlap, end_of_overlap, end_at_end, last_at_end, last_if_none_leads,
-- overlap_comes, none_comes, far_comes.
use Rattle.std.proofs.Common.{◌≡◌, ◌≢◌, ◌⊎◌, ◌↔◌, ◌<◌, ◌∙◌, ◌∷◌}
use Rattle.std.specs.Borrow.{Bor}
use Rattle.std.proofs.Common.{ℕ, List, length, map, Some, None, sym, ap, subst}
use Rattle.std.proofs.Common.{inl, inr, arith}
use Rattle.std.proofs.lemmas.List.{length-map}
use Rattle.plane.specs.{across, along, at_vertex, Fraction, HasFace, IsEdge, IsFace, IsSame, Item}
use Rattle.plane.specs.{left, Meets, on, place, Point, right, Side, side, TilesHull, Triangulation}
use Rattle.{plane.proofs.same-refl, plane_theorems.proofs.Segments.First.LineStarts.next_on_line}
use Rattle.half_edge_links.specs.{face, IsValidMesh, Mesh, next, origin, prev, rev}
use Rattle.half_edge_links.proofs.{rev-rev, rev_within}
use Rattle.plane_theorems.specs.{ComesNext, IsAhead, IsLaid, IsLast}
use Rattle.plane_theorems.proofs.{one_point, Segments.Walking.LaidMeshes.meshes_are_laid}
use Rattle.plane_theorems.proofs.Segments.Walking.OneLine.{steps_on_one_line}
use Rattle.plane_theorems.proofs.Segments.Walking.Steps.{last_crossing, last_vertex}
use Rattle.plane_theorems.proofs.Segments.Walking.Steps.{next_after_crossing, next_after_overlap}
use Rattle.plane_theorems.proofs.Segments.Walking.Steps.{next_after_vertex, overlap_ahead}
use Rattle.delaunay_legalization.specs.{drawn, edges_of, faces_of, IsEmbedding, outer_of, point_at}
use Rattle.{delaunay_legalization.specs.Reading, plane.specs.whole, plane.specs.WithinSegment}
use Rattle.delaunay_legalization.proofs.{edge_joins, edge_of_face, face_before, IsGoingRound}
use Rattle.delaunay_legalization.proofs.{joins_edge, line_has_none, own_edges}
use Rattle.delaunay_legalization.proofs.{EdgePairs.starts_within, MeshLegal.no_outer_face}
use Rattle.delaunay_legalization.proofs.Rounds.{next_starts, next_within}
use Rattle.delaunay_location.specs.{Edge, IsLeftOf, IsNext, item_of, Overlap, Vertex}
use Rattle.delaunay_location.specs.Steps.{IsEdgeAhead, IsInCone, LeadsOn}
use Rattle.{delaunay_location.proofs.SegmentTests.differs_if_within, half_edge_dcel.specs.Contents}
use Rattle.half_edge_links.proofs.Sound.Triangles as T

-- what holds of a mesh and tests by their fields holds of their value
pub embedding_value : {V D U F P : Type 0} {at : V → Point} {IsSite : P → Point → Type 0}
    {fields value : Reading V D U F P} → fields ≡ value
    → IsEmbedding at IsSite fields.dcel fields.tests → IsEmbedding at IsSite value.dcel value.tests
embedding_value {V = V} {D = D} {U = U} {F = F} {P = P} {at = at} {IsSite = IsSite} same embedding =
    subst (λ (s : Reading V D U F P). IsEmbedding at IsSite s.dcel s.tests) same embedding

-- so does where an edge starts
pub starts_at : {V D U F P : Type 0} {fields value : Reading V D U F P} {v : ℕ}
    → fields ≡ value → (h : ℕ) → v ≡ origin fields.dcel.mesh h → v ≡ origin value.dcel.mesh h
starts_at {V = V} {D = D} {U = U} {F = F} {P = P} same h is =
    is ∙ ap (λ (s : Reading V D U F P). origin s.dcel.mesh h) same

-- different points are not at the same place of the plane
pub not_same : (p q : Point) → p ≢ q → ¬ IsSame (whole p) (whole q)
not_same p q n e = n (one_point p q e)

-- a number that is not 0 is positive
pub positive : (n : ℕ) → (n ≡ 0 → ⊥) → 0 < n
positive n h = omega (arith, h)

-- what an answer says of two points and a third, it says of what the two are
pub at_ends : (K : Fraction → Fraction → Fraction → Type 0) {R : Type 0} {u v a b : Point}
    {w : Fraction} → u ≡ a → v ≡ b → R ↔ K (whole u) (whole v) w → R ↔ K (whole a) (whole b) w
at_ends K {R = R} {w = w} from to =
    subst (λ (z : Point × Point). R ↔ K (whole z.0) (whole z.1) w) (λ i. (from i, to i))

-- and the side of a point is the side of what this is
pub side_at : (p q : Fraction) {u a : Point} {z : Side} → z ≡ side p q (whole u) → u ≡ a
    → z ≡ side p q (whole a)
side_at p q e is = e ∙ ap (λ (x : Point). side p q (whole x)) is

-- side x of the face on the left of directed edge h is the one before h where the opposite corner
-- is on the right, else the one after h
abbrev pub IsExit : Mesh → ℕ → Side → ℕ → Type 0
IsExit m h z x = ((z ≡ right) × (x ≡ prev m h)) ⊎ ((z ≢ right) × (x ≡ next m h))

-- after edge h, which the segment from p to q crosses: nothing where q is inside side x of the face
-- beyond, else corner v of this face where z says that it is on the line, else side x
pub record IsPastFace {V D U F : Type 0} (at : V → Point) (c : Contents V D U F) (p q : Point)
    (h v : ℕ) (z : Side) (x : ℕ) : Type 0 where
  pub inside : IsLeftOf (map at c.vertices) c.mesh q x
      → IsNext at c p q (item_of c.mesh (Edge h)) None
  pub corner : ¬ IsLeftOf (map at c.vertices) c.mesh q x → z ≡ on
      → IsNext at c p q (item_of c.mesh (Edge h)) (Some (Vertex v))
  pub side : ¬ IsLeftOf (map at c.vertices) c.mesh q x → z ≢ on
      → IsNext at c p q (item_of c.mesh (Edge h)) (Some (Edge (rev x)))

-- a vertex at the end of directed edge h, and two points where the edge starts and ends
pub record AreEndsOf (points : List Point) (m : Mesh) (h v : ℕ) (u w : Point) : Type 0 where
  pub start : u ≡ point_at points (origin m h)
  pub vertex : v ≡ origin m (rev h)
  pub end : w ≡ point_at points (origin m (rev h))

module _ {V D U F P : Type 0} {at : V → Point} {IsSite : P → Point → Type 0}
    {c : Contents V D U F} {tests : P} (embedding : IsEmbedding at IsSite c tests) where
  abbrev m : Mesh
  m = c.mesh

  abbrev points : List Point
  points = map at c.vertices

  abbrev t : Triangulation
  t = drawn points m

  -- the mesh is valid
  s : IsValidMesh m
  s = embedding.kept.valid

  -- where directed edge h starts
  abbrev start : ℕ → Fraction
  start h = place points (origin m h)

  -- the faces tile the hull, or all vertices are on one line
  pub laid : IsLaid t
  laid = meshes_are_laid points (faces_of m) (outer_of m) (edges_of m) embedding.kept.shape
      (own_edges m s)

  -- each directed edge with data is one of the mesh
  pub in_mesh : (h : ℕ) → h < length c.directed → h < length m.half_edges
  in_mesh h w = subst (λ (n : ℕ). h < n) embedding.kept.fits.directed_fit w

  -- and each one of the mesh has data
  pub of_mesh : (h : ℕ) → h < length m.half_edges → h < length c.directed
  of_mesh h w = subst (λ (n : ℕ). h < n) (sym embedding.kept.fits.directed_fit) w

  -- the two ends of a directed edge are joined by an edge
  pub joined : (h : ℕ) → h < length m.half_edges → IsEdge t (origin m h) (origin m (rev h))
  joined h w = edge_joins m s.sound h w

  -- with a face, the faces tile the hull
  pub tiles_with : (i j k : ℕ) → IsFace t i j k → TilesHull t
  tiles_with i j k f = elim laid [
    | inl h ↦ h
    | inr l ↦ absurd (line_has_none m i j k l.0.no_face f)
  ]

  -- no face is where the outer one is
  pub bare : (h : ℕ) → h < length m.half_edges → face m h ≡ 0
      → ¬ HasFace t (origin m h) (origin m (rev h))
  bare h w o f = elim embedding.kept.shape as (λ _. ⊥) [
    | inl l ↦ no_outer_face points m s l h w o f.0 f.1
    | inr l ↦ line_has_none m (origin m h) (origin m (rev h)) f.0 l.0 f.1
  ]

  -- the inner face on the left of a directed edge, from this edge on
  pub face_at : (h : ℕ) → h < length m.half_edges → 0 < face m h →
      IsFace t (origin m h) (origin m (rev h)) (origin m (prev m h))
  face_at h w inner =
      subst (λ (b : ℕ). IsFace t (origin m h) b (origin m (prev m h))) (s.sound.edges h w).starts
      (face_before m h s.sound (w, inner))

  -- the ends of an edge are at two positions
  pub start_in : (h : ℕ) → h < length m.half_edges → origin m h < length points
  start_in h w = starts_within m s.sound (length points)
      (length-map c.vertices at ∙ embedding.kept.fits.vertices_fit) h w

  -- an edge starts at a vertex
  pub start_known : (h : ℕ) → h < length c.directed → origin m h < length c.vertices
  start_known h within = subst (λ (n : ℕ). origin m h < n) (length-map c.vertices at)
      (start_in h (in_mesh h within))

  -- its other direction has data too
  pub twin_within : (h : ℕ) → h < length c.directed → rev h < length c.directed
  twin_within h within =
      of_mesh (rev h) (rev_within h (length m.half_edges) s.sound.even (in_mesh h within))

  -- the next edge of a round starts at its vertex
  pub next_spoke : {v : ℕ} {Seen : ℕ → Type 0} {given left : List (Bor (Contents V D U F) × ℕ)}
      {x : Bor (Contents V D U F) × ℕ} → IsGoingRound c v Seen given → given ≡ x ∷ left
      → (x.1 < length c.directed) × (origin m x.1 ≡ v)
  next_spoke {x = x} round e =
      (of_mesh x.1 (next_within _ _ _ _ round _ _ e), next_starts _ _ _ _ round _ _ e)

  -- the two ends of a directed edge are different points
  pub ends_apart : (h : ℕ) → h < length c.directed → (u v : Point)
      → u ≡ point_at points (origin m h) → v ≡ point_at points (origin m (rev h)) → u ≢ v
  ends_apart h within u v e f o = distinct (ap whole (sym e ∙ o ∙ f))
    where
      w : h < length m.half_edges
      w = in_mesh h within

      distinct : place points (origin m h) ≢ place points (origin m (rev h))
      distinct =
          elim embedding.kept.shape as
          (λ _. place points (origin m h) ≢ place points (origin m (rev h))) [
            | inl l ↦ l.distinct (origin m h) (origin m (rev h)) (start_in h w)
                (start_in (rev h) (rev_within h (length m.half_edges) s.sound.even w)) (s.apart h w)
            | inr l ↦ l.1.distinct (origin m h) (origin m (rev h)) (start_in h w)
                (start_in (rev h) (rev_within h (length m.half_edges) s.sound.even w)) (s.apart h w)
          ]

  -- and neither end is strictly within it
  pub ends_not_within : (h : ℕ) → h < length c.directed → {u v w : Point}
      → u ≡ point_at points (origin m h) → v ≡ point_at points (origin m (rev h))
      → (w ≡ u) ⊎ (w ≡ v)
      → ¬ WithinSegment (place points (origin m h)) (place points (origin m (rev h))) (whole w)
  ends_not_within h within {u = u} {v = v} {w = w} from to same x = neither_end same
      (differs_if_within u v (ends_apart h within u v from to) w
      (subst (λ (y : Point × Point). WithinSegment (whole y.0) (whole y.1) (whole w))
      (λ i. (sym from i, sym to i)) x))
    where
      neither_end : (w ≡ u) ⊎ (w ≡ v) → (w ≢ u) × (w ≢ v) → ⊥
      neither_end (inl e) differs = differs.0 e
      neither_end (inr e) differs = differs.1 e

  -- where the sides of a face start
  pub twin_of_prev : (h : ℕ) → h < length m.half_edges → 0 < face m h
      → origin m (rev (prev m h)) ≡ origin m h
  twin_of_prev h w inner =
      let r = T.triangle_at m h s.sound w inner in
      sym (s.sound.edges (prev m h) r.prev_in).starts ∙ ap (origin m) r.next_prev

  -- the side after a side of an inner face ends at the third corner
  pub twin_of_next : (h : ℕ) → h < length m.half_edges → 0 < face m h
      → origin m (rev (next m h)) ≡ origin m (prev m h)
  twin_of_next h w inner =
      let r = T.triangle_at m h s.sound w inner in
      sym (s.sound.edges (next m h) r.next_in).starts ∙ ap (origin m) r.next_next

  module _ {p q : Point} (apart : p ≢ q) where
    ways_apart : ¬ IsSame (whole p) (whole q)
    ways_apart e = apart (one_point p q e)

    -- item n comes next after item k
    abbrev Next : Item → Item → Type 0
    Next k n = ComesNext t (whole p) (whole q) k n

    -- item k is the last one
    abbrev Last : Item → Type 0
    Last k = IsLast t (whole p) (whole q) k

    -- the segment meets item k
    abbrev Met : Item → Type 0
    Met k = Meets t (whole p) (whole q) k

    -- ---- after an edge that is crossed
    abbrev crossed : ℕ → Item
    crossed h = across (origin m h) (origin m (rev h))

    module _ (h : ℕ) (within : h < length c.directed) (met : Met (crossed h)) where
      -- edge h is one of the mesh
      w : h < length m.half_edges
      w = in_mesh h within

      -- an edge whose line q is on, or with the outer face on its left, is the last item
      pub last_at_edge : (side (start h) (start (rev h)) (whole q) ≡ on) ⊎ (face m h ≡ 0)
          → Last (crossed h)
      last_at_edge x = go laid x
        where
          go : IsLaid t → (side (start h) (start (rev h)) (whole q) ≡ on) ⊎ (face m h ≡ 0)
              → Last (crossed h)
          go (inl tiles) (inl flat) =
              (last_crossing t tiles (whole p) (whole q) ways_apart (origin m h)
              (origin m (rev h)) met).0 flat
          go (inl tiles) (inr outer) =
              (last_crossing t tiles (whole p) (whole q) ways_apart (origin m h)
              (origin m (rev h)) met).1 (joined h w, bare h w outer)
          go (inr l) _ =
              (steps_on_one_line t l.0 l.1 l.2 (whole p) (whole q) ways_apart).1 (origin m h)
              (origin m (rev h)) met

      module _ (inner : 0 < face m h) where
        abbrev a : ℕ
        a = origin m h

        abbrev b : ℕ
        b = origin m (rev h)

        abbrev d : ℕ
        d = origin m (prev m h)

        -- what comes after edge h, by where d and q are: another side of the face, d, or nothing
        law : (side (whole p) (whole q) (place points d) ≡ left → side (place points b)
            (place points d) (whole q) ≢ left → Next (across a b) (across d b))
            × (side (whole p) (whole q) (place points d) ≡ right → side (place points d)
            (place points a) (whole q) ≢ left → Next (across a b) (across a d))
            × (side (whole p) (whole q) (place points d) ≡ on → side (place points b)
            (place points d) (whole q) ≢ left → Next (across a b) (at_vertex d))
            × (side (whole p) (whole q) (place points d) ≢ right
            → side (place points b) (place points d) (whole q) ≡ left → Last (across a b))
            × (side (whole p) (whole q) (place points d) ≡ right
            → side (place points d) (place points a) (whole q) ≡ left → Last (across a b))
        law = next_after_crossing t (tiles_with a b d (face_at h w inner)) (whole p)
            (whole q) ways_apart a b d met
            (face_at h w inner)

        -- the side after edge h, and the one before it
        side_after : IsLeftOf points m q (next m h)
            ↔ (side (place points b) (place points d) (whole q) ≡ left)
        side_after = (
          (λ x. subst (λ (y : ℕ × ℕ). side (place points y.0) (place points y.1) (whole q) ≡ left)
              (λ i. (starts i, ends i)) x),
          (λ x. subst (λ (y : ℕ × ℕ). side (place points y.0) (place points y.1) (whole q) ≡ left)
              (λ i. (sym starts i, sym ends i)) x),
        )
          where
            starts : origin m (next m h) ≡ b
            starts = (s.sound.edges h w).starts

            ends : origin m (rev (next m h)) ≡ d
            ends = twin_of_next h w inner

        side_before : IsLeftOf points m q (prev m h)
            ↔ (side (place points d) (place points a) (whole q) ≡ left)
        side_before = (
          (λ x. subst (λ (y : ℕ). side (place points d) (place points y) (whole q) ≡ left)
              (twin_of_prev h w inner) x),
          (λ x. subst (λ (y : ℕ). side (place points d) (place points y) (whole q) ≡ left)
              (sym (twin_of_prev h w inner)) x),
        )

        across_next : crossed (rev (next m h)) ≡ across d b
        across_next =
            λ i. across (twin_of_next h w inner i)
            ((ap (origin m) (rev-rev (next m h)) ∙ (s.sound.edges h w).starts) i)

        across_prev : crossed (rev (prev m h)) ≡ across a d
        across_prev = λ i. across (twin_of_prev h w inner i) (ap (origin m) (rev-rev (prev m h)) i)

        -- by where q and the corner are, seen from the side by which the segment leaves the face
        module _ {x : ℕ} {z : Side} (corner : z ≡ side (whole p) (whole q) (place points d))
            (exit : IsExit m h z x) where
          -- q is inside of it: edge h is the last item
          ends_inside : IsLeftOf points m q x → Last (crossed h)
          ends_inside l = elim exit [
            | inl e ↦ law.4 (sym corner ∙ e.0) (side_before.0 (subst (IsLeftOf points m q) e.1 l))
            | inr e ↦ law.3 (λ y. e.0 (corner ∙ y))
                (side_after.0 (subst (IsLeftOf points m q) e.1 l))
          ]

          module _ (outside : ¬ IsLeftOf points m q x) where
            -- q is not, and the corner is on the line: the corner is next
            at_corner : {v : ℕ} → v ≡ d → z ≡ on → IsNext at c p q (crossed h) (Some (Vertex v))
            at_corner is flat = subst (λ (v : ℕ). (v < length c.vertices)
                × Next (crossed h) (at_vertex v)) (sym is) (
                  start_known (prev m h)
                      (of_mesh (prev m h) (T.triangle_at m h s.sound w inner).prev_in),
                  elim exit [
                    | inl e ↦ absurd (differ (sym flat ∙ e.0))
                    | inr e ↦ law.2 (sym corner ∙ flat)
                        (λ y. outside (subst (IsLeftOf points m q) (sym e.1) (side_after.1 y)))
                  ],
                )
              where
                differ : on ≡ right → ⊥
                differ e = cc

            -- the corner is beside the line: the side is next
            through_exit : z ≢ on → IsNext at c p q (crossed h) (Some (Edge (rev x)))
            through_exit beside = elim exit [
              | inl e ↦ leave (prev m h) e.1 r.prev_in (subst (Next (across a b)) (sym across_prev)
                  (law.1 (sym corner ∙ e.0)
                  (λ y. outside (subst (IsLeftOf points m q) (sym e.1) (side_before.1 y)))))
              | inr e ↦ leave (next m h) e.1 r.next_in (subst (Next (across a b)) (sym across_next)
                  (law.0 (sym corner ∙ is_left z e.0 beside)
                  (λ y. outside (subst (IsLeftOf points m q) (sym e.1) (side_after.1 y)))))
            ]
              where
                r : T.IsTriangle m h
                r = T.triangle_at m h s.sound w inner

                leave : (k : ℕ) → x ≡ k → k < length m.half_edges
                    → Next (crossed h) (crossed (rev k))
                    → (rev x < length c.directed) × Next (crossed h) (crossed (rev x))
                leave k is k_in n = subst (λ (y : ℕ). (rev y < length c.directed)
                    × Next (crossed h) (crossed (rev y))) (sym is)
                    (twin_within k (of_mesh k k_in), n)

                is_left : (z : Side) → z ≢ right → z ≢ on → z ≡ left
                is_left left r o = λ _. left
                is_left right r o = absurd (r (λ _. right))
                is_left on r o = absurd (o (λ _. on))

          -- the three
          pub past_face : {v : ℕ} → v ≡ d → IsPastFace at c p q h v z x
          past_face is = record {
            inside = ends_inside;
            corner = λ outside. at_corner outside is;
            side = through_exit;
          }

    -- ---- after an edge that is overlapped
    abbrev overlapped : ℕ → Item
    overlapped h = along (origin m h) (origin m (rev h))

    module _ (h : ℕ) (met : Met (overlapped h)) where
      overlap_law : (WithinSegment (start h) (start (rev h)) (whole q) → Last (overlapped h))
          × (¬ WithinSegment (start h) (start (rev h)) (whole q)
          → Next (overlapped h) (at_vertex (origin m (rev h))))
      overlap_law = elim laid [
        | inl tiles ↦ next_after_overlap t tiles (whole p) (whole q) ways_apart (origin m h)
            (origin m (rev h)) met
        | inr l ↦ (steps_on_one_line t l.0 l.1 l.2 (whole p) (whole q) ways_apart).2 (origin m h)
            (origin m (rev h)) met
      ]

      -- with q strictly within it, it is the last item
      pub last_within_overlap : WithinSegment (start h) (start (rev h)) (whole q)
          → Last (overlapped h)
      last_within_overlap x = overlap_law.0 x

      -- else its end is next
      pub end_of_overlap : h < length c.directed → {v : ℕ} → v ≡ origin m (rev h)
          → ¬ WithinSegment (start h) (start (rev h)) (whole q)
          → IsNext at c p q (overlapped h) (Some (Vertex v))
      end_of_overlap within is x = subst (λ (v : ℕ). (v < length c.vertices)
          × Next (overlapped h) (at_vertex v)) (sym is)
          (start_known (rev h) (twin_within h within), overlap_law.1 x)

      -- so it is where q is one of its ends
      pub end_at_end : h < length c.directed → {v : ℕ} {u w : Point}
          → AreEndsOf points m h v u w → (q ≡ u) ⊎ (q ≡ w)
          → IsNext at c p q (overlapped h) (Some (Vertex v))
      end_at_end within ends same = end_of_overlap within ends.vertex
          (ends_not_within h within ends.start ends.end same)

    -- ---- after a vertex
    module _ (v : ℕ) (met : Met (at_vertex v)) where
      -- the vertex at q is the last item
      pub last_at_end : point_at points v ≡ q → Last (at_vertex v)
      last_at_end is = elim laid [
        | inl tiles ↦ (next_after_vertex t tiles (whole p) (whole q) ways_apart v met).0 same
        | inr l ↦ (next_on_line t l.0 l.1 l.2 (whole p) (whole q) ways_apart v met).0 same
      ]
        where
          same : IsSame (place points v) (whole q)
          same = subst (λ (z : Point). IsSame (place points v) (whole z)) is
              (same-refl (place points v))

      module _ (differs : point_at points v ≢ q) where
        before_end : ¬ IsSame (place points v) (whole q)
        before_end = not_same (point_at points v) q differs

        -- before q, a vertex is the last item if no edge from it leads towards q
        pub last_if_none_leads : ((h : ℕ) → h < length c.directed → origin m h ≡ v
            → ¬ LeadsOn points m q h) → Last (at_vertex v)
        last_if_none_leads none = elim laid [
          | inl tiles ↦ last_vertex t tiles (whole p)
              (whole q) ways_apart v met before_end none_ahead none_into
          | inr l ↦ (next_on_line t l.0 l.1 l.2 (whole p) (whole q) ways_apart v met).2
              before_end none_ahead
        ]
          where
            none_ahead : (b : ℕ) → IsEdge t v b
                → ¬ IsAhead (place points v) (place points b) (whole q)
            none_ahead b e x =
                let h = joins_edge m s.sound v b e in
                none h.0 (of_mesh h.0 h.1) h.2
                (inl (subst (λ (y : ℕ × ℕ). IsAhead (place points y.0) (place points y.1) (whole q))
                (λ i. (sym h.2 i, sym h.3 i)) x))

            none_into : (b d : ℕ) → IsFace t v b d
                → side (place points v) (place points b) (whole q) ≡ left
                → side (place points d) (place points v) (whole q) ≢ left
            none_into b d f x y =
                let h = edge_of_face m s.sound v b d f in
                let k = h.0 in
                let k_in = h.1.inner.0 in
                none k (of_mesh k k_in) h.1.first (inr (record {
                  inner = h.1.inner.1;
                  left = subst
                      (λ (z : ℕ × ℕ). side (place points z.0) (place points z.1) (whole q) ≡ left)
                      (λ i. (sym h.1.first i, (sym h.1.second ∙ (s.sound.edges k k_in).starts) i))
                      x;
                  right = subst
                      (λ (z : ℕ × ℕ). side (place points z.0) (place points z.1) (whole q) ≡ left)
                      (λ i. (
                        sym h.1.third i,
                        (sym h.1.first ∙ sym (twin_of_prev k k_in h.1.inner.1)) i,
                      )) y;
                }))

    -- where directed edge h starts at the vertex
    module _ (h : ℕ) (within : h < length c.directed) (met : Met (at_vertex (origin m h)))
        (differs : point_at points (origin m h) ≢ q) where
      still_apart : ¬ IsSame (start h) (whole q)
      still_apart = not_same (point_at points (origin m h)) q differs

      -- edge h is one of the mesh
      v_in : h < length m.half_edges
      v_in = in_mesh h within

      -- where q is ahead along the edge, this is overlapped next
      along_ahead : IsEdgeAhead points m q h → Next (at_vertex (origin m h)) (overlapped h)
      along_ahead x = elim laid [
        | inl tiles ↦ (next_after_vertex t tiles (whole p) (whole q) ways_apart (origin m h) met).1
            (origin m (rev h))
            (overlap_ahead t tiles (whole p) (whole q) ways_apart (origin m h)
            (origin m (rev h)) met still_apart
            (joined h v_in) x)
        | inr l ↦ (next_on_line t l.0 l.1 l.2 (whole p) (whole q) ways_apart (origin m h) met).1
            (origin m (rev h))
            still_apart (joined h v_in) x
      ]

      module _ (cone : IsInCone points m q h) where
        abbrev f : ℕ
        f = origin m (rev h)

        abbrev e : ℕ
        e = origin m (prev m h)

        cone_law : (side (place points f) (place points e) (whole q) ≡ left
            → Last (at_vertex (origin m h))) × (side (place points f) (place points e) (whole q)
            ≢ left → Next (at_vertex (origin m h)) (across e f))
        cone_law =
            let is = face_at h v_in cone.inner in
            (next_after_vertex t (tiles_with (origin m h) f e is) (whole p) (whole q) ways_apart
            (origin m h) met).2 f e
            is cone.left
            (subst (λ (y : ℕ). side (place points e) (place points y) (whole q) ≡ left)
            (twin_of_prev h v_in cone.inner)
            cone.right)

        far_side : IsLeftOf points m q (next m h)
            ↔ (side (place points f) (place points e) (whole q) ≡ left)
        far_side = (
          (λ x. subst (λ (y : ℕ × ℕ). side (place points y.0) (place points y.1) (whole q) ≡ left)
              (λ i. ((s.sound.edges h v_in).starts i, twin_of_next h v_in cone.inner i)) x),
          (λ x. subst (λ (y : ℕ × ℕ). side (place points y.0) (place points y.1) (whole q) ≡ left)
              (λ i. (sym (s.sound.edges h v_in).starts i, sym (twin_of_next h v_in cone.inner) i))
              x),
        )

        across_far : crossed (rev (next m h)) ≡ across e f
        across_far = λ i. across (twin_of_next h v_in cone.inner i)
            ((ap (origin m) (rev-rev (next m h)) ∙ (s.sound.edges h v_in).starts) i)

        -- where q is in the cone of the face and inside its third side, the vertex is the last
        -- item
        last_in_face : IsLeftOf points m q (next m h) → Last (at_vertex (origin m h))
        last_in_face l = cone_law.0 (far_side.0 l)

        -- else this side is next
        through_far : ¬ IsLeftOf points m q (next m h)
            → Next (at_vertex (origin m h)) (crossed (rev (next m h)))
        through_far l = subst (Next (at_vertex (origin m h))) (sym across_far)
            (cone_law.1 (λ y. l (far_side.1 y)))

    -- the same by handles, where the edge starts at vertex v
    module _ {v : ℕ} (h : ℕ) (within : h < length c.directed) (starts : origin m h ≡ v)
        (met : Met (at_vertex v)) (differs : point_at points v ≢ q) where
      met_there : Met (at_vertex (origin m h))
      met_there = subst (λ (k : ℕ). Met (at_vertex k)) (sym starts) met

      differs_there : point_at points (origin m h) ≢ q
      differs_there = subst (λ (k : ℕ). point_at points k ≢ q) (sym starts) differs

      -- where q is ahead along the edge
      pub overlap_comes : IsEdgeAhead points m q h
          → IsNext at c p q (at_vertex v) (Some (Overlap h))
      overlap_comes x = (
        within,
        subst (λ (k : ℕ). Next (at_vertex k) (overlapped h)) starts
            (along_ahead h within met_there differs_there x),
      )

      module _ (cone : IsInCone points m q h) {far : ℕ} (is : far ≡ next m h) where
        -- where it is inside the face
        pub none_comes : IsLeftOf points m q far → IsNext at c p q (at_vertex v) None
        none_comes l = subst (λ (k : ℕ). Last (at_vertex k)) starts
            (last_in_face h within met_there differs_there cone
            (subst (IsLeftOf points m q) is l))

        -- where it is beyond
        pub far_comes : ¬ IsLeftOf points m q far
            → IsNext at c p q (at_vertex v) (Some (Edge (rev far)))
        far_comes l = (
          twin_within far (of_mesh far (subst (λ (k : ℕ). k < length m.half_edges) (sym is)
              (s.sound.edges h (in_mesh h within)).next_in)),
          subst (λ (x : ℕ × ℕ). Next (at_vertex x.0) (crossed (rev x.1)))
              (λ i. (starts i, sym is i))
              (through_far h within met_there differs_there cone
              (λ y. l (subst (IsLeftOf points m q) (sym is) y))),
        )
