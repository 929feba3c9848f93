-- An edge of a mesh that crosses a segment is turned towards it, and one that crosses can be.
-- Notions: CanTurn; others_stay, crossing, crossing_at, local_if_crossed, edge_if_none,
-- last_ends_turn, crosses_both_ways, can_turn, turned_lower, turned_local, turned_keeps,
-- turned_keeps_faces, some_turns_nearer.
use Rattle.std.proofs.Common.{◌≡◌, ◌≢◌, ◌⊎◌, ◌*◌, ◌/◌, ◌<◌, [], ◌∷◌, ◌∙◌}
use Rattle.std.proofs.Common.{ℕ, List, length, refl, sym, ap, subst}
use mathlib.Core.Logic.{inl, inr}
use Rattle.std.specs.Prelude.{pos, ◌<ℤ◌, Contains, Some, slice_get}
use Rattle.plane.specs.{Cross, face as corners, IsEdge, IsFace, Joins, on, opposite, place, Point}
use Rattle.plane.specs.{right, side, TilesHull, Triangulation, turn_at, TurnsLeft, vertex}
use Rattle.plane.proofs.{left_not_zero, on_if_zero, opposite_of_negative, opposite_of_positive}
use Rattle.plane.proofs.{opposite_of_zero, right_if_negative, side_swapped}
use Rattle.plane.proofs.{turned_join as edge_back}
use Rattle.half_edge_links.specs.{AreSoundLinks, face, flipped, Flips, FlipsTriangles, IsFlippable}
use Rattle.half_edge_links.specs.{IsValidMesh, KeepsOuter, Mesh, next, origin, prev, rev, triangles}
use Rattle.half_edge_links.proofs.{flips_is, origin_kept, rev-rev, rev_within}
use Rattle.plane_theorems.specs.{ComesAfterOnRight, crossing_sum, FacesChange, IsCrossing}
use Rattle.plane_theorems.specs.{IsFreeOfVertices, IsLastLeft, IsLastRight, IsMesh, LocalMesh}
use Rattle.plane_theorems.proofs.{flip_kept, mesh_tiles, meshes_tile}
use Rattle.plane_theorems.proofs.Edits.LocalMesh.Changes.{each, each_none}
use Rattle.plane_theorems.proofs.Segments.Crossing.Chosen.{chosen_flip_exists}
use Rattle.plane_theorems.proofs.Segments.Crossing.EitherWay.{crossing_is_either_way}
use Rattle.{plane_theorems.proofs.Segments.Crossing.Falling.Precedes, plane_theorems.specs.point_of}
use Rattle.plane_theorems.proofs.Segments.Crossing.Lowering.{last_x_sooner, last_z_sooner}
use Rattle.plane_theorems.proofs.Segments.Crossing.Lowering.{turn_lowers}
use Rattle.plane_theorems.proofs.Segments.Crossing.PathFlips.{subconstraint_on_line_is_edge}
use Rattle.plane_theorems.proofs.Segments.Crossing.Paths.{chosen_flip_is_convex, uncrossed_is_edge}
use Rattle.plane_theorems.proofs.Segments.Crossing.Turns.{left_turn, no_turn, right_turn, turn-same}
use Rattle.plane_theorems.proofs.Segments.Crossing.Turns.{turn-swapped, turn_left}
use Rattle.delaunay_legalization.specs.{drawn, edges_of, faces_of, GoSameDirection, outer_of}
use Rattle.delaunay_legalization.specs.Stays.{HasSideIn, StaysBut}
use Rattle.delaunay_legalization.proofs.{contains_last, edge_joins, face_before, halved, joins_edge}
use Rattle.delaunay_legalization.proofs.{listed, MeshLegal.between_inner, own_edges, turned_faces}
use Rattle.delaunay_legalization.proofs.{Legalizing.positive, MeshStarFlips.from_other_side}
use Rattle.delaunay_legalization.proofs.MeshEdits.{face_behind, flipped_faces}
use Rattle.delaunay_legalization.proofs.MeshStays.{stays_none, stays_turned}
use Rattle.delaunay_legalization.proofs.OuterChanges.{outer_kept, own_ends}
use Rattle.delaunay_edit.specs.{CrossesFromRight, KeepsUncrossed, KeepsUncrossedFaces, TurnsNearer}
use Rattle.delaunay_edit.specs.Crossing.{ComesSooner, CrossesSegment}

-- ---- the order, by turns
-- seen from i, what u is before comes after it
after_if_before : (i u v : Point) → Precedes i u v → ComesAfterOnRight i u v
after_if_before i u v (inl h) = inl (right_if_negative i u v
    (opposite_of_positive (turn_at i u v) (turn_at i v u) (turn-swapped i v u) h))
after_if_before i u v (inr h) = inr (
  on_if_zero i u v (opposite_of_zero (turn_at i u v) (turn_at i v u) (turn-swapped i v u) h.0),
  h.1,
)

-- and the other way round
before_if_after : (i u v : Point) → ComesAfterOnRight i u v → Precedes i u v
before_if_after i u v (inl h) = inl
    (opposite_of_negative (turn_at i v u) (turn_at i u v) (turn-swapped i u v) (right_turn i u v h))
before_if_after i u v (inr h) = inr (
  opposite_of_zero (turn_at i v u) (turn_at i u v) (turn-swapped i u v) (no_turn i u v h.0),
  h.1,
)

-- ---- the ends of edges that are not turned
-- a directed edge keeps its ends where another one, not its reverse, is flipped
pub others_stay : (m new : Mesh) (e : ℕ) → AreSoundLinks m → IsFlippable m e → Flips m new e
    → (h : ℕ) → h ≢ e → h ≢ rev e → GoSameDirection m h new h
others_stay m new e s can f h n t = (
  origin_kept m new e s can f h n t,
  origin_kept m new e s can f
      (rev h) (λ r. t (sym (rev-rev h) ∙ ap rev r))
      (λ r. n (sym (rev-rev h) ∙ ap rev r ∙ rev-rev e)),
)

-- ---- crossing edges, as the laws of the plane have them
module _ (points : List Point) (m : Mesh) (s : IsValidMesh m) (i j : ℕ) where
  abbrev t : Triangulation
  t = drawn points m

  -- an edge of the mesh that crosses from the right is an edge that crosses
  pub crossing : (h : ℕ) → h < length m.half_edges → CrossesFromRight points m i j h
      → IsCrossing t i j (origin m h) (origin m (rev h))
  crossing h within c = record {
    edge = edge_joins m s.sound h within;
    from_right = c.from_right;
    to_left = c.to_left;
    start = c.start;
    end = c.end;
  }

  -- and each edge that crosses is one of the mesh that crosses from the right
  pub crossing_at : (v y : ℕ) → IsCrossing t i j v y → (h : ℕ) × (h < length m.half_edges)
      × (origin m h ≡ v) × (origin m (rev h) ≡ y) × CrossesFromRight points m i j h
  crossing_at v y c =
      let h = joins_edge m s.sound v y c.edge in
      let at = subst (λ (x : ℕ × ℕ). At x.0 x.1) (λ k. (sym h.2 k, sym h.3 k))
      (c.from_right, c.to_left, c.start, c.end) in
      (h.0, h.1, h.2, h.3, record { from_right = at.0; to_left = at.1; start = at.2; end = at.3 })
    where
      At : ℕ → ℕ → Type 0
      At v y = (side (place points i) (place points j) (place points v) ≡ right)
          × TurnsLeft (place points i) (place points j) (place points y)
          × TurnsLeft (place points v) (place points y) (place points i)
          × (side (place points v) (place points y) (place points j) ≡ right)

  -- where an edge crosses, not all vertices are on one line
  pub local_if_crossed : IsMesh points (faces_of m) (outer_of m) → length points
      ≡ length m.out_edges → IsFreeOfVertices t i j → (h : ℕ) → h < length m.half_edges
      → CrossesFromRight points m i j h → LocalMesh points (faces_of m) (outer_of m)
  local_if_crossed (inl local) count free h within c = local
  local_if_crossed (inr line) count free h within c =
      absurd (level (sym (line.1.straight i j (origin m h) free.first free.second (subst
      (λ (n : ℕ). origin m h < n) (sym count) (s.sound.edges h within).origin_in)) ∙ c.from_right))
    where
      level : on ≡ right → ⊥
      level e = cc

  -- ---- none crosses
  -- where none crosses from the right, and no vertex is between, the segment is an edge
  pub edge_if_none : IsMesh points (faces_of m) (outer_of m) → IsFreeOfVertices t i j
      → ((h : ℕ) → h < length m.half_edges → ¬ CrossesFromRight points m i j h) → IsEdge t i j
  edge_if_none shape free none =
      elim (meshes_tile points (faces_of m) (outer_of m) (edges_of m) shape (own_edges m s)) [
        | inl hull ↦
            uncrossed_is_edge t i j hull free (λ v y c. let h = crossing_at v y c in
            none h.0 h.1 h.4)
        | inr line ↦ subconstraint_on_line_is_edge t i j line free
      ]

  -- ---- an edge that crosses
  module _ (local : LocalMesh points (faces_of m) (outer_of m)) (free : IsFreeOfVertices t i j)
      (e : ℕ) (within : e < length m.half_edges)
      (from_right : CrossesFromRight points m i j e) where
    tiled : TilesHull t
    tiled = mesh_tiles points (faces_of m) (outer_of m) (edges_of m) local (own_edges m s)

    abbrev v : ℕ
    v = origin m e

    abbrev x : ℕ
    x = origin m (prev m (rev e))

    abbrev y : ℕ
    y = origin m (next m e)

    abbrev z : ℕ
    z = origin m (prev m e)

    meets : origin m (rev e) ≡ y
    meets = sym (s.sound.edges e within).starts

    twin_within : rev e < length m.half_edges
    twin_within = rev_within e (length m.half_edges) s.sound.even within

    inner : 0 < face m e
    inner = positive (face m e) (λ o. local.supporting (origin m e, origin m (rev e)) (listed m e
        (origin m e) (origin m (rev e)) (own_ends m e within o)) i free.first from_right.start)

    twin_inner : 0 < face m (rev e)
    twin_inner = positive (face m (rev e)) (λ o.
        local.supporting (origin m (rev e), origin m e) (subst (λ (k : ℕ). Contains (outer_of m)
        (origin m (rev e), origin m k)) (rev-rev e) (listed m (rev e) (origin m (rev e))
        (origin m (rev (rev e))) (own_ends m (rev e) twin_within o))) j free.second
        (side_swapped (place points (origin m e)) (place points (origin m (rev e))) (place points j)
        ∙ ap opposite from_right.end))

    flippable : IsFlippable m e
    flippable = between_inner points m s local e within inner twin_inner

    twin_flippable : IsFlippable m (rev e)
    twin_flippable = between_inner points m s local (rev e) twin_within twin_inner
        (subst (λ (k : ℕ). 0 < face m k) (sym (rev-rev e)) inner)

    before : IsFace t v x y
    before = turned_faces (faces_of m) y v x (face_behind m e s.sound flippable)

    after : IsFace t v y z
    after = face_before m e s.sound (within, inner)

    crosses : IsCrossing t i j v y
    crosses = subst (λ (k : ℕ). IsCrossing t i j v k) meets (crossing e within from_right)

    -- ---- the last one
    module _ (right_last : IsLastRight t i j v) (left_last : IsLastLeft t i j v y) where
      last_convex : TurnsLeft (vertex t v) (vertex t x) (vertex t z)
          × TurnsLeft (vertex t x) (vertex t y) (vertex t z)
      last_convex =
          chosen_flip_is_convex t i j v x y z tiled free crosses before after right_last left_last

      -- an edge with such ends can be turned towards the segment
      pub last_ends_turn : TurnsNearer points m i j e
      last_ends_turn = record {
        first = last_convex.0;
        second = last_convex.1;
        behind_sooner = λ a b. after_if_before (point_of points i) (point_of points x)
            (point_of points v) (last_x_sooner t i j v x y z tiled crosses before after free
            right_last left_last
            (right_turn (point_of points i) (point_of points j) (point_of points x) a)
            (left_turn (point_of points i) (point_of points j) (point_of points z) b));
        ahead_sooner = λ a b. after_if_before (point_of points i) (point_of points z)
            (point_of points v) (last_z_sooner t i j v x y z tiled crosses before after free
            right_last left_last
            (right_turn (point_of points i) (point_of points j) (point_of points z) a)
            (left_turn (point_of points i) (point_of points j) (point_of points x) b));
      }

    -- ---- it crosses either way
    crosses_at : (h : ℕ) → (h ≡ e) ⊎ (h ≡ rev e) → CrossesSegment points m i j h
    crosses_at h (inl q) = subst (λ (k : ℕ). CrossesSegment points m i j k) (sym q)
        ((crossing_is_either_way t i j v (origin m (rev e)) tiled free
        (edge_joins m s.sound e within)).1 (inl (crossing e within from_right)))
    crosses_at h (inr q) = subst (λ (k : ℕ). CrossesSegment points m i j k) (sym q)
        (subst (λ (k : ℕ). Cross (vertex t i) (vertex t j) (vertex t (origin m (rev e)))
        (vertex t (origin m k))) (sym (rev-rev e))
        ((crossing_is_either_way t i j (origin m (rev e)) v tiled free
        (edge_back t.edges v (origin m (rev e)) (edge_joins m s.sound e within))).1
        (inr (crossing e within from_right))))

    -- from its start to its end, and back
    pub crosses_both_ways : CrossesSegment points m i j e
        × Cross (place points i) (place points j) (place points (origin m (rev e)))
        (place points (origin m e))
    crosses_both_ways = (
      crosses_at e (inl refl),
      subst (λ (k : ℕ). Cross (place points i) (place points j)
          (place points (origin m (rev e))) (place points (origin m k))) (rev-rev e)
          (crosses_at (rev e) (inr refl)),
    )

    -- ---- the turn
    module _ (nearer : TurnsNearer points m i j e) where
      convex : TurnsLeft (vertex t v) (vertex t x) (vertex t z)
          × TurnsLeft (vertex t x) (vertex t y) (vertex t z)
      convex = (nearer.first, nearer.second)

      -- by turns, the edge that is made comes before it
      abbrev Sooner : ℕ → ℕ → Type 0
      Sooner a b = turn_at (point_of points i) (point_of points j) (point_of points a) <ℤ pos 0
          → pos 0 <ℤ turn_at (point_of points i) (point_of points j) (point_of points b)
          → Precedes (point_of points i) (point_of points a) (point_of points v)

      sooner : (a b : ℕ) → ComesSooner points i j v a b → Sooner a b
      sooner a b after_it k l = before_if_after (point_of points i) (point_of points a)
          (point_of points v) (after_it
          (right_if_negative (point_of points i) (point_of points j) (point_of points a) k)
          (turn_left (point_of points i) (point_of points j) (point_of points b) l))

      corners_apart : x ≢ z
      corners_apart same = left_not_zero
          (left_turn (point_of points v) (point_of points x) (point_of points z) convex.0)
          (ap (λ (k : ℕ). turn_at (point_of points v) (point_of points x) (point_of points k))
          (sym same) ∙ turn-same (point_of points v) (point_of points x))

      -- edge h may be turned, and the corners opposite it differ
      abbrev pub CanTurn : ℕ → Type 0
      CanTurn h = IsFlippable m h × (origin m (prev m h) ≢ origin m (prev m (rev h)))

      -- its undirected edge may be turned
      pub can_turn : CanTurn (2 * (e / 2))
      can_turn = elim (halved e) [
        | inl q ↦ subst CanTurn (sym q) (flippable, λ o. corners_apart (sym o))
        | inr q ↦ subst CanTurn (sym q) (
          twin_flippable,
          λ o. corners_apart (o ∙ ap (λ (k : ℕ). origin m (prev m k)) (rev-rev e)),
        )
      ]

      abbrev Change : Mesh → Type 0
      Change new = FacesChange (faces_of m) (faces_of new) (corners v x y ∷ corners v y z ∷ [])
          (corners v x z ∷ corners x y z ∷ [])

      by_twin : (new : Mesh) → FlipsTriangles m new (rev e) → Change new
      by_twin new change = from_other_side (faces_of m) (faces_of new) v x y z
          (subst (λ (k : ℕ × ℕ × ℕ × ℕ). FacesChange (faces_of m) (faces_of new)
          (corners k.0 k.1 k.2 ∷ corners k.0 k.2 k.3 ∷ [])
          (corners k.0 k.1 k.3 ∷ corners k.1 k.2 k.3 ∷ []))
          (λ k. (
            meets k,
            origin m (prev m (rev-rev e k)),
            ((s.sound.edges (rev e) twin_within).starts ∙ ap (origin m) (rev-rev e)) k,
            x,
          ))
          (flipped_faces m new (rev e) s.sound twin_flippable change))

      change_by : (new : Mesh) → FlipsTriangles m new (2 * (e / 2)) → Change new
      change_by new change = elim (halved e) [
        | inl q ↦ flipped_faces m new e s.sound flippable (subst (FlipsTriangles m new) q change)
        | inr q ↦ by_twin new (subst (FlipsTriangles m new) q change)
      ]

      module _ (new : Mesh) (change : FlipsTriangles m new (2 * (e / 2))) where
        -- the sum falls
        pub turned_lower : crossing_sum points (faces_of new) i j
            < crossing_sum points (faces_of m) i j
        turned_lower = turn_lowers t i j v x y z tiled crosses before after (faces_of new)
            (sooner x z nearer.behind_sooner) (sooner z x nearer.ahead_sooner)
            (change_by new change)

        -- the mesh stays local
        pub turned_local : KeepsOuter m new → LocalMesh points (faces_of new) (outer_of new)
        turned_local outer =
            flip_kept points (faces_of m) (faces_of new) (outer_of m) (outer_of new) v x y z local
            before after convex.0 convex.1 (change_by new change)
            (outer_kept m new local.once outer)

      -- ---- what does not cross stays
      twins : (h : ℕ) → (h ≡ 2 * (e / 2)) ⊎ (h ≡ rev (2 * (e / 2))) → (h ≡ e) ⊎ (h ≡ rev e)
      twins h o = elim (halved e) [
        | inl q ↦ elim o [ inl r ↦ inl (r ∙ q) | inr r ↦ inr (r ∙ ap rev q) ]
        | inr q ↦ elim o [ inl r ↦ inr (r ∙ q) | inr r ↦ inl (r ∙ ap rev q ∙ rev-rev e) ]
      ]

      -- the turn of edge e keeps each edge that does not cross the segment
      pub turned_keeps : (new : Mesh) → new ≡ flipped m (2 * (e / 2))
          → KeepsUncrossed points m new i j
      turned_keeps new is h clear =
          others_stay m new (2 * (e / 2)) s.sound can_turn.0
          (flips_is m new (2 * (e / 2)) s.sound can_turn.0 is) h
          (λ q. clear (crosses_at h (twins h (inl q))))
          (λ q. clear (crosses_at h (twins h (inr q))))

      -- the directed edge that is turned
      abbrev turned : ℕ
      turned = 2 * (e / 2)

      -- it can be turned
      can : IsFlippable m turned
      can = can_turn.0

      -- it ends where the next edge starts
      ends_next : origin m (next m turned) ≡ origin m (rev turned)
      ends_next = (s.sound.edges turned can.within).starts

      -- the segment crosses that of two vertices, in either order
      abbrev BothCross : ℕ → ℕ → Type 0
      BothCross k l = Cross (place points i) (place points j) (place points k) (place points l)
          × Cross (place points i) (place points j) (place points l) (place points k)

      -- its pair
      abbrev turned_pair : List (ℕ × ℕ)
      turned_pair = (origin m turned, origin m (next m turned)) ∷ []

      -- the segment crosses it
      both_cross : BothCross (origin m turned) (origin m (next m turned))
      both_cross = subst (λ (k : ℕ). BothCross (origin m turned) k) (sym ends_next) (
        crosses_at turned (twins turned (inl refl)),
        subst (λ (k : ℕ). Cross (place points i) (place points j)
            (place points (origin m (rev turned))) (place points (origin m k))) (rev-rev turned)
            (crosses_at (rev turned) (twins (rev turned) (inr refl))),
      )

      -- and so each entry of the list of its pair
      listed_crosses : (y : ℕ × ℕ) → Contains turned_pair y → BothCross y.0 y.1
      listed_crosses = each (λ (y : ℕ × ℕ). BothCross y.0 y.1)
          (origin m turned, origin m (next m turned)) [] both_cross
          (each_none (λ (y : ℕ × ℕ). BothCross y.0 y.1))

      -- the segment crosses each pair that is joined by it
      joined_crosses : (k l : ℕ) → Joins turned_pair k l
          → Cross (place points i) (place points j) (place points k) (place points l)
      joined_crosses k l (inl c) = (listed_crosses (k, l) c).0
      joined_crosses k l (inr c) = (listed_crosses (l, k) c).1

      -- an empty list has no other entry
      none_listed : (y : ℕ × ℕ) → Contains [] y → Contains turned_pair y
      none_listed = each_none (λ (y : ℕ × ℕ). Contains turned_pair y)

      -- and joins no other pair
      none_joined : (k l : ℕ) → Joins [] k l → Joins turned_pair k l
      none_joined k l (inl c) = inl (none_listed (k, l) c)
      none_joined k l (inr c) = inr (none_listed (l, k) c)

      -- the turn of edge e keeps each inner face with no side that crosses the segment
      pub turned_keeps_faces : (new : Mesh) → new ≡ flipped m turned → FlipsTriangles m new turned
          → KeepsUncrossedFaces points m new i j
      turned_keeps_faces new is change f corners there first second third =
          go (stays.faces f corners there)
        where
          moves : Flips m new turned
          moves = flips_is m new turned s.sound can is

          stays : StaysBut turned_pair m new
          stays = stays_turned m m new [] turned_pair turned s.sound can.within can.inner
              can.twin_inner moves.edge_count (others_stay m new turned s.sound can moves) change
              (inl (contains_last [] (origin m turned, origin m (next m turned)))) none_joined
              (stays_none m)

          go : (slice_get (triangles new) f ≡ Some corners) ⊎ HasSideIn turned_pair corners
              → slice_get (triangles new) f ≡ Some corners
          go (inl same) = same
          go (inr (inl c)) = absurd (first (joined_crosses corners.first corners.second c))
          go (inr (inr (inl c))) = absurd (second (joined_crosses corners.second corners.third c))
          go (inr (inr (inr c))) = absurd (third (joined_crosses corners.third corners.first c))

  -- where an edge crosses, one of those that do can be turned towards the segment
  pub some_turns_nearer : LocalMesh points (faces_of m) (outer_of m) → IsFreeOfVertices t i j
      → (h : ℕ) → h < length m.half_edges → CrossesFromRight points m i j h
      → (e : ℕ) × (e < length m.half_edges) × CrossesFromRight points m i j e
      × TurnsNearer points m i j e
  some_turns_nearer local free h within c = (
    e.0,
    e.1,
    e.4,
    last_ends_turn local free e.0 e.1 e.4
        (subst (λ (k : ℕ). IsLastRight t i j k) (sym e.2) chosen.3)
        (subst (λ (k : ℕ × ℕ). IsLastLeft t i j k.0 k.1)
        (λ o. (sym e.2 o, (sym e.3 ∙ sym (s.sound.edges e.0 e.1).starts) o)) chosen.4),
  )
    where
      chosen : (v : ℕ) × (y : ℕ) × IsCrossing t i j v y × IsLastRight t i j v × IsLastLeft t i j v y
      chosen = chosen_flip_exists t i j (origin m h) (origin m (rev h))
          (mesh_tiles points (faces_of m) (outer_of m) (edges_of m) local (own_edges m s))
          (crossing h within c)

      e : (h : ℕ) × (h < length m.half_edges) × (origin m h ≡ chosen.0)
          × (origin m (rev h) ≡ chosen.1) × CrossesFromRight points m i j h
      e = crossing_at chosen.0 chosen.1 chosen.2
