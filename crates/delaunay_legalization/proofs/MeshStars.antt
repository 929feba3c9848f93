-- The round of a vertex in a mesh is its star in the plane: inside the hull all the way round, on
-- the hull from one outer edge to the other.
-- Notions: IsEdgeOfFace, last; edge_of_face, pairs_once, spoke_face, face_spoke, neighbours_apart,
-- inner_star, hull_strip, hull_star, vertex_has_edge.
use Rattle.std.proofs.Common.{◌≡◌, ◌⊎◌, ◌<◌, ◌+◌, ◌-◌, ◌∙◌}
use Rattle.std.proofs.Common.{ℕ, zero, suc, List, length, get_or, refl, sym, ap, subst, arith}
use Rattle.std.proofs.Common.{zero-add}
use mathlib.Core.Logic.{inl, inr, ◌≢◌}
use Rattle.std.specs.Prelude.{Contains, IsSome}
use Rattle.std.proofs.Math.Numerals.{add-one}
use Rattle.std.proofs.lemmas.Bool.{cases_lt}
use Rattle.plane.specs.{EachPairOnce, Face, face as corners, IsIndex, Point}
use Rattle.half_edge_links.specs.{AreSoundLinks, face, IsInnerEdge, IsOuterEdge, IsRound, IsStrip}
use Rattle.half_edge_links.specs.{IsValidMesh, Mesh, neighbour, next, origin, out_edge, prev, rev}
use Rattle.half_edge_links.specs.{spoke, Triangle, triangle_at, triangles, turn}
use Rattle.half_edge_links.proofs.{rev-rev, rev_within}
use Rattle.plane_theorems.specs.{IsFaceOf, IsHullStar, IsStar, LocalMesh}
use Rattle.plane_theorems.proofs.{by_signs, get_or_any, mesh_tiles, next_unique, point_at}
use Rattle.plane_theorems.proofs.{Edits.LocalMesh.Changes.from_map, Tiling.Covering.no_outer_back}
use Rattle.delaunay_legalization.specs.{corners_of, edges_of, faces_of, outer_of}
use Rattle.delaunay_legalization.proofs.{MeshEdits.face_before, OuterEdges.listed, OuterEdges.real}
use Rattle.delaunay_legalization.proofs.{MeshStays.neighbours_differ, OuterChanges.own_ends}
use Rattle.delaunay_legalization.proofs.OwnEdges.{own_edges}
use Rattle.half_edge_links.proofs.Sound.Triangles as T

-- ---- the directed edge of a face at one of its corners
-- an edge of an inner face, with the corners i, j, k from its start on
pub record IsEdgeOfFace (m : Mesh) (h i j k : ℕ) : Type 0 where
  pub inner : IsInnerEdge m h
  pub first : origin m h ≡ i
  pub second : origin m (next m h) ≡ j
  pub third : origin m (prev m h) ≡ k

-- the face that a listed triangle is of
listed_edge : (m : Mesh) → AreSoundLinks m → (i j k : ℕ) → Contains (faces_of m) (corners i j k)
    → (h : ℕ) × IsEdgeOfFace m h i j k
listed_edge m s i j k c = (
  r.0,
  record {
    inner = (
      subst (λ x. x < length m.half_edges) same there.0,
      subst (λ x. 0 < face m x) same (subst (λ x. 0 < x) (sym there.1) (omega arith)),
    );
    first = ap (λ (f : Face). f.a) drawn;
    second = ap (λ (f : Face). f.b) drawn;
    third = ap (λ (f : Face). f.c) drawn;
  },
)
  where
    t : (x : Triangle) × Contains (triangles m) x × (corners_of x ≡ corners i j k)
    t = from_map corners_of (triangles m) (corners i j k) c

    r : (x : ℕ) × Contains m.face_edges x × (triangle_at m x ≡ t.0)
    r = from_map (triangle_at m) m.face_edges t.0 t.1

    drawn : corners_of (triangle_at m r.0) ≡ corners i j k
    drawn = ap corners_of r.2 ∙ t.2

    less : (f : ℕ) → suc f - 1 ≡ f
    less f = omega arith

    there : (get_or m.face_edges r.1.0 0 < length m.half_edges)
        × (face m (get_or m.face_edges r.1.0 0) ≡ suc r.1.0)
    there = subst (λ (x : ℕ). (get_or m.face_edges x 0 < length m.half_edges)
        × (face m (get_or m.face_edges x 0) ≡ suc r.1.0)) (less r.1.0)
        (s.faces (suc r.1.0) (omega arith) (let w = r.1.1 in omega (arith, w)))

    same : get_or m.face_edges r.1.0 0 ≡ r.0
    same = get_or_any m.face_edges r.1.0 0 r.0 r.1.1 ∙ r.1.2

module _ (m : Mesh) (s : AreSoundLinks m) where
  edge_after : (h i j k : ℕ) → IsEdgeOfFace m h i j k → IsEdgeOfFace m (next m h) j k i
  edge_after h i j k e =
      let t = T.triangle_at m h s e.inner.0 e.inner.1 in
      record {
        inner = (t.next_in, subst (λ x. 0 < x) (sym t.face_next) e.inner.1);
        first = e.second;
        second = ap (origin m) t.next_next ∙ e.third;
        third = ap (origin m) t.prev_next ∙ e.first;
      }

  -- a face has a directed edge from each of its corners
  pub edge_of_face : (i j k : ℕ) → IsFaceOf (faces_of m) i j k → (h : ℕ) × IsEdgeOfFace m h i j k
  edge_of_face i j k (inl c) = listed_edge m s i j k c
  edge_of_face i j k (inr (inl c)) = let r = listed_edge m s j k i c in
      (next m (next m r.0), edge_after (next m r.0) k i j (edge_after r.0 j k i r.1))
  edge_of_face i j k (inr (inr c)) =
      let r = listed_edge m s k i j c in (next m r.0, edge_after r.0 k i j r.1)

-- ---- a vertex with its round
module _ (points : List Point) (m : Mesh) (valid : IsValidMesh m)
    (local : LocalMesh points (faces_of m) (outer_of m)) where
  -- each pair of vertices is joined by at most one edge
  pub pairs_once : EachPairOnce (edges_of m)
  pairs_once =
      (mesh_tiles points (faces_of m) (outer_of m) (edges_of m) local (own_edges m valid)).once

  module _ (v first count : ℕ) (round : IsRound m v first count) where
    -- the neighbours of the vertex
    abbrev nb : ℕ → ℕ
    nb = neighbour m first

    next_nb : (i : ℕ) → nb (i + 1) ≡ nb (suc i)
    next_nb i = ap nb (add-one i)

    -- the face on the left of a spoke
    pub spoke_face : (i : ℕ) → 0 < face m (spoke m first i)
        → IsFaceOf (faces_of m) v (nb i) (nb (suc i))
    spoke_face i inner = subst (λ (t : Triangle). IsFaceOf (faces_of m) t.first t.second t.third)
        (round.corner i inner ∙ (λ j. record { first = v; second = nb i; third = next_nb i j }))
        (face_before m (spoke m first i) valid.sound (round.within i, inner))

    -- and each face at the vertex is one of these
    pub face_spoke : (a b : ℕ) → IsFaceOf (faces_of m) v a b
        → (i : ℕ) × (i < count) × (0 < face m (spoke m first i)) × (nb i ≡ a) × (nb (suc i) ≡ b)
    face_spoke a b f =
        let r = edge_of_face m valid.sound v a b f in
        let e = r.1 in
        let at = round.all r.0 e.inner.0 e.first in
        let inner = subst (λ x. 0 < face m x) at.2 e.inner.1 in
        let t = round.corner at.0 inner in (
          at.0,
          at.1,
          inner,
          sym (ap (λ (x : Triangle). x.second) t)
              ∙ ap (λ x. origin m (next m x)) (sym at.2) ∙ e.second,
          sym (next_nb at.0) ∙ sym (ap (λ (x : Triangle). x.third) t)
              ∙ ap (λ x. origin m (prev m x)) (sym at.2) ∙ e.third,
        )

    -- the neighbours differ
    pub neighbours_apart : (i j : ℕ) → i < count → j < count → nb i ≡ nb j → i ≡ j
    neighbours_apart i j h k e = elim (cases_lt i j) [
      | inl l ↦ absurd (neighbours_differ m valid pairs_once v first count round i j l k e)
      | inr l ↦ elim (cases_lt j i) [
        | inl q ↦ absurd (neighbours_differ m valid pairs_once v first count round j i q h (sym e))
        | inr q ↦ omega (arith, l, q)
      ]
    ]

    -- a vertex with inner faces all round it
    pub inner_star : ((i : ℕ) → 0 < face m (spoke m first i)) → IsStar (faces_of m) v count nb
    inner_star inner = record {
      around = λ i. spoke_face i (inner i);
      again = λ i. ap (λ h. origin m (rev h)) (round.back i);
      apart = neighbours_apart;
      only = λ a b f. let r = face_spoke a b f in (r.0, r.1, r.3, r.4);
    }

    -- an outer edge from the vertex
    outer_from : (i : ℕ) → face m (spoke m first i) ≡ 0 → Contains (outer_of m) (v, nb i)
    outer_from i o =
        subst (λ x. Contains (outer_of m) (x, nb i)) (round.starts i) (listed m (spoke m first i)
        (origin m (spoke m first i)) (nb i) (own_ends m (spoke m first i) (round.within i) o))

    -- ---- a vertex whose first edge has the outer face on its right
    module _ (outer : face m (rev first) ≡ 0) where
      first_in : first < length m.half_edges
      first_in = round.within 0

      back_in : rev first < length m.half_edges
      back_in = rev_within first (length m.half_edges) valid.sound.even first_in

      arriving : Contains (outer_of m) (nb 0, v)
      arriving = subst (λ x. Contains (outer_of m) (nb 0, x)) (ap (origin m) (rev-rev first)
          ∙ round.starts 0) (listed m (rev first) (origin m (rev first))
          (origin m (rev (rev first))) (own_ends m (rev first) back_in outer))

      -- the place of the last neighbour in the round of a vertex on the hull
      abbrev pub last : ℕ
      last = count - 1

      count_is : count ≡ suc last
      count_is = let s = round.some in omega (arith, s)

      -- the last edge of the round has the outer face on its left
      around_last : turn m (spoke m first last) ≡ first
      around_last = ap (spoke m first) (sym count_is ∙ sym (zero-add count)) ∙ round.back 0

      prev_last : prev m (spoke m first last) ≡ rev first
      prev_last = sym (rev-rev (prev m (spoke m first last))) ∙ ap rev around_last

      last_is : next m (rev first) ≡ spoke m first last
      last_is = ap (next m) (sym prev_last)
          ∙ (valid.sound.edges (spoke m first last) (round.within last)).next_prev

      last_outer : face m (spoke m first last) ≡ 0
      last_outer = ap (face m) (sym last_is)
          ∙ (valid.sound.edges (rev first) back_in).same_face ∙ outer

      -- and no other one
      inner_before : (i : ℕ) → i < last → 0 < face m (spoke m first i)
      inner_before i l = go (face m (spoke m first i)) refl
        where
          go : (x : ℕ) → face m (spoke m first i) ≡ x → 0 < x
          go (suc x) e = omega arith
          go zero e =
              absurd (clash (neighbours_apart i last (let c = count_is in omega (arith, c, l))
              (let c = count_is in omega (arith, c)) (next_unique (length points) (point_at points)
              (faces_of m) (outer_of m) (by_signs points (faces_of m) (outer_of m) local) v (nb i)
              (nb last) (outer_from i e) (outer_from last last_outer))))
            where
              clash : i ≡ last → ⊥
              clash q = omega (arith, l, q)

      not_far : next m (spoke m first last) ≢ rev (spoke m first last)
      not_far e = no_outer_back (length points) (point_at points) (faces_of m) (outer_of m)
          (by_signs points (faces_of m) (outer_of m) local) v (nb last) (outer_from last last_outer)
          (subst (λ (x : ℕ). Contains (outer_of m) (nb last, x))
          (ap (origin m) (rev-rev (spoke m first last)) ∙ round.starts last)
          (listed m (rev (spoke m first last)) (origin m (rev (spoke m first last)))
          (origin m (rev (rev (spoke m first last))))
          (own_ends m (rev (spoke m first last)) (rev_within (spoke m first last)
          (length m.half_edges) valid.sound.even (round.within last)) way_back)))
        where
          way_back : face m (rev (spoke m first last)) ≡ 0
          way_back = ap (face m) (sym e)
              ∙ (valid.sound.edges (spoke m first last) (round.within last)).same_face ∙ last_outer

      -- so its faces are a strip
      pub hull_strip : IsStrip m first last
      hull_strip = record {
        within = first_in;
        outer = outer;
        inner = inner_before;
        last = last_outer;
        gap = last_is;
        far = not_far;
      }

      -- and its star
      pub hull_star : IsHullStar (faces_of m) (outer_of m) v last nb
      hull_star = record {
        around = λ i l. spoke_face i (inner_before i l);
        only = λ a b f. (let r = face_spoke a b f in (r.0, before r.0 r.1 r.2, r.3, r.4));
        arrives = arriving;
        leaves = outer_from last last_outer;
      }
        where
          before : (i : ℕ) → i < count → 0 < face m (spoke m first i) → i < last
          before i h inner = elim (cases_lt i last) [
            | inl l ↦ l
            | inr l ↦ absurd (let c = count_is in let same : i ≡ last = omega (arith, h, l, c) in
                let o = ap (λ x. face m (spoke m first x)) same ∙ last_outer in
                omega (arith, inner, o))
          ]

-- each vertex has an edge
pub vertex_has_edge : (points : List Point) (m : Mesh) → AreSoundLinks m
    → LocalMesh points (faces_of m) (outer_of m) → (v : ℕ) → IsIndex points v
    → IsSome (out_edge m v)
vertex_has_edge points m s local v here = elim (local.used v here) [
  | inl (f, c, corner) ↦ at_face f (edge_of_face m s f.a f.b f.c (inl c)) corner
  | inr (e, c, end) ↦ at_outer e (real m e.0 e.1 c) end
]
  where
    some_at : (h : ℕ) → h < length m.half_edges → origin m h ≡ v → IsSome (out_edge m v)
    some_at h k o = subst (λ x. IsSome (out_edge m x)) o (s.edges h k).has_out

    at_face : (f : Face) → (h : ℕ) × IsEdgeOfFace m h f.a f.b f.c
        → (v ≡ f.a) ⊎ ((v ≡ f.b) ⊎ (v ≡ f.c)) → IsSome (out_edge m v)
    at_face f r (inl e) = some_at r.0 r.1.inner.0 (r.1.first ∙ sym e)
    at_face f r (inr (inl e)) =
        some_at (next m r.0) (s.edges r.0 r.1.inner.0).next_in (r.1.second ∙ sym e)
    at_face f r (inr (inr e)) =
        some_at (prev m r.0) (s.edges r.0 r.1.inner.0).prev_in (r.1.third ∙ sym e)

    at_outer : (e : ℕ × ℕ) → (h : ℕ) × IsOuterEdge m h e.0 e.1 → (v ≡ e.0) ⊎ (v ≡ e.1)
        → IsSome (out_edge m v)
    at_outer e r (inl q) = some_at r.0 r.1.within (r.1.source ∙ sym q)
    at_outer e r (inr q) = some_at (rev r.0)
        (rev_within r.0 (length m.half_edges) s.even r.1.within) (r.1.target ∙ sym q)
