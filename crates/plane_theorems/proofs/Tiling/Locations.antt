-- The location of a point, in the definition's words, in a mesh of the plane and on a line; and
-- where edges meet.
-- Lemmas: no_edges_cross, each_point_has_one_location.
use Rattle.std.proofs.Common.{◌≡◌, ◌⊎◌, ℕ, ◌<◌, ◌≤◌, List, [], length, sym, subst, arith}
use mathlib.Core.Logic.{inl, inr, ◌≢◌}
use Rattle.std.specs.Prelude.{ℤ, ◌*ℤ◌, Contains}
use Rattle.std.proofs.lemmas.Bool.{cases_lt}
use Rattle.plane.specs.{Face, Fraction, IsEdge, IsLocation, IsOuter, IsSame, Location}
use Rattle.plane.specs.{no_triangulation, on_edge, on_face, on_vertex, outside_hull, Point}
use Rattle.plane.specs.{Triangulation, vertex}
use Rattle.plane.proofs.{at_most_both_ways, if_left, inside_is_brackets, left_if, less_is_not_same}
use Rattle.{plane.proofs.lt_or_ge_ℤ, plane_theorems.proofs.Tiling.LineMeshes.line_by_signs}
use Rattle.plane_theorems.specs.{AreEdgesOf, EdgesMeetAtVertices, IsMesh, IsSameLocation, LineMesh}
use Rattle.plane_theorems.specs.{LocalMesh, Tiling.Laws.HasOneLocation}
use Rattle.plane_theorems.proofs.Tiling.Counting.{corners_differ, SignMesh}
use Rattle.plane_theorems.proofs.Tiling.Flows.{HasSide, no_turn}
use Rattle.plane_theorems.proofs.Tiling.Line.{Adjoin, SignLine}
use Rattle.plane_theorems.proofs.Tiling.Tiles.{by_signs, point_at}
use Rattle.plane_theorems.proofs.Tiling.Covering as C
use Rattle.plane_theorems.proofs.Tiling.Edges as E
use Rattle.plane_theorems.proofs.Tiling.Loops as L
use Rattle.plane_theorems.proofs.Tiling.Places as P
use Rattle.plane_theorems.proofs.Tiling.LinePlaces as O

-- ---- in the plane
module _ (points : List Point) (faces : List Face) (outer edges : List (ℕ × ℕ))
    (m : LocalMesh points faces outer) (own : AreEdgesOf faces outer edges) where
  abbrev t : Triangulation
  t = record { points = points; faces = faces; edges = edges }

  abbrev n : ℕ
  n = length points

  abbrev p : ℕ → Point
  p = point_at points

  -- the mesh is local, by signs
  s : SignMesh n p faces outer
  s = by_signs points faces outer m

  sides : (i j : ℕ) → IsEdge t i j → HasSide faces i j ⊎ HasSide faces j i
  sides i j = (L.edges_are_sides n p faces outer s edges own i j).0

  plane_edges_meet : EdgesMeetAtVertices t
  plane_edges_meet = (
    (λ i j k e h. E.side_bare n p faces outer s i j k (sides i j e) h),
    (λ i j k l e d y w v. E.sides_meet n p faces outer s y i j k l (sides i j e) (sides k l d) w v),
  )

  module _ (y : Fraction) where
    at_vertex : (i : ℕ) → IsLocation t y (on_vertex i) → P.IsAtVertex n p faces outer s y
    at_vertex i a = record { v = i; index = a.0; same = a.1 }

    on_side : (i j : ℕ) → IsLocation t y (on_edge i j) → P.IsOnSide n p faces outer s y
    on_side i j a = elim (sides i j a.0) [
      | inl h ↦ record { u = i; v = j; side = h; within = a.1 }
      | inr h ↦ record {
        u = j;
        v = i;
        side = h;
        within = E.turned_within (vertex t i) (vertex t j) y a.1;
      }
    ]

    in_face : (i j k : ℕ) → IsLocation t y (on_face i j k) → P.IsInsideFace n p faces outer s y
    in_face i j k a = record {
      i = i;
      j = j;
      k = k;
      here = a.0;
      inside = (let r = (inside_is_brackets (vertex t i) (vertex t j) (vertex t k) y
          (C.turn_left_of n p faces outer s i j k a.0)).0 a.1 in
          record { first = r.0; second = r.1; third = r.2 });
    }

    outer_of : (i j : ℕ) → IsOuter t i j → Contains outer (i, j)
    outer_of i j a =
        elim (L.way_of_edge faces outer edges own i j a.0) [ inl h ↦ absurd (a.1 h) | inr h ↦ h ]

    left_of : (i j : ℕ) → IsLocation t y (outside_hull i j) → P.IsLeftOfOuter n p faces outer s y
    left_of i j a = record {
      e = (i, j);
      here = outer_of i j a.0;
      left = elim a.1 [
        | inl h ↦ if_left (vertex t i) (vertex t j) y h
        | inr h ↦
            absurd (P.none_beyond n p faces outer s y i (s.ends (i, j) (outer_of i j a.0)).0 h)
      ];
    }

    several : length points ≤ 1 → ⊥
    several h =
        let c = s.corners s.some_face.0 s.some_face.1 in
        let d = corners_differ p s.some_face.0.a s.some_face.0.b s.some_face.0.c
        (s.turning s.some_face.0 s.some_face.1) in
        two c.0 c.1 d.0
      where
        two : {a b : ℕ} → a < length points → b < length points → a ≢ b → ⊥
        two k l e = omega arith

    plane_exists : (l : Location) × IsLocation t y l
    plane_exists = elim (P.somewhere n p faces outer s y) [
      | inl o ↦ (
        outside_hull o.e.0 o.e.1,
        (
          (
            L.edge_of_outer faces outer edges own o.e.0 o.e.1
                o.here,
            λ h. L.outer_is_no_side n p faces outer s o.e.0 o.e.1 o.here h,
          ),
          inl (left_if (vertex t o.e.0) (vertex t o.e.1) y o.left),
        ),
      )
      | inr r ↦ elim r [
        | inl o ↦ (on_vertex o.v, (o.index, o.same))
        | inr r ↦ elim r [
          | inl o ↦ (
            on_edge o.u o.v,
            ((L.edges_are_sides n p faces outer s edges own o.u o.v).1 (inl o.side), o.within),
          )
          | inr o ↦ (
            on_face o.i o.j o.k,
            (
              o.here,
              (inside_is_brackets (vertex t o.i) (vertex t o.j)
                  (vertex t o.k) y (C.turn_left_of n p faces outer s o.i o.j o.k o.here)).1
                  (o.inside.first, o.inside.second, o.inside.third),
            ),
          )
        ]
      ]
    ]

    plane_same : (l k : Location) → IsLocation t y l → IsLocation t y k → IsSameLocation l k
    unfolding at_vertex in_face
    plane_same (on_vertex i) (on_vertex j) a b =
        P.vertex_unique n p faces outer s y (at_vertex i a) (at_vertex j b)
    plane_same (on_vertex i) (on_edge j k) a b =
        P.vertex_not_side n p faces outer s y (at_vertex i a) (on_side j k b)
    plane_same (on_vertex i) (on_face j k r) a b =
        P.vertex_not_inside n p faces outer s y (at_vertex i a) (in_face j k r b)
    plane_same (on_vertex i) (outside_hull j k) a b =
        P.vertex_not_outside n p faces outer s y (at_vertex i a) (left_of j k b)
    plane_same (on_vertex i) no_triangulation a b = several b.0
    plane_same (on_edge i j) (on_vertex k) a b =
        P.vertex_not_side n p faces outer s y (at_vertex k b) (on_side i j a)
    plane_same (on_edge i j) (on_edge k r) a b = plane_edges_meet.1 i j k r a.0 b.0 y a.1 b.1
    plane_same (on_edge i j) (on_face k r q) a b =
        P.side_not_inside n p faces outer s y (on_side i j a) (in_face k r q b)
    plane_same (on_edge i j) (outside_hull k r) a b =
        P.side_not_outside n p faces outer s y (on_side i j a) (left_of k r b)
    plane_same (on_edge i j) no_triangulation a b = several b.0
    plane_same (on_face i j k) (on_vertex r) a b =
        P.vertex_not_inside n p faces outer s y (at_vertex r b) (in_face i j k a)
    plane_same (on_face i j k) (on_edge r q) a b =
        P.side_not_inside n p faces outer s y (on_side r q b) (in_face i j k a)
    plane_same (on_face i j k) (on_face r q o) a b =
        P.face_unique n p faces outer s y (in_face i j k a) (in_face r q o b)
    plane_same (on_face i j k) (outside_hull r q) a b =
        P.inside_not_outside n p faces outer s y (in_face i j k a) (left_of r q b)
    plane_same (on_face i j k) no_triangulation a b = several b.0
    plane_same (outside_hull i j) (on_vertex k) a b =
        P.vertex_not_outside n p faces outer s y (at_vertex k b) (left_of i j a)
    plane_same (outside_hull i j) (on_edge k r) a b =
        P.side_not_outside n p faces outer s y (on_side k r b) (left_of i j a)
    plane_same (outside_hull i j) (on_face k r q) a b =
        P.inside_not_outside n p faces outer s y (in_face k r q b) (left_of i j a)
    plane_same (outside_hull i j) (outside_hull k r) a b = tt
    plane_same (outside_hull i j) no_triangulation a b = several b.0
    plane_same no_triangulation (on_vertex i) a b = several a.0
    plane_same no_triangulation (on_edge i j) a b = several a.0
    plane_same no_triangulation (on_face i j k) a b = several a.0
    plane_same no_triangulation (outside_hull i j) a b = several a.0
    plane_same no_triangulation no_triangulation a b = tt

-- ---- on a line
same_or_not : (a b : Fraction) → IsSame a b ⊎ (¬ IsSame a b)
same_or_not a b = go (decide (a.x *ℤ b.w) (b.x *ℤ a.w)) (decide (a.y *ℤ b.w) (b.y *ℤ a.w))
  where
    decide : (x z : ℤ) → (x ≡ z) ⊎ (¬ (x ≡ z))
    decide x z = elim (lt_or_ge_ℤ x z) [
      | inl l ↦ inr (λ e. less_is_not_same x z l e)
      | inr l ↦ elim (lt_or_ge_ℤ z x) [
        | inl k ↦ inr (λ e. less_is_not_same z x k (sym e))
        | inr k ↦ inl (at_most_both_ways x z k l)
      ]
    ]

    go : (a.x *ℤ b.w ≡ b.x *ℤ a.w) ⊎ (¬ (a.x *ℤ b.w ≡ b.x *ℤ a.w))
        → (a.y *ℤ b.w ≡ b.y *ℤ a.w) ⊎ (¬ (a.y *ℤ b.w ≡ b.y *ℤ a.w)) → IsSame a b ⊎ (¬ IsSame a b)
    go (inl e) (inl f) = inl (record { x = e; y = f })
    go (inr n) f = inr (λ s. n s.x)
    go (inl e) (inr n) = inr (λ s. n s.y)

module _ (points : List Point) (outer edges : List (ℕ × ℕ)) (m : LineMesh points outer)
    (own : AreEdgesOf [] outer edges) where
  abbrev line : Triangulation
  line = record { points = points; faces = []; edges = edges }

  abbrev count : ℕ
  count = length points

  abbrev at' : ℕ → Point
  at' = point_at points

  signs : SignLine count at' outer
  signs = line_by_signs points outer m

  listed : (i j : ℕ) → IsEdge line i j → Contains outer (i, j)
  listed i j e = elim
      (L.way_of_edge [] outer edges own i j e) [ inl h ↦ absurd (no_turn i j h.0 h.1) | inr h ↦ h ]

  -- joined vertices have no other strictly between them
  next : (i j : ℕ) → IsEdge line i j → Adjoin count at' i j
  next i j e = (signs.neighbours i j).0 (listed i j e)

  line_edges_meet : EdgesMeetAtVertices line
  line_edges_meet = (
    (λ i j k e h. (next i j e).none_between k h),
    (λ i j k l e d y w v. O.on_one_edge count at' outer signs y
        (record { i = i; j = j; edge = listed i j e; within = w })
        (record { i = k; j = l; edge = listed k l d; within = v })),
  )

  module _ (y : Fraction) where
    at_point : (i : ℕ) → IsLocation line y (on_vertex i) → O.IsAtPoint count at' outer signs y
    at_point i a = record { v = i; index = a.0; same = a.1 }

    on_line_edge : (i j : ℕ) → IsLocation line y (on_edge i j) → O.IsOnEdge count at' outer signs y
    on_line_edge i j a = record { i = i; j = j; edge = listed i j a.0; within = a.1 }

    beside : (i j : ℕ) → IsLocation line y (outside_hull i j)
        → O.IsBesideEdge count at' outer signs y
    beside i j a = record {
      i = i;
      j = j;
      edge = listed i j a.0.0;
      out = elim a.1 [ inl h ↦ inl (if_left (vertex line i) (vertex line j) y h) | inr h ↦ inr h ];
    }

    two_at_least : (i j : ℕ) → IsEdge line i j → length points ≤ 1 → ⊥
    two_at_least i j e h =
        let s = next i j e in let a = s.first in let b = s.second in let c = s.apart in omega arith

    among_several : O.IsAtPoint count at' outer signs y
        ⊎ (O.IsOnEdge count at' outer signs y ⊎ O.IsBesideEdge count at' outer signs y)
        → (l : Location) × IsLocation line y l
    among_several (inl o) = (on_vertex o.v, (o.index, o.same))
    among_several (inr (inl o)) =
        (on_edge o.i o.j, (L.edge_of_outer [] outer edges own o.i o.j o.edge, o.within))
    among_several (inr (inr o)) = (
      outside_hull o.i o.j,
      (
        (L.edge_of_outer [] outer edges own o.i o.j o.edge, λ h. no_turn o.i o.j h.0 h.1),
        elim
            o.out [ inl h ↦ inl (left_if (vertex line o.i) (vertex line o.j) y h) | inr h ↦ inr h ],
      ),
    )

    among_few : length points ≤ 1 → (l : Location) × IsLocation line y l
    among_few few = elim (cases_lt 0 (length points)) [
      | inl h ↦ elim (same_or_not y (vertex line 0)) [
        | inl s ↦ (on_vertex 0, (h, s))
        | inr s ↦ (
          no_triangulation,
          (few, λ i k e. s (subst (λ o. IsSame y (vertex line o)) (first i k) e)),
        )
      ]
      | inr h ↦ (no_triangulation, (few, λ i k e. absurd (none i k h)))
    ]
      where
        first : (i : ℕ) → i < length points → i ≡ 0
        first i k = omega arith

        none : (i : ℕ) → i < length points → length points ≤ 0 → ⊥
        none i k h = omega arith

    line_exists : (l : Location) × IsLocation line y l
    line_exists = elim (cases_lt 1 (length points))
        [ inl h ↦ among_several (O.somewhere count at' outer signs y h) | inr h ↦ among_few h ]

    line_same : (l k : Location) → IsLocation line y l → IsLocation line y k → IsSameLocation l k
    unfolding at_point
    line_same (on_vertex i) (on_vertex j) a b =
        O.point_unique count at' outer signs y (at_point i a) (at_point j b)
    line_same (on_vertex i) (on_edge j k) a b =
        O.point_not_on_edge count at' outer signs y (at_point i a) (on_line_edge j k b)
    line_same (on_vertex i) (on_face j k r) a b = no_turn j k r b.0
    line_same (on_vertex i) (outside_hull j k) a b =
        O.point_not_beside count at' outer signs y (at_point i a) (beside j k b)
    line_same (on_vertex i) no_triangulation a b = b.1 i a.0 a.1
    line_same (on_edge i j) (on_vertex k) a b =
        O.point_not_on_edge count at' outer signs y (at_point k b) (on_line_edge i j a)
    line_same (on_edge i j) (on_edge k r) a b = line_edges_meet.1 i j k r a.0 b.0 y a.1 b.1
    line_same (on_edge i j) (on_face k r q) a b = no_turn k r q b.0
    line_same (on_edge i j) (outside_hull k r) a b =
        O.edge_not_beside count at' outer signs y (on_line_edge i j a) (beside k r b)
    line_same (on_edge i j) no_triangulation a b = two_at_least i j a.0 b.0
    line_same (on_face i j k) l a b = absurd (no_turn i j k a.0)
    line_same (outside_hull i j) (on_vertex k) a b =
        O.point_not_beside count at' outer signs y (at_point k b) (beside i j a)
    line_same (outside_hull i j) (on_edge k r) a b =
        O.edge_not_beside count at' outer signs y (on_line_edge k r b) (beside i j a)
    line_same (outside_hull i j) (on_face k r q) a b = no_turn k r q b.0
    line_same (outside_hull i j) (outside_hull k r) a b = tt
    line_same (outside_hull i j) no_triangulation a b = two_at_least i j a.0.0 b.0
    line_same no_triangulation (on_vertex i) a b = a.1 i b.0 b.1
    line_same no_triangulation (on_edge i j) a b = two_at_least i j b.0 a.0
    line_same no_triangulation (on_face i j k) a b = no_turn i j k b.0
    line_same no_triangulation (outside_hull i j) a b = two_at_least i j b.0.0 a.0
    line_same no_triangulation no_triangulation a b = tt

-- ---- either way
no_faces : (points : List Point) (faces : List Face) (outer edges : List (ℕ × ℕ))
    (P : Triangulation → Type 0) → faces ≡ [] → AreEdgesOf faces outer edges
    → (AreEdgesOf [] outer edges → P (record { points = points; faces = []; edges = edges }))
    → P (record { points = points; faces = faces; edges = edges })
no_faces points faces outer edges P e own h =
    subst (λ f. P (record { points = points; faces = f; edges = edges })) (sym e)
    (h (subst (λ f. AreEdgesOf f outer edges) e own))

-- a mesh with its own edges has edges that meet at vertices alone
pub no_edges_cross : (points : List Point) (faces : List Face) (outer edges : List (ℕ × ℕ))
    → IsMesh points faces outer → AreEdgesOf faces outer edges
    → EdgesMeetAtVertices (record { points = points; faces = faces; edges = edges })
no_edges_cross points faces outer edges (inl m) own =
    plane_edges_meet points faces outer edges m own
no_edges_cross points faces outer edges (inr m) own = no_faces points faces outer edges
    EdgesMeetAtVertices m.0 own (λ o. line_edges_meet points outer edges m.1 o)

-- in a mesh with its own edges each point has a location, and no other
pub each_point_has_one_location : (points : List Point) (faces : List Face)
    (outer edges : List (ℕ × ℕ)) → IsMesh points faces outer → AreEdgesOf faces outer edges
    → (p : Fraction) → HasOneLocation (record { points = points; faces = faces; edges = edges }) p
each_point_has_one_location points faces outer edges (inl m) own y =
    (plane_exists points faces outer edges m own y, plane_same points faces outer edges m own y)
each_point_has_one_location points faces outer edges (inr m) own y =
    no_faces points faces outer edges (λ t. HasOneLocation t y) m.0 own
    (λ o. (line_exists points outer edges m.1 o y, line_same points outer edges m.1 o y))
