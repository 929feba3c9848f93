-- The edge opposite a vertex is turned: it comes between two edges of the vertex.
-- Lemmas: failing_twin, failing_either, either_in, beyond_differs, comes_between, opposite_here,
-- opposite_behind, opposite_others.
use Rattle.std.proofs.Common.{◌≡◌, ℕ, ◌*◌, ◌/◌, ◌<◌, List, length, sym, ap, ◌∙◌, subst}
use mathlib.Core.Logic.{◌≢◌, inl, inr}
use Rattle.std.proofs.lemmas.Bool.{cases_eq}
use Rattle.plane.specs.{InsideCircle, place, Point}
use Rattle.half_edge_links.specs.{edge_at, face, flipped, Flips, HalfEdge, HasLinks, IsValidMesh}
use Rattle.half_edge_links.specs.{Mesh, next, origin, prev, rev}
use Rattle.half_edge_links.proofs.{Faces.FlipSound.IsOffFlip, flips_is, rev-rev, rev_within}
use Rattle.plane_theorems.specs.{IsMesh, LocalMesh}
use Rattle.plane_theorems.proofs.{by_signs, corners_differ, point_at}
use Rattle.delaunay_legalization.specs.{faces_of, IsFailing, outer_of}
use Rattle.delaunay_legalization.proofs.{AmongSteps.right_by_edges, MeshEdits.face_before}
use Rattle.delaunay_legalization.proofs.{MeshStays.halved, Spokes.ComesBetween}
use Rattle.half_edge_links.proofs.Sound.Triangles as T
use Rattle.plane_theorems.proofs.Tiling.Covering as C
use Rattle.delaunay_legalization.proofs.MeshLegal as M

-- ---- an edge fails in both of its directions
-- and so does its other direction
pub failing_twin : (points : List Point) (m : Mesh) → IsValidMesh m
    → IsMesh points (faces_of m) (outer_of m) → (e : ℕ) → e < length m.half_edges
    → IsFailing points m e → IsFailing points m (rev e)
failing_twin points m s shape e within x = record {
  inner = x.twin_inner;
  twin_inner = subst (λ z. 0 < face m z) (sym (rev-rev e)) x.inner;
  inside = subst (λ (z : ℕ). InsideCircle (place points (origin m (rev e)))
      (place points (origin m (next m (rev e))))
      (place points (origin m (prev m (rev e)))) (place points (origin m (prev m z))))
      (sym (rev-rev e))
      (right_by_edges points m s shape e within x);
}

-- ---- what a flip does, seen from the vertex opposite the edge on its left
record TurnsOpposite (m new : Mesh) (e : ℕ) : Type 0 where
  pub edge_count : length new.half_edges ≡ length m.half_edges
  pub others : (j : ℕ) → IsOffFlip m e j → edge_at new.half_edges j ≡ edge_at m.half_edges j
  pub before_origin : origin new (prev m e) ≡ origin m (prev m e)
  pub before_next : next new (prev m e) ≡ next m (rev e)
  pub before_prev : prev new (prev m e) ≡ rev e
  pub edge_origin : origin new e ≡ origin m (prev m e)
  pub edge_next : next new e ≡ prev m (rev e)
  pub edge_prev : prev new e ≡ next m e

by_edge : (m new : Mesh) (e : ℕ) → Flips m new e → TurnsOpposite m new e
by_edge m new e f = record {
  edge_count = f.edge_count;
  others = λ j k. f.other_edges j k.edge k.twin k.edge_next k.twin_next k.edge_prev k.twin_prev;
  before_origin = f.edge_prev.origin;
  before_next = f.edge_prev.next;
  before_prev = f.edge_prev.prev;
  edge_origin = f.edge.origin;
  edge_next = f.edge.next;
  edge_prev = f.edge.prev;
}

by_twin : (m new : Mesh) (e : ℕ) → Flips m new (rev e) → TurnsOpposite m new e
by_twin m new e f = record {
  edge_count = f.edge_count;
  others = λ j k. f.other_edges j k.twin (λ q. k.edge (q ∙ rev-rev e)) k.twin_next
      (λ q. k.edge_next (q ∙ ap (next m) (rev-rev e))) k.twin_prev
      (λ q. k.edge_prev (q ∙ ap (prev m) (rev-rev e)));
  before_origin = before.origin;
  before_next = before.next;
  before_prev = before.prev;
  edge_origin = edge.origin;
  edge_next = edge.next;
  edge_prev = edge.prev;
}
  where
    edge : HasLinks new e (origin m (prev m e)) (prev m (rev e)) (next m e) (face m e)
    edge = subst (λ (z : ℕ). HasLinks new z (origin m (prev m z)) (prev m (rev e)) (next m z)
        (face m z)) (rev-rev e)
        f.twin

    before : HasLinks new (prev m e) (origin m (prev m e)) (next m (rev e)) (rev e) (face m (rev e))
    before = subst (λ (z : ℕ). HasLinks new (prev m z) (origin m (prev m z)) (next m (rev e))
        (rev e) (face m (rev e)))
        (rev-rev e) f.twin_prev

-- ---- the edge opposite the vertex where edge h starts, in the face on the left of h, fails
module _ (points : List Point) (m : Mesh) (s : IsValidMesh m)
    (shape : IsMesh points (faces_of m) (outer_of m)) (h : ℕ) (within : h < length m.half_edges)
    (x : IsFailing points m (next m h)) where
  abbrev e : ℕ
  e = next m h

  -- the edge opposite the vertex is one of the mesh
  e_in : e < length m.half_edges
  e_in = (s.sound.edges h within).next_in

  twin_in : rev e < length m.half_edges
  twin_in = rev_within e (length m.half_edges) s.sound.even e_in

  local : LocalMesh points (faces_of m) (outer_of m)
  local = M.local_of points m e s.sound shape (e_in, x.inner)

  triangle : T.IsTriangle m e
  triangle = T.triangle_at m e s.sound e_in x.inner

  -- edge h is the one before it
  h_is : prev m e ≡ h
  h_is = (s.sound.edges h within).prev_next

  -- the undirected edge fails too
  pub failing_either : IsFailing points m (2 * (e / 2))
  failing_either = elim (halved e) [
    | inl q ↦ subst (IsFailing points m) (sym q) x
    | inr q ↦ subst (IsFailing points m) (sym q) (failing_twin points m s shape e e_in x)
  ]

  pub either_in : 2 * (e / 2) < length m.half_edges
  either_in = elim (halved e) [
    | inl q ↦ subst (λ z. z < length m.half_edges) (sym q) e_in
    | inr q ↦ subst (λ z. z < length m.half_edges) (sym q) twin_in
  ]

  differ : (origin m e ≢ origin m (next m e)) × (origin m (next m e) ≢ origin m (prev m e))
      × (origin m (prev m e) ≢ origin m e)
  differ = corners_differ (point_at points) (origin m e) (origin m (next m e)) (origin m (prev m e))
      (C.turn_left_of (length points) (point_at points) (faces_of m) (outer_of m)
      (by_signs points (faces_of m) (outer_of m) local) (origin m e) (origin m (next m e))
      (origin m (prev m e))
      (face_before m e s.sound (e_in, x.inner)))

  -- the corner beyond the edge is not the vertex
  pub beyond_differs : origin m (prev m (rev e)) ≢ origin m h
  beyond_differs q = M.apart_corners points m s local e e_in x (ap (origin m) h_is ∙ sym q)

  -- no other edge of the vertex is in the two faces
  away : (j : ℕ) → origin m j ≡ origin m h → j ≢ h → IsOffFlip m e j
  away j at off = record {
    edge = λ q. differ.2 (spot ∙ ap (origin m) q);
    twin = λ q. differ.1 ((s.sound.edges e e_in).starts ∙ sym (spot ∙ ap (origin m) q));
    edge_next = λ q. differ.1 (sym (spot ∙ ap (origin m) q));
    twin_next = λ q. differ.2 (spot ∙ ap (origin m) q ∙ (s.sound.edges (rev e) twin_in).starts
        ∙ ap (origin m) (rev-rev e));
    edge_prev = λ q. off (q ∙ h_is);
    twin_prev = λ q. beyond_differs (sym (ap (origin m) q) ∙ at);
  }
    where
      spot : origin m (prev m e) ≡ origin m j
      spot = ap (origin m) h_is ∙ sym at

  module _ (new : Mesh) (turned : new ≡ flipped m (2 * (e / 2))) where
    turns : TurnsOpposite m new e
    turns = elim (halved e) [
      | inl q ↦ by_edge m new e (flips_is m new e s.sound (M.can_turn points m s local e e_in x)
          (turned ∙ ap (flipped m) q))
      | inr q ↦ by_twin m new e (flips_is m new (rev e) s.sound
          (M.can_turn points m s local (rev e) twin_in (failing_twin points m s shape e e_in x))
          (turned ∙ ap (flipped m) q))
    ]

    stays : (j : ℕ) → origin m j ≡ origin m h → j ≢ h
        → edge_at new.half_edges j ≡ edge_at m.half_edges j
    stays j at off = turns.others j (away j at off)

    -- the turned edge comes behind h
    pub comes_between : ComesBetween m new (origin m h) h e
    comes_between = record {
      edge_count = turns.edge_count;
      here = ap rev (ap (prev new) (sym h_is) ∙ turns.before_prev) ∙ rev-rev e;
      behind = ap rev (turns.edge_prev ∙ sym triangle.prev_prev ∙ ap (prev m) h_is);
      within = e_in;
      fresh = λ q. differ.2 (ap (origin m) h_is ∙ sym q);
      starts = turns.edge_origin ∙ ap (origin m) h_is;
      origins = λ j j_in at. elim (cases_eq j h) [
        | inl q ↦ ap (origin new) (q ∙ sym h_is) ∙ turns.before_origin ∙ ap (origin m) h_is
        | inr off ↦ ap (λ (r : HalfEdge). r.origin) (stays j at off) ∙ at
      ];
      others = λ j j_in at off. ap (λ (r : HalfEdge). rev r.prev) (stays j at off);
    }

    -- the edges opposite the vertex then
    pub opposite_here : next new h ≡ next m (rev e)
    opposite_here = ap (next new) (sym h_is) ∙ turns.before_next

    pub opposite_behind : next new e ≡ prev m (rev e)
    opposite_behind = turns.edge_next

    pub opposite_others : (j : ℕ) → origin m j ≡ origin m h → j ≢ h → next new j ≡ next m j
    opposite_others j at off = ap (λ (r : HalfEdge). r.next) (stays j at off)
