-- Where a point is, as the replies write it: the lesser end first, the least corner first.
-- Lemmas: on_edge_back, on_face_from_least, ends_differ, edges_counted, edge_there, face_there,
-- located.
use Rattle.std.proofs.Common.{◌≡◌, ◌≢◌, ◌≤◌, ◌<◌}
use Rattle.std.proofs.Common.{List, ℕ, inl, inr, length, arith, sym, cond, ltb, lt-ltb, le-ltb}
use Rattle.std.proofs.lemmas.Bool.{cases_lt}
use Rattle.plane.specs.{EachPairOnce, Fraction, IsEdge, IsLocation, IsPositive, IsTiling, on_edge}
use Rattle.plane.specs.{on_face, Point, Triangulation, vertex, whole}
use Rattle.plane.proofs.{turned_face, turned_inside, turned_mean_of_two}
use Rattle.plane_theorems.proofs.{edge_flipped}
use Rattle.triangulate_run.specs.{declared.reply.Reply.Reply, IsListed, least_first, SheetPoint}
use Rattle.triangulate_run.specs.Answer.{AreSoMany, IsThere, MayLocate}
use Rattle.triangulate_run.specs.declared.corners.Corners.{Corners}
use Rattle.triangulate_run.proofs.FaceList.{differ, first_least, from_least_of, is_first, is_second}
use Rattle.triangulate_run.proofs.FaceList.{is_third, least, second_least, third_least}
use Rattle.triangulate_run.specs.declared.reply.Reply.TheVariants as reply

module _ (t : Triangulation) (p : Fraction) where
  -- a point on an edge is on it by the ends in the other order, too
  pub on_edge_back : (i j : ℕ) → IsLocation t p (on_edge i j) → IsLocation t p (on_edge j i)
  on_edge_back i j h =
      (edge_flipped t i j h.0, turned_mean_of_two IsPositive (vertex t i) (vertex t j) p h.1)

  on_face_turned : (i j k : ℕ) → IsLocation t p (on_face i j k) → IsLocation t p (on_face j k i)
  on_face_turned i j k h =
      (turned_face t i j k h.0, turned_inside (vertex t i) (vertex t j) (vertex t k) p h.1)

  -- a point in a face is in it by the corners from the least one on
  pub on_face_from_least : IsTiling t → (i j k : ℕ) → IsLocation t p (on_face i j k)
      → let c = least_first i j k in IsLocation t p (on_face c.first c.second c.third)
  on_face_from_least tiles i j k h =
      let d = differ t tiles i j k h.0 in elim (least i j k d.0 d.1 d.2) [
        | is_first a b ↦ rw (first_least i j k a b) h
        | is_second a b ↦ rw (second_least i j k a b) (on_face_turned i j k h)
        | is_third a b ↦ rw (third_least i j k a b) (on_face_turned j k i (on_face_turned i j k h))
      ]

-- the ends of an edge differ
pub ends_differ : (t : Triangulation) → IsTiling t → (i j : ℕ) → IsEdge t i j → i ≢ j
ends_differ t (inl tiles) i j h = elim ((tiles.sides i j).0 h) [
  | inl f ↦ (differ t (inl tiles) i j f.0 f.1).0
  | inr f ↦ (λ e. (differ t (inl tiles) j i f.0 f.1).0 (sym e))
]
ends_differ t (inr line) i j h = ((line.neighbours i j).0 h).apart

once_of : (t : Triangulation) → IsTiling t → EachPairOnce t.edges
once_of t (inl tiles) = tiles.once
once_of t (inr line) = line.once

-- the number of edges in the list of a tiling is that of its edges, each counted once
pub edges_counted : (t : Triangulation) → IsTiling t → (n : ℕ) → n ≡ length t.edges
    → AreSoMany t.edges n
edges_counted t tiles n e = record {
  different = t.edges;
  same = λ i j. (λ h. h, λ h. h);
  once = once_of t tiles;
  number = e;
}

-- ---- as replies
-- where p is within an edge, the reply with its ends, the lesser first, says so
pub edge_there : (t : Triangulation) → IsTiling t → (p : Point) (i j x y : ℕ) (r : Reply) → x ≡ i
    → y ≡ j → r ≡ cond (ltb x y) (reply.Edge x y) (reply.Edge y x)
    → IsLocation t (whole p) (on_edge i j) → IsThere t p r
edge_there t tiles p i j x y r ex ey e h = rw (e, ex, ey) (elim (cases_lt i j) [
  | inl less ↦ rw (lt-ltb i j less) (h, less)
  | inr more ↦ (let apart = ends_differ t tiles i j h.0 in
      rw (le-ltb i j more) (on_edge_back t (whole p) i j h, lesser i j more apart))
])
  where
    lesser : (i j : ℕ) → j ≤ i → i ≢ j → j < i
    lesser i j more apart = grind arith

-- where p is inside a face, the reply with its corners from the least on says so
pub face_there : (t : Triangulation) → IsTiling t → (p : Point) (i j k : ℕ) (c : Corners)
    → c ≡ least_first i j k → IsLocation t (whole p) (on_face i j k) → IsThere t p (reply.Face c)
face_there t tiles p i j k c e h =
    rw e (on_face_from_least t (whole p) tiles i j k h, from_least_of t tiles i j k h.0)

-- a reply that says where a listed point is may be given
pub located : (points : List SheetPoint) (t : Triangulation) (p : Point) (r : Reply)
    → IsListed points p → IsThere t p r → MayLocate points t p r
located points t p reply.BadLine listed there = absurd there
located points t p reply.UnknownPoint listed there = absurd there
located points t p (reply.Refused error) listed there = absurd there
located points t p (reply.Vertex i) listed there = (listed, there)
located points t p (reply.Edge i j) listed there = (listed, there)
located points t p (reply.Face c) listed there = (listed, there)
located points t p reply.Outside listed there = (listed, there)
located points t p reply.NoTriangulation listed there = (listed, there)
located points t p (reply.Distance d) listed there = absurd there
located points t p reply.NoNeighbor listed there = absurd there
located points t p (reply.Removed x y) listed there = absurd there
located points t p reply.NoVertex listed there = absurd there
located points t p reply.Released listed there = absurd there
located points t p reply.NotConstrained listed there = absurd there
located points t p reply.NoEdge listed there = absurd there
located points t p reply.NoPath listed there = absurd there
located points t p (reply.Counts v e f c) listed there = absurd there
located points t p (reply.Faces list) listed there = absurd there
