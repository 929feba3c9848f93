-- The outer edges of a tiling, in the definitions' words: what is in no face is left of one, and
-- the hull is left of none.
-- Notions: EachHasEdge; edge_of_corner, outside_is_left_of_outer, face_of_outer, beyond_outer,
-- face_not_left_of_outer, hull_not_left_of_outer.
use Rattle.std.proofs.Common.{ℕ}
use mathlib.Core.Logic.{◌⊎◌, inl, inr}
use Rattle.std.specs.Prelude.{map}
use Rattle.plane.specs.{Fraction, HasFace, InCorners, InHull, IsEdge, IsFace, IsOuter, IsVertex}
use Rattle.plane.specs.{TilesHull, Triangulation, TurnsLeft, vertex, whole}
use Rattle.plane.proofs.{negated_left, Signs.negative_of_opposite}
use Rattle.plane_theorems.proofs.Delaunay.Points.Bracket.{above_if_left, bracket-swapped}
use Rattle.plane_theorems.proofs.Delaunay.Points.Bracket.{left_if_above}
use Rattle.plane_theorems.proofs.Delaunay.Tilings.Ground.{closed_of, tiling, triangle_of_closed}
use Rattle.plane_theorems.proofs.Delaunay.Tilings.Where.{corner_of_face, covered_or_beyond}
use Rattle.plane_theorems.proofs.Delaunay.Tilings.Where.{IsBeyond, IsCovered}
use Rattle.plane_theorems.proofs.Delaunay.Tilings.Where.{not_covered_and_beyond}

-- each vertex has an edge
abbrev pub EachHasEdge : Triangulation → Type 0
EachHasEdge t = (i : ℕ) → IsVertex t i → (k : ℕ) × IsEdge t i k

module _ (t : Triangulation) (h : TilesHull t) where
  -- in a tiling each vertex is a corner of a face, and so has an edge
  pub edge_of_corner : EachHasEdge t
  unfolding tiling
  edge_of_corner i hi = let f = corner_of_face (tiling t h) i hi in
      (f.0, (h.sides i f.0).1 (inl (f.1, f.2)))

  some_face : (i j k : ℕ) × IsFace t i j k
  unfolding tiling
  some_face = let s = h.spread in let f = corner_of_face (tiling t h) s.0 s.3 in
      (s.0, f.0, f.1, f.2)

  -- a point in no closed face is strictly left of an outer edge
  pub outside_is_left_of_outer : (p : Fraction)
      → ((i j k : ℕ) → IsFace t i j k → ¬ InCorners t i j k p)
      → (i j : ℕ) × IsOuter t i j × TurnsLeft (vertex t i) (vertex t j) p
  unfolding tiling
  outside_is_left_of_outer p bare =
      go (covered_or_beyond (tiling t h) some_face.0 some_face.1 some_face.2 some_face.3 p)
    where
      go : IsCovered (tiling t h) p ⊎ IsBeyond (tiling t h) p
          → (i j : ℕ) × IsOuter t i j × TurnsLeft (vertex t i) (vertex t j) p
      go (inl c) = absurd (bare c.a c.b c.c c.is_face
          (triangle_of_closed _ _ _ p (h.turning c.a c.b c.c c.is_face) c.closed))
      go (inr b) = (
        b.b,
        b.a,
        ((h.sides b.b b.a).1 (inr (b.c, b.is_face)), λ f. b.alone f.0 f.1),
        left_if_above _ _ p
            (negated_left (bracket-swapped (vertex t b.a) (vertex t b.b) p) b.right),
      )

  -- the face on the right of an outer edge
  pub face_of_outer : (i j : ℕ) → IsOuter t i j → HasFace t j i
  face_of_outer i j o = go ((h.sides i j).0 o.0)
    where
      go : HasFace t i j ⊎ HasFace t j i → HasFace t j i
      go (inl f) = absurd (o.1 f)
      go (inr f) = f

  -- a point on the left of an outer edge, in the words of the walk
  pub beyond_outer : (i j : ℕ) (p : Fraction) → IsOuter t i j
      → TurnsLeft (vertex t i) (vertex t j) p → IsBeyond (tiling t h) p
  unfolding tiling
  beyond_outer i j p o turns = let g = face_of_outer i j o in
      record {
        a = j;
        b = i;
        c = g.0;
        is_face = g.1;
        alone = λ d k. o.1 (d, k);
        right = negative_of_opposite _ _ (bracket-swapped (vertex t j) (vertex t i) p)
            (above_if_left _ _ p turns);
      }

  -- no point of a closed face, and so none of the hull, is left of an outer edge
  pub face_not_left_of_outer : (i j l m n : ℕ) (p : Fraction) → IsOuter t i j → IsFace t l m n
      → InCorners t l m n p → ¬ TurnsLeft (vertex t i) (vertex t j) p
  unfolding tiling
  face_not_left_of_outer i j l m n p o f inside turns =
      not_covered_and_beyond (tiling t h) p (record
      { a = l; b = m; c = n; is_face = f; closed = closed_of _ _ _ p (h.turning l m n f) inside })
      (beyond_outer i j p o turns)

  -- no point of the hull is on the left of an outer edge
  pub hull_not_left_of_outer : (i j : ℕ) (p : Fraction) → IsOuter t i j
      → InHull (map whole t.points) p → ¬ TurnsLeft (vertex t i) (vertex t j) p
  hull_not_left_of_outer i j p o m =
      let c = h.covering p m in face_not_left_of_outer i j c.0 c.1 c.2 p o c.3 c.4
