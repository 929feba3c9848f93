-- All faces of the whole at a vertex of a part.
-- Lemmas: part_knows_faces.
use Rattle.std.proofs.Common.{◌≡◌, ℕ, List, map, sym, subst}
use mathlib.Core.Logic.{◌⊎◌, inl, inr}
use Rattle.plane.specs.{Fraction, InHull, IsConstrainedDelaunay, IsFace, IsTiling, IsVertex}
use Rattle.plane.specs.{TilesHull, Triangulation, TurnsLeft, vertex, whole}
use Rattle.plane.proofs.{weak, zero_weak_left}
use Rattle.plane_theorems.specs.{HaveOneCircle, IsPartOfPlane}
use Rattle.plane_theorems.specs.Parts.Parts.{KnowsDisk, PartKnowsFaces}
use Rattle.plane_theorems.proofs.Delaunay.Circles.Cells.{germ_goes_on, triple_in_hull}
use Rattle.plane_theorems.proofs.{Delaunay.Circles.EmptyCircles.no_face, Parts.Known.part_faces_tie}
use Rattle.plane_theorems.proofs.Delaunay.Points.Bracket.{above_if_left, bracket-first}
use Rattle.plane_theorems.proofs.Delaunay.Points.Bracket.{bracket-second}
use Rattle.plane_theorems.proofs.Delaunay.Points.Nudges.{closed_of_inside, InOpen, nudge}
use Rattle.plane_theorems.proofs.Delaunay.Points.Nudges.{nudge-least}
use Rattle.plane_theorems.proofs.Delaunay.Tilings.Faces.{both_inside, Germ, germ, germ-closed}
use Rattle.plane_theorems.proofs.Delaunay.Tilings.Faces.{germ-turned, middle, middle-inside, Tiling}
use Rattle.plane_theorems.proofs.Delaunay.Tilings.Faces.{turned-above}
use Rattle.plane_theorems.proofs.Delaunay.Tilings.Ground.{tiling, triangle_of_inside}

module _ (s t : Triangulation) (d c : List (ℕ × ℕ)) (there : IsPartOfPlane s d t c)
    (D : IsConstrainedDelaunay s d) (h : TilesHull s) (E : IsConstrainedDelaunay t c)
    (g : TilesHull t) (l m n : ℕ) (face : IsFace t l m n) (i : ℕ) (v : IsVertex s i)
    (same : vertex s i ≡ vertex t l)
    (known : (j k : ℕ) → IsFace s i j k
    → KnowsDisk s d t c (vertex s i) (vertex s j) (vertex s k))
    (hull : (p : Fraction) → InHull (map whole t.points) p → InHull (map whole s.points) p) where
  turns : TurnsLeft (vertex t l) (vertex t m) (vertex t n)
  turns = g.turning l m n face

  abbrev aim : Fraction
  aim = middle (vertex t l) (vertex t m) (vertex t n)

  aim_inside : InOpen (vertex t l) (vertex t m) (vertex t n) aim
  aim_inside = middle-inside _ _ _ (above_if_left _ _ _ turns)

  -- the way from the vertex to the middle of the face is inside the face
  on_way : (steps : ℕ)
      → InOpen (vertex t l) (vertex t m) (vertex t n) (nudge steps (vertex s i) aim)
  on_way steps = subst (λ x. InOpen (vertex t l) (vertex t m) (vertex t n) (nudge steps x aim))
      (sym same) (record {
        first = nudge-least _ _ steps _ aim (zero_weak_left (bracket-first _ _)) aim_inside.first;
        second = nudge-least _ _ steps _ aim (weak (turned-above _ _ _ (above_if_left _ _ _ turns)))
            aim_inside.second;
        third = nudge-least _ _ steps _ aim (zero_weak_left (bracket-second _ _)) aim_inside.third;
      })

  -- a face of the part at the vertex with the circle of the face
  abbrev Found : Type 0
  Found = (j k : ℕ) × IsFace s i j k × HaveOneCircle (vertex s i) (vertex s j) (vertex s k)
      (vertex t l) (vertex t m) (vertex t n)

  from_corner : (a e f : ℕ) → i ≡ a → IsFace s a e f → Germ (tiling s h) (vertex s i) aim a e f
      → Found
  from_corner a e f is_corner other begins = go (both_inside (vertex s a) (vertex s e) (vertex s f)
      (vertex t l) (vertex t m) (vertex t n) _ (above_if_left _ _ _ (h.turning a e f other))
      (germ_goes_on s h (vertex s i) aim a e f begins) (on_way _))
    where
      go : (q : Fraction) × InOpen (vertex s a) (vertex s e) (vertex s f) q
          × InOpen (vertex t l) (vertex t m) (vertex t n) q → Found
      go (q, in_part, in_face) = (e, f, at_vertex, tie)
        where
          at_vertex : IsFace s i e f
          at_vertex = subst (λ a. IsFace s a e f) (sym is_corner) other

          in_corner : InOpen (vertex s i) (vertex s e) (vertex s f) q
          in_corner = subst (λ a. InOpen (vertex s a) (vertex s e) (vertex s f) q) (sym is_corner)
              in_part

          tie : HaveOneCircle (vertex s i) (vertex s e) (vertex s f) (vertex t l) (vertex t m)
              (vertex t n)
          tie = part_faces_tie s t d c there D E i e f l m n q at_vertex (known e f at_vertex) face
              (triangle_of_inside _ _ _ q (h.turning i e f at_vertex) in_corner)
              (triangle_of_inside _ _ _ q turns in_face)

  found : Found
  unfolding tiling
  found = go (germ T (vertex s i) aim (T.vertex_in_hull i v) (hull aim (triple_in_hull t g l m n
      (g.corners l m n face) turns aim (closed_of_inside aim_inside))))
    where
      T : Tiling
      T = tiling s h

      go : (a e f : ℕ) × IsFace s a e f × Germ T (vertex s i) aim a e f → Found
      go (a, e, f, other, begins) =
          pick (T.empty a e f i other v (germ-closed T (vertex s i) aim a e f begins))
        where
          pick : (i ≡ a) ⊎ ((i ≡ e) ⊎ (i ≡ f)) → Found
          pick (inl c) = from_corner a e f c other begins
          pick (inr (inl c)) = from_corner e f a c (T.turned a e f other)
              (germ-turned T (vertex s i) aim a e f begins)
          pick (inr (inr c)) = from_corner f a e c (T.turned e f a (T.turned a e f other))
              (germ-turned T (vertex s i) aim e f a (germ-turned T (vertex s i) aim a e f begins))

-- where the disks of the faces of a part at a vertex are known, each face of the whole there has one
-- circle with one of them
pub part_knows_faces : PartKnowsFaces
part_knows_faces s t d c there D h E hull i v known l m n face same = go E.tiling
  where
    go : IsTiling t → (j k : ℕ) × IsFace s i j k × HaveOneCircle (vertex s i) (vertex s j)
        (vertex s k) (vertex t l) (vertex t m) (vertex t n)
    go (inl g) = found s t d c there D h E g l m n face i v same known hull
    go (inr line) = absurd (no_face t line.no_face l m n face)
