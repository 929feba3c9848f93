-- A part of the vertices, with a Delaunay triangulation of its own: which of its cells are cells of
-- the whole.
-- Lemmas: part_has_cells, part_face_stays, part_has_face, part_knows_cells.
use Rattle.std.proofs.Common.{◌≡◌, ◌<◌, ℕ, [], length, map, arith, sym, ◌∙◌, ap, subst}
use mathlib.Core.Path.{subst₃}
use mathlib.Core.Logic.{◌⊎◌, inl, inr}
use Rattle.std.specs.Prelude.{◌≢◌, pos}
use Rattle.std.proofs.lemmas.List.{get_or-map, length-map}
use Rattle.plane.specs.{Fraction, InHull, InsideCircle, InTriangle, IsConstrainedDelaunay, IsFace}
use Rattle.plane.specs.{IsStrictlyEmpty, IsTiling, IsVertex, JoinsLine, OnCircle, Point, TilesHull}
use Rattle.plane.specs.{Triangulation, TurnsLeft, vertex, whole}
use Rattle.plane.proofs.{above, below, left_not_zero, negated_left, none, Sign, sign, weak}
use Rattle.{plane.proofs.zero_weak_left, plane_theorems.proofs.Delaunay.Circles.CellHull.zero_point}
use Rattle.plane_theorems.specs.{Delaunay.Laws.PartKnowsCells, InCell}
use Rattle.plane_theorems.specs.Delaunay.Cells.{HasDiskOf, HasFaceAt, HasVertexAt, HasVerticesOf}
use Rattle.plane_theorems.specs.Delaunay.Laws.{PartFaceStays, PartHasCells, PartHasFace}
use Rattle.plane_theorems.proofs.Delaunay.Circles.Cells.{empty_open, face_is_empty, germ_goes_on}
use Rattle.plane_theorems.proofs.Delaunay.Circles.Cells.{inside_agrees, on_agrees, triple_in_cell}
use Rattle.plane_theorems.proofs.Delaunay.Circles.Cells.{triple_in_hull}
use Rattle.plane_theorems.proofs.Delaunay.Circles.EmptyCircles.{face_open, IsOpenTriple, no_face}
use Rattle.plane_theorems.proofs.Delaunay.Circles.EmptyCircles.{OneCircle, overlapping, spot}
use Rattle.plane_theorems.proofs.Delaunay.Circles.EmptyCircles.{straight_line}
use Rattle.plane_theorems.proofs.Delaunay.Circles.EmptyCircles.{strictly_empty_is_face}
use Rattle.plane_theorems.proofs.{Delaunay.Circles.History.distinct, Delaunay.Tilings.Ground.tiling}
use Rattle.plane_theorems.proofs.Delaunay.Circles.Lift.{lift, on_is_lift}
use Rattle.plane_theorems.proofs.Delaunay.Points.Bracket.{above_if_left, bracket, bracket-first}
use Rattle.plane_theorems.proofs.Delaunay.Points.Bracket.{bracket-second, bracket-swapped}
use Rattle.plane_theorems.proofs.Delaunay.Points.Bracket.{bracket-turned, left_if_above}
use Rattle.plane_theorems.proofs.Delaunay.Points.Hull.{bracket_form, corner_in_hull, none_in_hull}
use Rattle.plane_theorems.proofs.Delaunay.Points.Nudges.{closed_of_inside, InOpen, nudge}
use Rattle.plane_theorems.proofs.Delaunay.Points.Nudges.{nudge-least}
use Rattle.plane_theorems.proofs.Delaunay.Tilings.Faces.{both_inside, Germ, germ, germ-closed}
use Rattle.plane_theorems.proofs.Delaunay.Tilings.Faces.{germ-turned, middle, middle-inside, Tiling}
use Rattle.plane_theorems.proofs.Delaunay.Tilings.Faces.{turned-above}

-- ---- the cell of a circle
module _ (s t : Triangulation) (D : IsConstrainedDelaunay s []) (E : IsConstrainedDelaunay t [])
    (a b c : Point) (turns : TurnsLeft (whole a) (whole b) (whole c))
    (carried : (n : ℕ) → IsVertex s n → OnCircle (whole a) (whole b) (whole c) (vertex s n)
    → HasVertexAt t (vertex s n))
    (inside : (n : ℕ) → IsVertex t n → InsideCircle (whole a) (whole b) (whole c) (vertex t n)
    → HasVertexAt s (vertex t n)) where
  -- where t has the vertices that the circle carries, and none inside that is not one of s
  cell_moves : (p : Fraction) → InCell s (whole a) (whole b) (whole c) p
      → InCell t (whole a) (whole b) (whole c) p
  cell_moves p m = go D.tiling
    where
      i : ℕ
      i = m.i

      j : ℕ
      j = m.j

      k : ℕ
      k = m.k

      go : IsTiling s → InCell t (whole a) (whole b) (whole c) p
      go (inr l) = absurd (no_face s l.no_face i j k m.is_face)
      go (inl h) = triple_in_cell t E a b c turns empty x.0 y.0 z.0 (x.1, y.1, z.1)
          (subst₃ TurnsLeft x.2 y.2 z.2 left) (
            on x m.on_circle.0,
            on y m.on_circle.1,
            on z m.on_circle.2,
          ) p (subst₃ (λ u v w. InTriangle u v w p) x.2 y.2 z.2 m.within)
        where
          left : TurnsLeft (vertex s i) (vertex s j) (vertex s k)
          left = h.turning i j k m.is_face

          x : HasVertexAt t (vertex s i)
          x = carried i (h.corners i j k m.is_face).0 m.on_circle.0

          y : HasVertexAt t (vertex s j)
          y = carried j (h.corners i j k m.is_face).1 m.on_circle.1

          z : HasVertexAt t (vertex s k)
          z = carried k (h.corners i j k m.is_face).2 m.on_circle.2

          on : {q : Fraction} (x : HasVertexAt t q) → OnCircle (whole a) (whole b) (whole c) q
              → OnCircle (whole a) (whole b) (whole c) (vertex t x.0)
          on x u = subst (OnCircle (whole a) (whole b) (whole c)) x.2 u

          empty : (n : ℕ) → IsVertex t n
              → ¬ InsideCircle (whole a) (whole b) (whole c) (vertex t n)
          empty n v u = let q = inside n v u in
              face_is_empty s D i j k q.0 m.is_face left q.1
              ((inside_agrees a b c (spot s i) (spot s j) (spot s k) turns left m.on_circle.0
              m.on_circle.1 m.on_circle.2 (spot s q.0)).0
              (subst (InsideCircle (whole a) (whole b) (whole c)) q.2 u))

-- where the part has each vertex of the whole in the closed disk of a circle, both have one cell of
-- it
pub part_has_cells : PartHasCells
part_has_cells s t there D E a b c turns disk p = (
  cell_moves s t D E a b c turns (λ n v _. there n v) (λ n v u. disk n v (inl u)) p,
  cell_moves t s E D a b c turns (λ n v u. disk n v (inr u)) (λ n v _. there n v) p,
)

-- ---- triples that are alone on their circles
module _ (s t : Triangulation) (E : IsConstrainedDelaunay t []) (i j k : ℕ)
    (alone : IsStrictlyEmpty s i j k) (x : HasVertexAt t (vertex s i))
    (y : HasVertexAt t (vertex s j)) (z : HasVertexAt t (vertex s k))
    (disk : HasDiskOf s t (vertex s i) (vertex s j) (vertex s k)) where
  moved_turns : TurnsLeft (vertex t x.0) (vertex t y.0) (vertex t z.0)
  moved_turns = subst₃ TurnsLeft x.2 y.2 z.2 alone.turns

  moved_empty : TilesHull t → IsStrictlyEmpty t x.0 y.0 z.0
  moved_empty h = record {
    corners = (x.1, y.1, z.1);
    turns = moved_turns;
    clear = λ n v p q r. (
      λ u. outside n v p q r (inl (back InsideCircle u)),
      λ u. outside n v p q r (inr (back OnCircle u)),
    );
  }
    where
      back : {q : Fraction} (C : Fraction → Fraction → Fraction → Fraction → Type 0)
          → C (vertex t x.0) (vertex t y.0) (vertex t z.0) q
          → C (vertex s i) (vertex s j) (vertex s k) q
      back {q} C u = subst₃ (λ a b c. C a b c q) (sym x.2) (sym y.2) (sym z.2) u

      outside : (n : ℕ) → IsVertex t n → n ≢ x.0 → n ≢ y.0 → n ≢ z.0
          → InsideCircle (vertex s i) (vertex s j) (vertex s k) (vertex t n)
          ⊎ OnCircle (vertex s i) (vertex s j) (vertex s k) (vertex t n) → ⊥
      outside n v p q r u = refuse u
        where
          m : HasVertexAt s (vertex t n)
          m = disk n v u

          other : (e : ℕ) (w : HasVertexAt t (vertex s e)) → n ≢ w.0 → m.0 ≢ e
          other e w differs same = differs
              (distinct t h n w.0 v w.1 (m.2 ∙ ap (vertex s) same ∙ w.2))

          refuse : InsideCircle (vertex s i) (vertex s j) (vertex s k) (vertex t n)
              ⊎ OnCircle (vertex s i) (vertex s j) (vertex s k) (vertex t n) → ⊥
          refuse (inl u) = (alone.clear m.0 m.1 (other i x p) (other j y q) (other k z r)).0
              (subst (InsideCircle (vertex s i) (vertex s j) (vertex s k)) m.2 u)
          refuse (inr u) = (alone.clear m.0 m.1 (other i x p) (other j y q) (other k z r)).1
              (subst (OnCircle (vertex s i) (vertex s j) (vertex s k)) m.2 u)

  triple_moves : HasFaceAt t (vertex s i) (vertex s j) (vertex s k)
  triple_moves = go E.tiling
    where
      go : IsTiling t → HasFaceAt t (vertex s i) (vertex s j) (vertex s k)
      go (inr l) = absurd (straight_line t l x.0 y.0 z.0 x.1 y.1 z.1 moved_turns)
      go (inl h) = (
        x.0,
        y.0,
        z.0,
        strictly_empty_is_face t E x.0 y.0 z.0 (moved_empty h),
        x.2,
        y.2,
        z.2,
      )

-- a triple of the part that is alone on its circle, in whose closed disk the whole has no further
-- vertex, is a face of the whole
pub part_face_stays : PartFaceStays
part_face_stays s t there E i j k alone disk = triple_moves s t E i j k alone
    (there i alone.corners.0) (there j alone.corners.1) (there k alone.corners.2) disk

-- a strictly empty triple of the whole is a face of each part that has its corners
pub part_has_face : PartHasFace
part_has_face s t there D i j k alone x y z =
    triple_moves t s D i j k alone x y z (λ n v _. there n v)

-- ---- all cells at a vertex
-- vertices on one line, and points of their hull
module _ (s : Triangulation) (l : JoinsLine s) where
  -- each three vertices are on one line
  flat : (i j k : ℕ) → IsVertex s i → IsVertex s j → IsVertex s k
      → bracket (vertex s i) (vertex s j) (vertex s k) ≡ pos 0
  flat i j k hi hj hk = go (sign (bracket (vertex s i) (vertex s j) (vertex s k)))
    where
      go : Sign (bracket (vertex s i) (vertex s j) (vertex s k))
          → bracket (vertex s i) (vertex s j) (vertex s k) ≡ pos 0
      go (above p) = absurd (straight_line s l i j k hi hj hk (left_if_above _ _ _ p))
      go (none e) = e
      go (below p) = absurd (straight_line s l j i k hj hi hk (left_if_above _ _ _
          (negated_left (bracket-swapped (vertex s i) (vertex s j) (vertex s k)) p)))

  hull_flat : (u v p : Fraction) → ((n : ℕ) → IsVertex s n → bracket u v (vertex s n) ≡ pos 0)
      → InHull (map whole s.points) p → bracket u v p ≡ pos 0
  hull_flat u v p on = none_in_hull (map whole s.points) (whole zero_point) (bracket u v)
      (bracket_form u v) (λ i h. ap (bracket u v) (get_or-map whole s.points i zero_point
      (whole zero_point) (is_index i h)) ∙ on i (is_index i h)) p
    where
      is_index : (i : ℕ) → i < length (map whole s.points) → i < length s.points
      is_index i h = omega (arith, length-map s.points whole)

  turned_none : (a b c : Fraction) → bracket a b c ≡ pos 0 → bracket b c a ≡ pos 0
  turned_none a b c e = bracket-turned a b c ∙ e

  three_flat : (p q r : Fraction) → InHull (map whole s.points) p → InHull (map whole s.points) q
      → InHull (map whole s.points) r → bracket p q r ≡ pos 0
  three_flat p q r hp hq hr = hull_flat p q r (λ n v. turned_none (vertex s n) p q
      (hull_flat (vertex s n) p q (λ m w. turned_none (vertex s m) (vertex s n) p
      (hull_flat (vertex s m) (vertex s n) p (λ k. flat m n k w v) hp)) hq)) hr

module _ (s t : Triangulation) (there : HasVerticesOf t s) (D : IsConstrainedDelaunay s [])
    (h : TilesHull s) (g : TilesHull t) where
  -- in a known disk of a face of the part the whole has no vertex inside
  stays_open : (d e f : ℕ) → IsFace s d e f
      → HasDiskOf s t (vertex s d) (vertex s e) (vertex s f)
      → (x : HasVertexAt t (vertex s d)) (y : HasVertexAt t (vertex s e))
      (z : HasVertexAt t (vertex s f)) → IsOpenTriple t [] x.0 y.0 z.0
  stays_open d e f face disk x y z = empty_open t x.0 y.0 z.0 (x.1, y.1, z.1)
      (subst₃ TurnsLeft x.2 y.2 z.2 turns)
      (λ n v u. empty n v (subst₃ (λ a b c. InsideCircle a b c (vertex t n)) (sym x.2) (sym y.2)
      (sym z.2) u))
    where
      turns : TurnsLeft (vertex s d) (vertex s e) (vertex s f)
      turns = h.turning d e f face

      empty : (n : ℕ) → IsVertex t n
          → ¬ InsideCircle (vertex s d) (vertex s e) (vertex s f) (vertex t n)
      empty n v u = let q = disk n v (inl u) in face_is_empty s D d e f q.0 face turns q.1
          (subst (InsideCircle (vertex s d) (vertex s e) (vertex s f)) q.2 u)

  module _ (E : IsConstrainedDelaunay t []) (l m n : ℕ) (face : IsFace t l m n) where
    corners : IsVertex t l × IsVertex t m × IsVertex t n
    corners = g.corners l m n face

    turns : TurnsLeft (vertex t l) (vertex t m) (vertex t n)
    turns = g.turning l m n face

    -- a face of the part whose disk is known and that overlaps the face: the disks are one
    disk_moves : (d e f : ℕ) → IsFace s d e f
        → HasDiskOf s t (vertex s d) (vertex s e) (vertex s f) → (q : Fraction)
        → InOpen (vertex s d) (vertex s e) (vertex s f) q
        → InOpen (vertex t l) (vertex t m) (vertex t n) q
        → HasDiskOf s t (vertex t l) (vertex t m) (vertex t n)
    disk_moves d e f known disk q i j o v u = disk o v (moved u)
      where
        left : TurnsLeft (vertex s d) (vertex s e) (vertex s f)
        left = h.turning d e f known

        x : HasVertexAt t (vertex s d)
        x = there d (h.corners d e f known).0

        y : HasVertexAt t (vertex s e)
        y = there e (h.corners d e f known).1

        z : HasVertexAt t (vertex s f)
        z = there f (h.corners d e f known).2

        one : OneCircle (vertex s d) (vertex s e) (vertex s f) (vertex t l) (vertex t m)
            (vertex t n)
        one = subst₃ (λ a b c. OneCircle a b c (vertex t l) (vertex t m) (vertex t n)) (sym x.2)
            (sym y.2) (sym z.2) (overlapping t [] x.0 y.0 z.0 l m n q
            (stays_open d e f known disk x y z) (face_open t [] g E l m n face)
            (subst₃ (λ a b c. InOpen a b c q) x.2 y.2 z.2 i) j)

        on : (k : ℕ) → lift (vertex s d) (vertex s e) (vertex s f) (vertex t k) ≡ pos 0
            → OnCircle (vertex s d) (vertex s e) (vertex s f) (vertex t k)
        on k = (on_is_lift (spot s d) (spot s e) (spot s f) (spot t k) left).1

        moved : InsideCircle (vertex t l) (vertex t m) (vertex t n) (vertex t o)
            ⊎ OnCircle (vertex t l) (vertex t m) (vertex t n) (vertex t o)
            → InsideCircle (vertex s d) (vertex s e) (vertex s f) (vertex t o)
            ⊎ OnCircle (vertex s d) (vertex s e) (vertex s f) (vertex t o)
        moved (inl b) = inl ((inside_agrees (spot s d) (spot s e) (spot s f) (spot t l) (spot t m)
            (spot t n) left turns (on l one.fourth) (on m one.fifth) (on n one.sixth)
            (spot t o)).1 b)
        moved (inr b) = inr ((on_agrees (spot s d) (spot s e) (spot s f) (spot t l) (spot t m)
            (spot t n) left turns (on l one.fourth) (on m one.fifth) (on n one.sixth)
            (spot t o)).1 b)

    module _ (i : ℕ) (v : IsVertex s i) (same : vertex s i ≡ vertex t l)
        (known : (j k : ℕ) → IsFace s i j k → HasDiskOf s t (vertex s i) (vertex s j) (vertex s k))
        (hull : (p : Fraction) → InHull (map whole t.points) p → InHull (map whole s.points) p)
      where
        abbrev aim : Fraction
        aim = middle (vertex t l) (vertex t m) (vertex t n)

        aim_inside : InOpen (vertex t l) (vertex t m) (vertex t n) aim
        aim_inside = middle-inside _ _ _ (above_if_left _ _ _ turns)

        on_way : (steps : ℕ)
            → InOpen (vertex t l) (vertex t m) (vertex t n) (nudge steps (vertex s i) aim)
        on_way steps = subst (λ x. InOpen (vertex t l) (vertex t m) (vertex t n)
            (nudge steps x aim)) (sym same) (record {
              first = nudge-least _ _ steps _ aim (zero_weak_left (bracket-first _ _))
                  aim_inside.first;
              second = nudge-least _ _ steps _ aim
                  (weak (turned-above _ _ _ (above_if_left _ _ _ turns))) aim_inside.second;
              third = nudge-least _ _ steps _ aim (zero_weak_left (bracket-second _ _))
                  aim_inside.third;
            })

        from_corner : (d e f : ℕ) → i ≡ d → IsFace s d e f
            → Germ (tiling s h) (vertex s i) aim d e f
            → HasDiskOf s t (vertex t l) (vertex t m) (vertex t n)
        from_corner d e f is_corner face begins = go (both_inside (vertex s d) (vertex s e)
            (vertex s f) (vertex t l) (vertex t m) (vertex t n) _
            (above_if_left _ _ _ (h.turning d e f face))
            (germ_goes_on s h (vertex s i) aim d e f begins) (on_way _))
          where
            go : (q : Fraction) × InOpen (vertex s d) (vertex s e) (vertex s f) q
                × InOpen (vertex t l) (vertex t m) (vertex t n) q
                → HasDiskOf s t (vertex t l) (vertex t m) (vertex t n)
            go q = disk_moves d e f face (subst (λ d. IsFace s d e f
                → HasDiskOf s t (vertex s d) (vertex s e) (vertex s f)) is_corner (known e f) face)
                q.0 q.1 q.2

        disk_at : HasDiskOf s t (vertex t l) (vertex t m) (vertex t n)
        unfolding tiling
        disk_at = go (germ T (vertex s i) aim (T.vertex_in_hull i v)
            (hull aim (triple_in_hull t g l m n corners turns aim (closed_of_inside aim_inside))))
          where
            T : Tiling
            T = tiling s h

            go : (d e f : ℕ) × IsFace s d e f × Germ T (vertex s i) aim d e f
                → HasDiskOf s t (vertex t l) (vertex t m) (vertex t n)
            go (d, e, f, face, begins) =
                pick (T.empty d e f i face v (germ-closed T (vertex s i) aim d e f begins))
              where
                pick : (i ≡ d) ⊎ ((i ≡ e) ⊎ (i ≡ f))
                    → HasDiskOf s t (vertex t l) (vertex t m) (vertex t n)
                pick (inl c) = from_corner d e f c face begins
                pick (inr (inl c)) = from_corner e f d c (T.turned d e f face)
                    (germ-turned T (vertex s i) aim d e f begins)
                pick (inr (inr c)) = from_corner f d e c (T.turned e f d (T.turned d e f face))
                    (germ-turned T (vertex s i) aim e f d
                    (germ-turned T (vertex s i) aim d e f begins))

-- a part with the hull of the whole: where the closed disk of each of its faces at a vertex is
-- known, so is that of each face of the whole there
pub part_knows_cells : PartKnowsCells
part_knows_cells s t there D E hull i v known l m n face same = go D.tiling E.tiling
  where
    go : IsTiling s → IsTiling t → HasDiskOf s t (vertex t l) (vertex t m) (vertex t n)
    go x (inr line) = absurd (no_face t line.no_face l m n face)
    go (inl h) (inl g) = disk_at s t there D h g E l m n face i v same known hull
    go (inr line) (inl g) = absurd (left_not_zero (above_if_left _ _ _ turns)
        (three_flat s line (vertex t l) (vertex t m) (vertex t n) (at l c.0) (at m c.1) (at n c.2)))
      where
        c : IsVertex t l × IsVertex t m × IsVertex t n
        c = g.corners l m n face

        turns : TurnsLeft (vertex t l) (vertex t m) (vertex t n)
        turns = g.turning l m n face

        at : (k : ℕ) → IsVertex t k → InHull (map whole s.points) (vertex t k)
        at k w = hull (vertex t k) (corner_in_hull (map whole t.points) k (whole zero_point)
            (vertex t k) (omega (arith, length-map t.points whole, w))
            (get_or-map whole t.points k zero_point (whole zero_point) w))
