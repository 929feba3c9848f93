-- A triple of a part that knows its disk, moved into the whole.
-- Lemmas: part_face_is_seen, part_faces_tie.
use Rattle.std.proofs.Common.{◌≡◌, ℕ, List, sym, ◌∙◌, ap, subst}
use mathlib.Core.Path.{subst₃}
use mathlib.Core.Logic.{◌⊎◌, inl, inr}
use Rattle.std.specs.Prelude.{◌≢◌, pos}
use Rattle.plane.specs.{AreEquallyFar, Fraction, InsideCircle, InsideTriangle, IsSeen, IsTiling}
use Rattle.plane.specs.{IsVertex, Joins, OnCircle, OnSegment, TilesHull, Triangulation, TurnsLeft}
use Rattle.{plane.proofs.centre, plane.proofs.Centre.centre_is_centre, plane.specs.vertex}
use Rattle.plane_theorems.specs.{HaveOneCircle, IsPartOfPlane, IsVisiblyEmpty}
use Rattle.plane_theorems.specs.Delaunay.Cells.{HasFaceAt, HasVertexAt}
use Rattle.plane_theorems.specs.Parts.Parts.{KnowsDisk, PartFaceIsSeen, PartFacesTie}
use Rattle.plane_theorems.proofs.Delaunay.Circles.EmptyCircles.{circle_lift, face_open}
use Rattle.plane_theorems.proofs.Delaunay.Circles.EmptyCircles.{IsOpenTriple, no_face, OneCircle}
use Rattle.plane_theorems.proofs.Delaunay.Circles.EmptyCircles.{overlapping, spot, straight_line}
use Rattle.plane_theorems.proofs.Delaunay.Circles.EmptyCircles.{visibly_empty_is_face}
use Rattle.plane_theorems.proofs.{Delaunay.Circles.History.distinct, Delaunay.Points.Nudges.InOpen}
use Rattle.plane_theorems.proofs.Delaunay.Circles.Lift.{far_if_none, lift}
use Rattle.plane_theorems.proofs.Delaunay.Tilings.Ground.{inside_of, triangle_of_inside}

module _ (s t : Triangulation) (d c : List (ℕ × ℕ)) (there : IsPartOfPlane s d t c) where
  -- what is seen past all constraints of the whole is seen past those of the part
  seen_back : (u v w p : Fraction) → IsSeen t c u v w p → IsSeen s d u v w p
  seen_back u v w p e = record {
    from = e.from;
    inside = e.inside;
    free = λ i j h y k l. let m = there.covered i j h y l in e.free m.0 m.1 m.2 y k m.3;
  }

  module _ (i j k : ℕ) (hi : IsVertex s i) (hj : IsVertex s j) (hk : IsVertex s k)
      (known : KnowsDisk s d t c (vertex s i) (vertex s j) (vertex s k))
      (left : TurnsLeft (vertex s i) (vertex s j) (vertex s k))
      (unentered : (p : Fraction) → InsideTriangle (vertex s i) (vertex s j) (vertex s k) p
      → (m n : ℕ) → Joins d m n → ¬ OnSegment (vertex s m) (vertex s n) p) where
    abbrev x : HasVertexAt t (vertex s i)
    x = there.vertices i hi

    abbrev y : HasVertexAt t (vertex s j)
    y = there.vertices j hj

    abbrev z : HasVertexAt t (vertex s k)
    z = there.vertices k hk

    moved_turns : TurnsLeft (vertex t x.0) (vertex t y.0) (vertex t z.0)
    moved_turns = subst₃ TurnsLeft x.2 y.2 z.2 left

    -- what is said of the corners in the whole is said of those in the part
    back : (C : Fraction → Fraction → Fraction → Type 0)
        → C (vertex t x.0) (vertex t y.0) (vertex t z.0)
        → C (vertex s i) (vertex s j) (vertex s k)
    back C u = subst₃ C (sym x.2) (sym y.2) (sym z.2) u

    -- no constraint of the whole enters the triple
    moved_unentered : (p : Fraction)
        → InsideTriangle (vertex t x.0) (vertex t y.0) (vertex t z.0) p
        → (m n : ℕ) → Joins c m n → ¬ OnSegment (vertex t m) (vertex t n) p
    moved_unentered p a m n h l =
        let q = back (λ u v w. InsideTriangle u v w p) a in
        let r = known.entering p q m n h l in
        unentered p q r.0 r.1 r.2 r.3

    -- ---- a triple that is alone among what is seen
    module _ (h : TilesHull t) (alone : (n : ℕ) → IsVertex s n → n ≢ i → n ≢ j → n ≢ k
        → IsSeen s d (vertex s i) (vertex s j) (vertex s k) (vertex s n)
        → (¬ InsideCircle (vertex s i) (vertex s j) (vertex s k) (vertex s n))
        × (¬ OnCircle (vertex s i) (vertex s j) (vertex s k) (vertex s n))) where
      refuse : (n : ℕ) → IsVertex t n → n ≢ x.0 → n ≢ y.0 → n ≢ z.0
          → IsSeen t c (vertex s i) (vertex s j) (vertex s k) (vertex t n)
          → InsideCircle (vertex s i) (vertex s j) (vertex s k) (vertex t n)
          ⊎ OnCircle (vertex s i) (vertex s j) (vertex s k) (vertex t n) → ⊥
      refuse n v p q r seen u = go u
        where
          m : HasVertexAt s (vertex t n)
          m = known.seen n v seen u

          other : (e : ℕ) (w : HasVertexAt t (vertex s e)) → n ≢ w.0
              → m.0 ≢ e
          other e w differs same = differs
              (distinct t h n w.0 v w.1 (m.2 ∙ ap (vertex s) same ∙ w.2))

          clear : (¬ InsideCircle (vertex s i) (vertex s j) (vertex s k) (vertex s m.0))
              × (¬ OnCircle (vertex s i) (vertex s j) (vertex s k) (vertex s m.0))
          clear = alone m.0 m.1 (other i x p) (other j y q) (other k z r)
              (subst (IsSeen s d (vertex s i) (vertex s j) (vertex s k)) m.2
              (seen_back (vertex s i) (vertex s j) (vertex s k) (vertex t n) seen))

          go : InsideCircle (vertex s i) (vertex s j) (vertex s k) (vertex t n)
              ⊎ OnCircle (vertex s i) (vertex s j) (vertex s k) (vertex t n) → ⊥
          go (inl u) = clear.0
              (subst (InsideCircle (vertex s i) (vertex s j) (vertex s k)) m.2 u)
          go (inr u) = clear.1 (subst (OnCircle (vertex s i) (vertex s j) (vertex s k)) m.2 u)

      moved_alone : IsVisiblyEmpty t c x.0 y.0 z.0
      moved_alone = record {
        corners = (x.1, y.1, z.1);
        turns = moved_turns;
        unentered = moved_unentered;
        clear = λ n v p q r seen.
            let sees = back (λ e f g. IsSeen t c e f g (vertex t n)) seen in (
              λ u. refuse n v p q r sees (inl (back (λ e f g. InsideCircle e f g (vertex t n)) u)),
              λ u. refuse n v p q r sees (inr (back (λ e f g. OnCircle e f g (vertex t n)) u)),
            );
      }

    -- ---- a face of the part
    module _ (empty : (n : ℕ) → IsVertex s n
        → IsSeen s d (vertex s i) (vertex s j) (vertex s k) (vertex s n)
        → ¬ InsideCircle (vertex s i) (vertex s j) (vertex s k) (vertex s n)) where
      moved_open : IsOpenTriple t c x.0 y.0 z.0
      moved_open = record {
        corners = (x.1, y.1, z.1);
        turns = moved_turns;
        unentered = λ p a. moved_unentered p (triangle_of_inside _ _ _ p moved_turns a);
        outside = λ n v seen. circle_lift t x.0 y.0 z.0 n moved_turns (outside n v
            (back (λ e f g. IsSeen t c e f g (vertex t n)) seen));
      }
        where
          outside : (n : ℕ) → IsVertex t n
              → IsSeen t c (vertex s i) (vertex s j) (vertex s k) (vertex t n)
              → ¬ InsideCircle (vertex t x.0) (vertex t y.0) (vertex t z.0) (vertex t n)
          outside n v seen u =
              let inside = back (λ e f g. InsideCircle e f g (vertex t n)) u in
              let m = known.seen n v seen (inl inside) in
              empty m.0 m.1 (subst (IsSeen s d (vertex s i) (vertex s j) (vertex s k)) m.2
              (seen_back (vertex s i) (vertex s j) (vertex s k) (vertex t n) seen))
              (subst (InsideCircle (vertex s i) (vertex s j) (vertex s k)) m.2 inside)

-- a visibly empty triple of a part that knows its disk is a face of the whole
pub part_face_is_seen : PartFaceIsSeen
part_face_is_seen s t d c there E i j k alone known = go E.tiling
  where
    x : HasVertexAt t (vertex s i)
    x = there.vertices i alone.corners.0

    y : HasVertexAt t (vertex s j)
    y = there.vertices j alone.corners.1

    z : HasVertexAt t (vertex s k)
    z = there.vertices k alone.corners.2

    go : IsTiling t → HasFaceAt t (vertex s i) (vertex s j) (vertex s k)
    go (inr l) = absurd (straight_line t l x.0 y.0 z.0 x.1 y.1 z.1
        (subst₃ TurnsLeft x.2 y.2 z.2 alone.turns))
    go (inl h) = (
      x.0,
      y.0,
      z.0,
      visibly_empty_is_face t c x.0 y.0 z.0 (moved_alone s t d c there i j k alone.corners.0
          alone.corners.1 alone.corners.2 known alone.turns alone.unentered h alone.clear) E,
      x.2,
      y.2,
      z.2,
    )

-- two open triples of the whole that overlap have one circle
one_circle : (t : Triangulation) (a b e l m n : ℕ)
    → TurnsLeft (vertex t a) (vertex t b) (vertex t e)
    → OneCircle (vertex t a) (vertex t b) (vertex t e) (vertex t l) (vertex t m) (vertex t n)
    → HaveOneCircle (vertex t a) (vertex t b) (vertex t e) (vertex t l) (vertex t m) (vertex t n)
one_circle t a b e l m n turns one = record {
  centre = centre (spot t a) (spot t b) (spot t e) turns;
  of_first = centre_is_centre (spot t a) (spot t b) (spot t e) turns;
  of_second = record {
    first = record { far = (at l one.fourth).far ∙ sym (at m one.fifth).far };
    second = record { far = (at m one.fifth).far ∙ sym (at n one.sixth).far };
  };
  far = record { far = sym (at l one.fourth).far };
}
  where
    at : (x : ℕ) → lift (vertex t a) (vertex t b) (vertex t e) (vertex t x) ≡ pos 0
        → AreEquallyFar (centre (spot t a) (spot t b) (spot t e) turns) (vertex t x) (vertex t a)
    at x z = far_if_none (spot t a) (spot t b) (spot t e) (spot t x) turns z

-- where a face of a part that knows its disk and a face of the whole overlap, they have one circle
pub part_faces_tie : PartFacesTie
part_faces_tie s t d c there D E i j k l m n q f known g in_f in_g = go D.tiling E.tiling
  where
    go : IsTiling s → IsTiling t → HaveOneCircle (vertex s i) (vertex s j) (vertex s k)
        (vertex t l) (vertex t m) (vertex t n)
    go (inr e) _ = absurd (no_face s e.no_face i j k f)
    go (inl _) (inr e) = absurd (no_face t e.no_face l m n g)
    go (inl h) (inl h') =
        subst₃ (λ u v w. HaveOneCircle u v w (vertex t l) (vertex t m) (vertex t n)) (sym x.2)
        (sym y.2) (sym z.2) (one_circle t x.0 y.0 z.0 l m n o.turns (overlapping t c x.0 y.0 z.0
        l m n q o (face_open t c h' E l m n g) (subst₃ (λ u v w. InOpen u v w q) x.2 y.2 z.2
        (inside_of _ _ _ q turns in_f)) (inside_of _ _ _ q (h'.turning l m n g) in_g)))
      where
        v : IsVertex s i × IsVertex s j × IsVertex s k
        v = h.corners i j k f

        turns : TurnsLeft (vertex s i) (vertex s j) (vertex s k)
        turns = h.turning i j k f

        x : HasVertexAt t (vertex s i)
        x = there.vertices i v.0

        y : HasVertexAt t (vertex s j)
        y = there.vertices j v.1

        z : HasVertexAt t (vertex s k)
        z = there.vertices k v.2

        o : IsOpenTriple t c x.0 y.0 z.0
        o = moved_open s t d c there i j k v.0 v.1 v.2 known turns
            (λ p a. (face_open s d h D i j k f).unentered p (inside_of _ _ _ p turns a))
            (λ e w seen. D.empty i j k e f w seen)
