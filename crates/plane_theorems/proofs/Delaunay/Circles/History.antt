-- Two constrained Delaunay triangulations of one plain state: the same faces by position, where no
-- circle carries a fourth vertex; and where two faces overlap, one circle.
-- Lemmas: distinct, faces_are_unique, overlapping_faces_tie, history_free.
use Rattle.std.proofs.Common.{◌≡◌, ℕ, List, sym, ◌∙◌, ap, subst}
use mathlib.Core.Path.{subst₂, subst₃}
use mathlib.Core.Logic.{inl, inr}
use Rattle.std.specs.Prelude.{◌≢◌, pos, ◌≤ℤ◌}
use Rattle.plane.specs.{AreEquallyFar, Fraction, InsideCorners, IsConstrainedDelaunay, IsFace}
use Rattle.plane.specs.{IsSeen, IsTiling, IsVertex, Joins, OnCircle, OnSegment, TilesHull}
use Rattle.plane.specs.{Triangulation, TurnsLeft, vertex}
use Rattle.plane.proofs.{centre, Centre.centre_is_centre, left_not_below}
use Rattle.plane_theorems.specs.{HaveOneCircle, IsHistoryFree, IsVisiblyEmpty}
use Rattle.plane_theorems.specs.Delaunay.History.{AreOneState, HasFacesOf, IsPartOf, NoFourOnCircle}
use Rattle.plane_theorems.proofs.Delaunay.Circles.EmptyCircles.{face_open, IsOpenTriple, no_face}
use Rattle.plane_theorems.proofs.Delaunay.Circles.EmptyCircles.{OneCircle, overlapping, spot}
use Rattle.plane_theorems.proofs.Delaunay.Circles.EmptyCircles.{straight_line}
use Rattle.plane_theorems.proofs.Delaunay.Circles.EmptyCircles.{visibly_empty_is_face}
use Rattle.plane_theorems.proofs.Delaunay.Circles.Lift.{far_if_none, inside_is_lift, lift}
use Rattle.plane_theorems.proofs.{Delaunay.Points.Bracket.bracket, Delaunay.Points.Nudges.InOpen}
use Rattle.plane_theorems.proofs.Delaunay.Tilings.Ground.{inside_of, tiling}
use Rattle.plane_theorems.proofs.Delaunay.Tilings.Where.{vertices_apart}

-- no constraint enters the triple u v w of points, and no vertex that is seen from inside it is
-- inside its circle
record IsOpenAt (t : Triangulation) (constraints : List (ℕ × ℕ)) (u v w : Fraction) : Type 0 where
  turns : TurnsLeft u v w
  unentered : (p : Fraction) → InOpen u v w p → (m n : ℕ) → Joins constraints m n
      → ¬ OnSegment (vertex t m) (vertex t n) p
  outside : (n : ℕ) → IsVertex t n → IsSeen t constraints u v w (vertex t n)
      → lift u v w (vertex t n) ≤ℤ pos 0

open_at : (t : Triangulation) (constraints : List (ℕ × ℕ)) (i j k : ℕ)
    → IsOpenTriple t constraints i j k
    → IsOpenAt t constraints (vertex t i) (vertex t j) (vertex t k)
open_at t constraints i j k o =
    record { turns = o.turns; unentered = o.unentered; outside = o.outside }

module _ (s t : Triangulation) (d c : List (ℕ × ℕ)) (there : IsPartOf s d t c) where
  -- what is seen past all constraints of t is seen past those of s
  seen_back : (u v w p : Fraction) → IsSeen t c u v w p → IsSeen s d u v w p
  seen_back u v w p e = record {
    from = e.from;
    inside = e.inside;
    free = λ i j h y k l. let m = there.pairs i j h in
        e.free m.0 m.1 m.2 y k (subst₂ (λ a b. OnSegment a b y) m.3 m.4 l);
  }

  module _ (back : IsPartOf t c s d) where
    open_there : (u v w : Fraction) → IsOpenAt s d u v w → IsOpenAt t c u v w
    open_there u v w o = record {
      turns = o.turns;
      unentered = λ p i m n h l. let r = back.pairs m n h in
          o.unentered p i r.0 r.1 r.2 (subst₂ (λ a b. OnSegment a b p) r.3 r.4 l);
      outside = λ n hn e. let m = back.vertices n hn in
          subst (λ x. lift u v w x ≤ℤ pos 0) (sym m.2) (o.outside m.0 m.1
          (subst (λ x. IsSeen s d u v w x) m.2 (seen_back u v w (vertex t n) e)));
    }

    -- the corners in t of a face of s
    record Moved (i j k : ℕ) : Type 0 where
      l : ℕ
      m : ℕ
      n : ℕ
      first : vertex s i ≡ vertex t l
      second : vertex s j ≡ vertex t m
      third : vertex s k ≡ vertex t n
      is_open : IsOpenTriple t c l m n

    moved : (h : TilesHull s) → IsConstrainedDelaunay s d → (i j k : ℕ)
        → IsFace s i j k → Moved i j k
    moved h D i j k f = record {
      l = a.0;
      m = b.0;
      n = e.0;
      first = a.2;
      second = b.2;
      third = e.2;
      is_open = record {
        corners = (a.1, b.1, e.1);
        turns = o.turns;
        unentered = o.unentered;
        outside = o.outside;
      };
    }
      where
        v : IsVertex s i × IsVertex s j × IsVertex s k
        v = h.corners i j k f

        a : (m : ℕ) × IsVertex t m × (vertex s i ≡ vertex t m)
        a = there.vertices i v.0

        b : (m : ℕ) × IsVertex t m × (vertex s j ≡ vertex t m)
        b = there.vertices j v.1

        e : (m : ℕ) × IsVertex t m × (vertex s k ≡ vertex t m)
        e = there.vertices k v.2

        o : IsOpenAt t c (vertex t a.0) (vertex t b.0) (vertex t e.0)
        o = subst₃ (λ u v w. IsOpenAt t c u v w) a.2 b.2 e.2 (open_there (vertex s i) (vertex s j)
            (vertex s k) (open_at s d i j k (face_open s d h D i j k f)))

    -- ---- no four on one circle: one list of faces
    faces_there : NoFourOnCircle t → IsConstrainedDelaunay s d → IsConstrainedDelaunay t c
        → HasFacesOf t s
    faces_there general D E i j k f = go D.tiling
      where
        go : IsTiling s → (l m n : ℕ) × IsFace t l m n × (vertex s i ≡ vertex t l)
            × (vertex s j ≡ vertex t m) × (vertex s k ≡ vertex t n)
        go (inr l) = absurd (no_face s l.no_face i j k f)
        go (inl h) = let r = moved h D i j k f in (
          r.l,
          r.m,
          r.n,
          visibly_empty_is_face t c r.l r.m r.n (empty r.l r.m r.n r.is_open) E,
          r.first,
          r.second,
          r.third,
        )
          where
            empty : (l m n : ℕ) → IsOpenTriple t c l m n → IsVisiblyEmpty t c l m n
            empty l m n o = record {
              corners = o.corners;
              turns = o.turns;
              unentered = λ p a. o.unentered p (inside_of _ _ _ p o.turns a);
              clear = λ q hq x y z seen. (
                λ b. left_not_below
                    ((inside_is_lift (spot t l) (spot t m) (spot t n) (spot t q) o.turns).0 b)
                    (o.outside q hq seen),
                general l m n q o.corners.0 o.corners.1 o.corners.2 hq o.turns x y z,
              );
            }

    -- ---- at ties: one circle
    faces_tie : IsConstrainedDelaunay s d → IsConstrainedDelaunay t c
        → (i j k l m n : ℕ) (q : Fraction) → IsFace s i j k → IsFace t l m n
        → InsideCorners s i j k q → InsideCorners t l m n q → HaveOneCircle (vertex s i)
        (vertex s j) (vertex s k) (vertex t l) (vertex t m) (vertex t n)
    faces_tie D E i j k l m n q f g in_f in_g = go D.tiling E.tiling
      where
        go : IsTiling s → IsTiling t → HaveOneCircle (vertex s i) (vertex s j) (vertex s k)
            (vertex t l) (vertex t m) (vertex t n)
        go (inr e) y = absurd (no_face s e.no_face i j k f)
        go (inl h) (inr e) = absurd (no_face t e.no_face l m n g)
        go (inl h) (inl h') =
            subst₃ (λ u v w. HaveOneCircle u v w (vertex t l) (vertex t m) (vertex t n))
            (sym r.first) (sym r.second) (sym r.third) (one_circle r.l r.m r.n l m n r.is_open.turns
            (overlapping t c r.l r.m r.n l m n q r.is_open (face_open t c h' E l m n g)
            (subst₃ (λ u v w. InOpen u v w q) r.first r.second r.third (inside_of _ _ _ q
            (h.turning i j k f) in_f)) (inside_of _ _ _ q (h'.turning l m n g) in_g)))
          where
            r : Moved i j k
            r = moved h D i j k f

            one_circle : (a b e l m n : ℕ) → TurnsLeft (vertex t a) (vertex t b) (vertex t e)
                → OneCircle (vertex t a) (vertex t b) (vertex t e) (vertex t l) (vertex t m)
                (vertex t n) → HaveOneCircle (vertex t a) (vertex t b) (vertex t e) (vertex t l)
                (vertex t m) (vertex t n)
            one_circle a b e l m n turns one = record {
              centre = centre (spot t a) (spot t b) (spot t e) turns;
              of_first = centre_is_centre (spot t a) (spot t b) (spot t e) turns;
              of_second = record {
                first = record { far = (at l one.fourth).far ∙ sym (at m one.fifth).far };
                second = record { far = (at m one.fifth).far ∙ sym (at n one.sixth).far };
              };
              far = record { far = sym (at l one.fourth).far };
            }
              where
                at : (x : ℕ) → lift (vertex t a) (vertex t b) (vertex t e) (vertex t x) ≡ pos 0
                    → AreEquallyFar (centre (spot t a) (spot t b) (spot t e) turns)
                    (vertex t x) (vertex t a)
                at x z = far_if_none (spot t a) (spot t b) (spot t e) (spot t x) turns z

-- ---- positions differ, so that no four on one circle is a matter of positions
pub distinct : (t : Triangulation) (h : TilesHull t) (i j : ℕ) → IsVertex t i → IsVertex t j
    → vertex t i ≡ vertex t j → i ≡ j
unfolding tiling
distinct t h i j hi hj e = vertices_apart (tiling t h) i j hi hj (λ s u. ap (λ x. bracket s u x) e)

no_four_there : (s t : Triangulation) (d c : List (ℕ × ℕ)) → IsPartOf t c s d → IsTiling t
    → NoFourOnCircle s → NoFourOnCircle t
no_four_there s t d c back (inr l) general i j k n hi hj hk hn turns x y z on =
    absurd (straight_line t l i j k hi hj hk turns)
no_four_there s t d c back (inl h) general i j k n hi hj hk hn turns x y z on =
    general (at i hi).0 (at j hj).0 (at k hk).0 (at n hn).0 (at i hi).1 (at j hj).1
    (at k hk).1 (at n hn).1
    (subst₃ (λ u v w. TurnsLeft u v w) (at i hi).2 (at j hj).2 (at k hk).2 turns) (other i hi x)
    (other j hj y) (other k hk z)
    (subst₂ (λ w q. OnCircle (vertex s (at i hi).0) (vertex s (at j hj).0) w q) (at k hk).2 (at n
    hn).2 (subst₂ (λ u v. OnCircle u v (vertex t k) (vertex t n)) (at i hi).2 (at j hj).2 on))
  where
    at : (i : ℕ) → IsVertex t i → (m : ℕ) × IsVertex s m × (vertex t i ≡ vertex s m)
    at = back.vertices

    other : (i : ℕ) (hi : IsVertex t i) → n ≢ i → (at n hn).0 ≢ (at i hi).0
    other i hi x e =
        x (distinct t h n i hn hi ((at n hn).2 ∙ ap (λ m. vertex s m) e ∙ sym (at i hi).2))

-- constrained Delaunay triangulations of one plain state, no four points on a circle, have the same
-- faces
pub faces_are_unique : (s t : Triangulation) (d c : List (ℕ × ℕ)) → AreOneState s d t c
    → IsConstrainedDelaunay s d → IsConstrainedDelaunay t c → NoFourOnCircle s
    → HasFacesOf t s × HasFacesOf s t
faces_are_unique s t d c same D E general = (
  faces_there s t d c same.0 same.1 (no_four_there s t d c same.1 E.tiling general) D E,
  faces_there t s c d same.1 same.0 general E D,
)

-- where a face of one and a face of the other overlap, they have one circle
pub overlapping_faces_tie : (s t : Triangulation) (d c : List (ℕ × ℕ)) → AreOneState s d t c
    → IsConstrainedDelaunay s d → IsConstrainedDelaunay t c → (i j k l m n : ℕ) (q : Fraction)
    → IsFace s i j k → IsFace t l m n → InsideCorners s i j k q → InsideCorners t l m n q
    → HaveOneCircle (vertex s i) (vertex s j) (vertex s k) (vertex t l) (vertex t m) (vertex t n)
overlapping_faces_tie s t d c same D E = faces_tie s t d c same.0 same.1 D E

-- a constrained Delaunay triangulation is history-free
pub history_free : (t : Triangulation) (c : List (ℕ × ℕ)) → IsConstrainedDelaunay t c
    → IsHistoryFree t c
history_free t c D = record {
  visible = λ i j k s. visibly_empty_is_face t c i j k s D;
  unique = λ s d same E general. faces_are_unique t s c d same D E general;
  tied = λ s d same E. overlapping_faces_tie t s c d same D E;
}
