-- Two closed faces that share a point share a corner.
-- Lemmas: marked_where_shared.
use Rattle.std.proofs.Common.{◌≡◌, ℕ, sym, subst}
use mathlib.Core.Logic.{◌⊎◌, inl, inr}
use Rattle.std.specs.Prelude.{pos}
use Rattle.plane.specs.{Fraction, IsFace, IsSame, TilesHull, Triangulation, vertex}
use Rattle.plane.proofs.{above, below, none, right_not_above, same-sym, Sign, sign, turned_face}
use Rattle.plane_theorems.proofs.Delaunay.Points.Bracket.{above_if_left, bracket}
use Rattle.plane_theorems.proofs.Delaunay.Points.Nudges.{Closed, closed-turned}
use Rattle.plane_theorems.proofs.{Delaunay.Segments.LineItems.same_place, Sight.Covered.covers-same}
use Rattle.plane_theorems.proofs.Delaunay.Tilings.Ground.{triangle_of_closed}
use Rattle.plane_theorems.proofs.Delaunay.Tilings.Meets.{at_first, at_second, on_side_of_closed}
use Rattle.plane_theorems.proofs.Delaunay.Tilings.Meets.{OnSide, Place, place_of, within}
use Rattle.plane_theorems.proofs.Sight.Coverings.{at_side, free_where_shared, HasBeside}
use Rattle.plane_theorems.proofs.Sight.Entered.{IsCoveredFree}

module _ (t : Triangulation) (h : TilesHull t) (Marked : ℕ → Type 0) where
  -- a face with three marked corners
  record AllMarked (i j k : ℕ) : Type 0 where
    is_face : IsFace t i j k
    first : Marked i
    second : Marked j
    third : Marked k

  face_of : (i j k : ℕ) → AllMarked i j k → IsFace t i j k
  face_of i j k m = m.is_face

  turned : (i j k : ℕ) → AllMarked i j k → AllMarked j k i
  turned i j k m = record {
    is_face = turned_face t i j k m.is_face;
    first = m.second;
    second = m.third;
    third = m.first;
  }

  -- some corner is marked
  abbrev pub AnyMarked : ℕ → ℕ → ℕ → Type 0
  AnyMarked a b c = Marked a ⊎ (Marked b ⊎ Marked c)

  any_turned : (a b c : ℕ) → AnyMarked b c a → AnyMarked a b c
  any_turned a b c (inl m) = inr (inl m)
  any_turned a b c (inr (inl m)) = inr (inr m)
  any_turned a b c (inr (inr m)) = inl m

  abbrev Covers : Fraction → Type 0
  Covers x = IsCoveredFree t h AllMarked face_of turned x

  -- a vertex of the closed face is one of its corners
  at_corner : (a : ℕ) (x : Fraction) → (b c : ℕ) → IsFace t a b c → IsSame x (vertex t a)
      → Covers x → Marked a
  at_corner a x b c f e covers = pick (h.empty o.a o.b o.c a o.is_free.is_face (h.corners a b c f).0
      (triangle_of_closed _ _ _ _ (h.turning o.a o.b o.c o.is_free.is_face) o.closed))
    where
      o : Covers (vertex t a)
      o = covers-same t h AllMarked face_of turned x (vertex t a) e covers

      pick : (a ≡ o.a) ⊎ ((a ≡ o.b) ⊎ (a ≡ o.c)) → Marked a
      pick (inl s) = subst Marked (sym s) o.is_free.first
      pick (inr (inl s)) = subst Marked (sym s) o.is_free.second
      pick (inr (inr s)) = subst Marked (sym s) o.is_free.third

  -- at a point of its first side
  on_first : (a b c : ℕ) → IsFace t a b c → (x : Fraction) → Covers x
      → OnSide (vertex t a) (vertex t b) x → AnyMarked a b c
  on_first a b c f x o s = go (place_of (vertex t a) (vertex t b) x s)
    where
      beside : HasBeside t h AllMarked face_of turned a b
          ⊎ HasBeside t h AllMarked face_of turned b a → AnyMarked a b c
      beside (inl s) = inl s.1.first
      beside (inr s) = inl s.1.second

      go : Place (vertex t a) (vertex t b) x → AnyMarked a b c
      go (at_first i) = inl (at_corner a x b c f (same-sym (vertex t a) x
          (same_place (vertex t a) x i)) o)
      go (at_second i) = inr (inl (at_corner b x c a (turned_face t a b c f)
          (same-sym (vertex t b) x (same_place (vertex t b) x i)) o))
      go (within m) = beside (at_side t h AllMarked face_of turned a b c f x m o.a o.b o.c o.is_free
          o.closed)

  any_where_shared : (a b c : ℕ) → IsFace t a b c → (x : Fraction)
      → Closed (vertex t a) (vertex t b) (vertex t c) x → Covers x → AnyMarked a b c
  any_where_shared a b c f x closed o = go (sign (bracket (vertex t a) (vertex t b) x))
      (sign (bracket (vertex t b) (vertex t c) x)) (sign (bracket (vertex t c) (vertex t a) x))
    where
      on_side : (i j k : ℕ) → IsFace t i j k → Closed (vertex t i) (vertex t j) (vertex t k) x
          → bracket (vertex t i) (vertex t j) x ≡ pos 0 → AnyMarked i j k
      on_side i j k g inside z = on_first i j k g x o (on_side_of_closed _ _ _ x
          (above_if_left _ _ _ (h.turning i j k g)) inside z)

      go : Sign (bracket (vertex t a) (vertex t b) x) → Sign (bracket (vertex t b) (vertex t c) x)
          → Sign (bracket (vertex t c) (vertex t a) x) → AnyMarked a b c
      go (below p) q r = absurd (right_not_above p closed.first)
      go p (below q) r = absurd (right_not_above q closed.second)
      go p q (below r) = absurd (right_not_above r closed.third)
      go (none p) q r = on_side a b c f closed p
      go p (none q) r = any_turned a b c
          (on_side b c a (turned_face t a b c f) (closed-turned closed) q)
      go p q (none r) = any_turned a b c (any_turned b c a (on_side c a b
          (turned_face t b c a (turned_face t a b c f)) (closed-turned (closed-turned closed)) r))
      go (above p) (above q) (above r) = inl (free_where_shared t h AllMarked face_of turned a b c
          o.a o.b o.c f o.is_free x (record { first = p; second = q; third = r }) o.closed).first

  -- a face shares a point with a face whose corners are all marked: one of its own is
  pub marked_where_shared : (a b c d e f : ℕ) → IsFace t a b c → IsFace t d e f → Marked d
      → Marked e → Marked f → (x : Fraction) → Closed (vertex t a) (vertex t b) (vertex t c) x
      → Closed (vertex t d) (vertex t e) (vertex t f) x → AnyMarked a b c
  marked_where_shared a b c d e f g g' i j k x closed closed' =
      any_where_shared a b c g x closed (record {
        a = d;
        b = e;
        c = f;
        is_free = record { is_face = g'; first = i; second = j; third = k };
        closed = closed';
      })
