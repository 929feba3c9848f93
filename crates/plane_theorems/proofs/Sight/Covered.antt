-- The points of a segment are in closed free faces exactly if its ends are and the faces at the
-- items that it meets are free.
-- Notions: IsCovers; edge_differs, covers-same, covered_along, beside_either, items_are_free.
use Rattle.std.proofs.Common.{◌≡◌, ◌<◌, ℕ, suc, arith, sym, ◌∙◌, subst}
use mathlib.Core.Logic.{◌⊎◌, inl, inr}
use Rattle.std.specs.Prelude.{pos, ◌<ℤ◌, ◌≤ℤ◌, sum_by}
use Rattle.plane.specs.{Fraction, HasFace, IsEdge, IsFace, IsSame, OnSegment, OverlapAlong}
use Rattle.plane.specs.{TilesHull, Triangulation, vertex}
use Rattle.plane.proofs.{end_on_segment, left_not_zero, mul-nonneg_ℤ, negated_left, negated_right}
use Rattle.plane.proofs.{nonneg_of_mul-nonneg_ℤ, right_not_above, same-sym, start_on_segment}
use Rattle.plane.proofs.{turned_face, weak, zero_or_left, zero_weak_left}
use Rattle.plane_theorems.proofs.{Delaunay.Floods.Flooded.segment_from, Delaunay.Points.Nudges.size}
use Rattle.plane_theorems.proofs.Delaunay.Points.Bracket.{above_if_left, bracket, bracket-second}
use Rattle.plane_theorems.proofs.Delaunay.Points.Bracket.{bracket-swapped, bracket-turned}
use Rattle.plane_theorems.proofs.Delaunay.Points.Members.{member-le-sum_by}
use Rattle.plane_theorems.proofs.Delaunay.Points.Nudges.{bracket-nudge, Closed, closed-turned}
use Rattle.plane_theorems.proofs.Delaunay.Points.Nudges.{germ_sign, nudge, nudge-above, nudge-on}
use Rattle.plane_theorems.proofs.Delaunay.Segments.LineItems.{between_of}
use Rattle.plane_theorems.proofs.Delaunay.Tilings.Faces.{Between, between-on, between-swapped}
use Rattle.plane_theorems.proofs.Delaunay.Tilings.Generic.{same_bracket}
use Rattle.plane_theorems.proofs.Delaunay.Tilings.Ground.{side_listed, sides_of, tiling}
use Rattle.plane_theorems.proofs.Delaunay.Tilings.Meets.{on_side-closed, on_side-swapped}
use Rattle.plane_theorems.proofs.Delaunay.Tilings.Meets.{on_side_of_closed, OnSide}
use Rattle.plane_theorems.proofs.Delaunay.Tilings.Where.{IsCovered}
use Rattle.plane_theorems.proofs.Segments.Items.Begins.{above-same, edge_flipped}
use Rattle.plane_theorems.proofs.Sight.Coverings.{at_side, covered_between, HasBeside, nudge_back}
use Rattle.plane_theorems.proofs.Sight.Coverings.{nudge_between, nudge_on_segment}
use Rattle.plane_theorems.proofs.Sight.Entered.{entered_is_free, FreeAtItems, IsCoveredFree}
use Rattle.plane_theorems.proofs.Sight.SharedPoints.{decide_same, middle_within, nudge_moves}
use Rattle.plane_theorems.proofs.Sight.SharedPoints.{overlap_either}

-- ---- points of a side
segment_of_side : (a b x : Fraction) → OnSide a b x → OnSegment a b x
segment_of_side a b x o = segment_from o.n o.k o.l a b x o.n_above o.k_least o.l_least o.along

least-same : (u v y x : Fraction) → IsSame y x → pos 0 ≤ℤ bracket u v y → pos 0 ≤ℤ bracket u v x
least-same u v y x e h = nonneg_of_mul-nonneg_ℤ {k = y.w} {x = bracket u v x} y.positive
    (subst (λ s. pos 0 ≤ℤ s) (same_bracket u v y x e)
    (mul-nonneg_ℤ {a = x.w} {b = bracket u v y} (weak x.positive) h))

-- three points that turn left: the first two differ
turning_differ : (a b c : Fraction) → pos 0 <ℤ bracket a b c → ¬ IsSame a b
turning_differ a b c turns e = left_not_zero
    (above-same c a b a (same-sym a b e) (subst (λ s. pos 0 <ℤ s) (bracket-turned c a b) turns))
    (bracket-second c a)

module _ (t : Triangulation) (h : TilesHull t) where
  -- an edge joins different points
  pub edge_differs : (a b : ℕ) → IsEdge t a b → ¬ IsSame (vertex t a) (vertex t b)
  edge_differs a b e = go ((h.sides a b).0 e)
    where
      go : HasFace t a b ⊎ HasFace t b a → ¬ IsSame (vertex t a) (vertex t b)
      go (inl f) = turning_differ (vertex t a) (vertex t b) (vertex t f.0)
          (above_if_left _ _ _ (h.turning a b f.0 f.1))
      go (inr f) = λ e. turning_differ (vertex t b) (vertex t a) (vertex t f.0)
          (above_if_left _ _ _ (h.turning b a f.0 f.1)) (same-sym (vertex t a) (vertex t b) e)

  -- how far a point is from the sides of all faces, at most
  abbrev side_size : Fraction → ℕ × ℕ → ℕ
  side_size g s = size (bracket (vertex t s.0) (vertex t s.1) g)

  abbrev enough : Fraction → ℕ
  enough g = suc (sum_by (side_size g) (sides_of t.faces))

  below_enough : (g : Fraction) (i j k : ℕ) → IsFace t i j k
      → size (bracket (vertex t i) (vertex t j) g) < enough g
  below_enough g i j k f =
      omega (
        arith,
        member-le-sum_by (side_size g) (i, j) (sides_of t.faces)
            (side_listed t h i j k f),
      )

  -- where a way to g begins: left of a side, or on it and not going to its right
  abbrev StartsAt : (x g u v : Fraction) → Type 0
  StartsAt x g u v = (pos 0 <ℤ bracket u v x) ⊎ ((bracket u v x ≡ pos 0) × (pos 0 ≤ℤ bracket u v g))

  starts : (x g : Fraction) (i j k : ℕ) → IsFace t i j k
      → pos 0 ≤ℤ bracket (vertex t i) (vertex t j) (nudge (enough g) x g)
      → StartsAt x g (vertex t i) (vertex t j)
  starts x g i j k f c = germ_sign (enough g) (bracket (vertex t i) (vertex t j) x)
      (bracket (vertex t i) (vertex t j) g) (below_enough g i j k f)
      (subst (λ s. pos 0 ≤ℤ s) (bracket-nudge (vertex t i) (vertex t j) (enough g) x g) c)

  least_at : (x g u v : Fraction) → StartsAt x g u v → pos 0 ≤ℤ bracket u v x
  least_at x g u v (inl s) = weak s
  least_at x g u v (inr s) = zero_weak_left s.0

  -- the closed face of a point near x is a closed face of x
  closed_near : (x g : Fraction) (i j k : ℕ) → IsFace t i j k
      → Closed (vertex t i) (vertex t j) (vertex t k) (nudge (enough g) x g)
      → Closed (vertex t i) (vertex t j) (vertex t k) x
  closed_near x g i j k f c = record {
    first = least_at x g (vertex t i) (vertex t j) (starts x g i j k f c.first);
    second = least_at x g (vertex t j) (vertex t k)
        (starts x g j k i (turned_face t i j k f) c.second);
    third = least_at x g (vertex t k) (vertex t i)
        (starts x g k i j (turned_face t j k i (turned_face t i j k f)) c.third);
  }

  -- a point near x is left of the line u v, or the way runs along it
  abbrev LeftOrAlong : (x g u v : Fraction) → Type 0
  LeftOrAlong x g u v = (pos 0 <ℤ bracket u v (nudge (enough g) x g))
      ⊎ ((bracket u v x ≡ pos 0) × (bracket u v g ≡ pos 0))

  left_or_along : (x g : Fraction) (i j k : ℕ) → IsFace t i j k
      → StartsAt x g (vertex t i) (vertex t j) → LeftOrAlong x g (vertex t i) (vertex t j)
  left_or_along x g i j k f (inl s) =
      inl (nudge-above (vertex t i) (vertex t j) (enough g) x g s (below_enough g i j k f))
  left_or_along x g i j k f (inr s) = go (zero_or_left s.1)
    where
      go : (bracket (vertex t i) (vertex t j) g ≡ pos 0)
          ⊎ (pos 0 <ℤ bracket (vertex t i) (vertex t j) g)
          → LeftOrAlong x g (vertex t i) (vertex t j)
      go (inl e) = inr (s.0, e)
      go (inr l) = inl (subst (λ z. pos 0 <ℤ z)
          (sym (nudge-on (vertex t i) (vertex t j) (enough g) x g s.0)) l)

  module _ (Free : ℕ → ℕ → ℕ → Type 0) (is_face : (i j k : ℕ) → Free i j k → IsFace t i j k)
      (turned : (i j k : ℕ) → Free i j k → Free j k i) where
    abbrev pub IsCovers : Fraction → Type 0
    IsCovers x = IsCoveredFree t h Free is_face turned x

    abbrev Beside : ℕ → ℕ → Type 0
    Beside a b = HasBeside t h Free is_face turned a b

    -- a point where a covered one is
    pub covers-same : (y x : Fraction) → IsSame y x → IsCovers y → IsCovers x
    covers-same y x e o = record {
      a = o.a;
      b = o.b;
      c = o.c;
      is_free = o.is_free;
      closed = record {
        first = least-same (vertex t o.a) (vertex t o.b) y x e o.closed.first;
        second = least-same (vertex t o.b) (vertex t o.c) y x e o.closed.second;
        third = least-same (vertex t o.c) (vertex t o.a) y x e o.closed.third;
      };
    }

    -- ---- from the items to the points
    module _ (p q : Fraction) (apart : ¬ IsSame p q)
        (items : FreeAtItems t h Free is_face turned p q) (r : Fraction) (on : OnSegment p q r)
        (before : ¬ IsSame r q) where
      abbrev z : Fraction
      z = nudge (enough q) r q

      -- z is on the segment
      z_on : OnSegment p q z
      z_on = nudge_on_segment p q r (enough q) on

      -- along the side from a to b
      along_side : (a b c : ℕ) → IsFace t a b c → Closed (vertex t a) (vertex t b) (vertex t c) r
          → Closed (vertex t a) (vertex t b) (vertex t c) z
          → bracket (vertex t a) (vertex t b) r ≡ pos 0
          → bracket (vertex t a) (vertex t b) q ≡ pos 0 → IsCovers r
      along_side a b c f closed_r closed_z er eq =
          go (overlap_either p q (vertex t a) (vertex t b) apart
          (edge_differs a b ((h.sides a b).1 (inl (c, f)))) r z on z_on
          (segment_of_side (vertex t a) (vertex t b) r side_r)
          (segment_of_side (vertex t a) (vertex t b) z (on_side_of_closed (vertex t a) (vertex t b)
          (vertex t c) z turns closed_z
          (nudge-on (vertex t a) (vertex t b) (enough q) r q er ∙ eq)))
          (λ e. before (nudge_moves (enough q) r q e)))
        where
          turns : pos 0 <ℤ bracket (vertex t a) (vertex t b) (vertex t c)
          turns = above_if_left _ _ _ (h.turning a b c f)

          side_r : OnSide (vertex t a) (vertex t b) r
          side_r = on_side_of_closed (vertex t a) (vertex t b) (vertex t c) r turns closed_r er

          covers : (u v : ℕ) → Beside u v → OnSide (vertex t u) (vertex t v) r → IsCovers r
          covers u v s o = record {
            a = u;
            b = v;
            c = s.0;
            is_free = s.1;
            closed = on_side-closed (vertex t u) (vertex t v) (vertex t s.0) r o
                (above_if_left _ _ _ (h.turning u v s.0 (is_face u v s.0 s.1)));
          }

          either : Beside a b ⊎ Beside b a → IsCovers r
          either (inl s) = covers a b s side_r
          either (inr s) = covers b a s (on_side-swapped (vertex t a) (vertex t b) r side_r)

          other_way : Beside b a ⊎ Beside a b → IsCovers r
          other_way (inl s) = either (inr s)
          other_way (inr s) = either (inl s)

          go : OverlapAlong p q (vertex t a) (vertex t b)
              ⊎ OverlapAlong p q (vertex t b) (vertex t a) → IsCovers r
          go (inl o) = either (items.along a b ((h.sides a b).1 (inl (c, f)), o))
          go (inr o) = other_way (items.along b a ((h.sides b a).1 (inr (c, f)), o))

      in_face : (a b c : ℕ) → IsFace t a b c → Closed (vertex t a) (vertex t b) (vertex t c) z
          → IsCovers r
      in_face a b c f cz =
          go (left_or_along r q a b c f (starts r q a b c f cz.first))
          (left_or_along r q b c a f₂ (starts r q b c a f₂ cz.second))
          (left_or_along r q c a b f₃ (starts r q c a b f₃ cz.third))
        where
          f₂ : IsFace t b c a
          f₂ = turned_face t a b c f

          f₃ : IsFace t c a b
          f₃ = turned_face t b c a f₂

          cr : Closed (vertex t a) (vertex t b) (vertex t c) r
          cr = closed_near r q a b c f cz

          go : LeftOrAlong r q (vertex t a) (vertex t b) → LeftOrAlong r q (vertex t b) (vertex t c)
              → LeftOrAlong r q (vertex t c) (vertex t a) → IsCovers r
          go (inr s) k l = along_side a b c f cr cz s.0 s.1
          go (inl s) (inr k) l = along_side b c a f₂ (closed-turned cr) (closed-turned cz) k.0 k.1
          go (inl s) (inl k) (inr l) = along_side c a b f₃ (closed-turned (closed-turned cr))
              (closed-turned (closed-turned cz)) l.0 l.1
          go (inl s) (inl k) (inl l) = record {
            a = a;
            b = b;
            c = c;
            is_free = entered_is_free t h Free is_face turned p q apart items z z_on a b c f
                (record { first = s; second = k; third = l });
            closed = cr;
          }

      plain : (x : Fraction) → IsCovers x → IsCovered (tiling t h) x
      unfolding tiling
      plain x o = record {
        a = o.a;
        b = o.b;
        c = o.c;
        is_face = is_face o.a o.b o.c o.is_free;
        closed = o.closed;
      }

      covered_before : IsCovers r
      unfolding tiling
      covered_before =
          let c = covered_between t h p q z z_on (plain p items.start) (plain q items.end) in
          in_face c.a c.b c.c c.is_face c.closed

    pub covered_along : (p q : Fraction) → ¬ IsSame p q
        → FreeAtItems t h Free is_face turned p q → (r : Fraction) → OnSegment p q r → IsCovers r
    covered_along p q apart items r on = go (decide_same r q)
      where
        go : IsSame r q ⊎ (¬ IsSame r q) → IsCovers r
        go (inl e) = covers-same q r (same-sym r q e) items.end
        go (inr n) = covered_before p q apart items r on n

    -- ---- from the points to the items
    -- a free face that is a closed face of z
    abbrev Near : Fraction → ℕ → ℕ → ℕ → Type 0
    Near z i j k = Free i j k × Closed (vertex t i) (vertex t j) (vertex t k) z

    face_near : (z : Fraction) (i j k : ℕ) → Near z i j k → IsFace t i j k
    face_near z i j k s = is_face i j k s.0

    turned_near : (z : Fraction) (i j k : ℕ) → Near z i j k → Near z j k i
    turned_near z i j k s = (turned i j k s.0, closed-turned s.1)

    abbrev BesideNear : Fraction → ℕ → ℕ → Type 0
    BesideNear z a b = HasBeside t h (Near z) (face_near z) (turned_near z) a b

    -- beyond an edge at a point strictly within it, towards a point on its left
    beside : (a b : ℕ) → IsEdge t a b → (x : Fraction) → Between (vertex t a) (vertex t b) x
        → (g : Fraction) → pos 0 <ℤ bracket (vertex t a) (vertex t b) g
        → IsCovers (nudge (enough g) x g) → Beside a b
    beside a b e x m g left o = go ((h.sides a b).0 e)
      where
        z : Fraction
        z = nudge (enough g) x g

        z_left : pos 0 <ℤ bracket (vertex t a) (vertex t b) z
        z_left = subst (λ s. pos 0 <ℤ s) (sym (nudge-on (vertex t a) (vertex t b) (enough g) x g
            (between-on (vertex t a) (vertex t b) x m))) left

        closed_x : Closed (vertex t o.a) (vertex t o.b) (vertex t o.c) x
        closed_x = closed_near x g o.a o.b o.c (is_face o.a o.b o.c o.is_free) o.closed

        wrong : BesideNear z b a → ⊥
        wrong s = right_not_above
            (negated_right (bracket-swapped (vertex t a) (vertex t b) z) z_left) s.1.1.first

        pick : BesideNear z a b
            ⊎ BesideNear z b a → Beside a b
        pick (inl s) = (s.0, s.1.0)
        pick (inr s) = absurd (wrong s)

        turn : BesideNear z b a
            ⊎ BesideNear z a b → Beside a b
        turn (inl s) = pick (inr s)
        turn (inr s) = pick (inl s)

        go : HasFace t a b ⊎ HasFace t b a → Beside a b
        go (inl f) = pick (at_side t h (Near z) (face_near z) (turned_near z) a b f.0 f.1 x m
            o.a o.b o.c
            (o.is_free, o.closed) closed_x)
        go (inr f) = turn (at_side t h (Near z) (face_near z) (turned_near z) b a f.0 f.1 x
            (between-swapped (vertex t a) (vertex t b) x m) o.a o.b o.c (o.is_free, o.closed)
            closed_x)

    -- at a point strictly within an edge
    pub beside_either : (a b : ℕ) → IsEdge t a b → (x : Fraction)
        → Between (vertex t a) (vertex t b) x → IsCovers x → Beside a b ⊎ Beside b a
    beside_either a b e x m o = go ((h.sides a b).0 e)
      where
        turn : Beside b a ⊎ Beside a b → Beside a b ⊎ Beside b a
        turn (inl s) = inr s
        turn (inr s) = inl s

        go : HasFace t a b ⊎ HasFace t b a → Beside a b ⊎ Beside b a
        go (inl f) = at_side t h Free is_face turned a b f.0 f.1 x m o.a o.b o.c o.is_free o.closed
        go (inr f) = turn (at_side t h Free is_face turned b a f.0 f.1 x
            (between-swapped (vertex t a) (vertex t b) x m) o.a o.b o.c o.is_free o.closed)

    pub items_are_free : (p q : Fraction) → ¬ IsSame p q
        → ((r : Fraction) → OnSegment p q r → IsCovers r) → FreeAtItems t h Free is_face turned p q
    items_are_free p q apart sight = record {
      start = sight p (start_on_segment p q);
      end = sight q (end_on_segment p q);
      entered = λ a b m l. beside a b m.0 m.1.at (between_of _ _ m.1.at m.1.within) q l
          (sight (nudge (enough q) m.1.at q)
          (nudge_on_segment p q m.1.at (enough q) m.1.meet.first));
      left_behind = λ a b m l. beside b a
          (edge_flipped t a b m.0) m.1.at
          (between-swapped (vertex t a) (vertex t b) m.1.at (between_of _ _ m.1.at m.1.within)) p
          (negated_left (bracket-swapped (vertex t a) (vertex t b) p) l)
          (sight (nudge (enough p) m.1.at p) (nudge_back p q m.1.at (enough p) m.1.meet.first));
      along = λ a b m. let o = m.1 in beside_either a b m.0 (nudge 1 o.near o.far)
          (between_of _ _ (nudge 1 o.near o.far) (middle_within (vertex t a) (vertex t b)
          (edge_differs a b m.0) o.near o.far o.near_second o.far_second o.from_u))
          (sight (nudge 1 o.near o.far)
          (nudge_between p q o.near o.far 1 o.near_first o.far_first));
    }
