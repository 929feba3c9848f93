-- The cell of a circle inside which no vertex is: the hull of the vertices that the circle carries.
-- Notions: zero_point; cell_is_hull.
use Rattle.std.proofs.Common.{◌≡◌, ◌<◌, ℕ, List, [], map, length, get_or, arith, sym, ◌∙◌, ap}
use Rattle.std.proofs.Common.{subst}
use mathlib.Core.Logic.{inl, inr}
use Rattle.std.specs.Prelude.{ℤ, pos, ◌<ℤ◌, ◌≤ℤ◌, ◌*ℤ◌, ◌+ℤ◌, Contains}
use Rattle.std.proofs.lemmas.Int.{ints}
use Rattle.std.proofs.lemmas.List.{get_or_default, get_or-map, length-map}
use Rattle.plane.specs.{Fraction, InHull, InsideCircle, IsConstrainedDelaunay, IsNotNegative}
use Rattle.plane.specs.{IsTiling, IsVertex, OnCircle, Point, TilesHull, Triangulation, TurnsLeft}
use Rattle.plane.specs.{vertex, whole}
use Rattle.plane.proofs.{index_not_negative, mul-nonneg_ℤ, mul-nonpos_of_nonneg_nonpos_ℤ}
use Rattle.plane.proofs.{pos-ne-zero_ℤ, three_weights, weak, zero_of_mul-zero_ℤ}
use Rattle.plane_theorems.specs.{Delaunay.Cells.ListsCircle, Delaunay.Laws.CellIsHull, InCell}
use Rattle.plane_theorems.proofs.Delaunay.Circles.Cells.{face_is_empty, has_way, HasWay, lift-moved}
use Rattle.plane_theorems.proofs.Delaunay.Circles.Cells.{on_agrees, triple_in_hull}
use Rattle.plane_theorems.proofs.Delaunay.Circles.EmptyCircles.{circle_lift, no_face, spot}
use Rattle.plane_theorems.proofs.Delaunay.Circles.EmptyCircles.{straight_line}
use Rattle.plane_theorems.proofs.Delaunay.Circles.Lift.{lift, lift-first, lift-second, lift-third}
use Rattle.plane_theorems.proofs.Delaunay.Circles.Lift.{on_is_lift}
use Rattle.plane_theorems.proofs.Delaunay.Points.Bracket.{above_if_left, bracket}
use Rattle.plane_theorems.proofs.Delaunay.Points.Hull.{AreSomewhere, bracket_form, form-nudge}
use Rattle.plane_theorems.proofs.Delaunay.Points.Hull.{IsForm, least_in_hull, part_in_hull}
use Rattle.plane_theorems.proofs.Delaunay.Points.Hull.{sum_form, triangle_in_hull}
use Rattle.plane_theorems.proofs.Delaunay.Points.Nudges.{Closed, closed_of_inside, InOpen, nudge}
use Rattle.plane_theorems.proofs.Delaunay.Tilings.Faces.{middle, middle-inside}
use Rattle.plane_theorems.proofs.Delaunay.Tilings.Ground.{triangle_of_closed}

-- how far the plane of the lifted a b c is above that of the lifted d e f at a point, times a
-- positive number
difference : (a b c d e f : Fraction) → Fraction → ℤ
difference a b c d e f q = (bracket e f q *ℤ lift a b c d +ℤ bracket f d q *ℤ lift a b c e)
    *ℤ pos 1 +ℤ bracket d e q *ℤ lift a b c f

difference_form : (a b c d e f : Fraction) → IsForm (difference a b c d e f)
unfolding difference
difference_form a b c d e f = sum_form
    (λ q. bracket e f q *ℤ lift a b c d +ℤ bracket f d q *ℤ lift a b c e) (bracket d e) (pos 1)
    (lift a b c f) (sum_form (bracket e f) (bracket f d) (lift a b c d) (lift a b c e)
    (bracket_form e f) (bracket_form f d)) (bracket_form d e)

-- of a point that the circle of a b c carries
difference-on : (a b c d e f q : Fraction) → lift a b c q ≡ pos 0
    → bracket a b c *ℤ lift d e f q +ℤ difference a b c d e f q ≡ pos 0
unfolding difference
difference-on a b c d e f q on = alone (bracket d e f) (lift a b c q)
    (bracket a b c *ℤ lift d e f q) (bracket e f q *ℤ lift a b c d)
    (bracket f d q *ℤ lift a b c e) (bracket d e q *ℤ lift a b c f) (lift-moved a b c d e f q) on
  where
    alone : (k x y u v w : ℤ) → k *ℤ x ≡ y +ℤ (u +ℤ v +ℤ w) → x ≡ pos 0
        → y +ℤ ((u +ℤ v) *ℤ pos 1 +ℤ w) ≡ pos 0
    alone k x y u v w h e = let z : k *ℤ x ≡ k *ℤ pos 0 = ap (λ x. k *ℤ x) e in
        omega (arith, ints)

-- of a point of the closed triangle of d e f, where no corner is inside the circle of a b c
difference-most : (a b c d e f q : Fraction) → Closed d e f q → lift a b c d ≤ℤ pos 0
    → lift a b c e ≤ℤ pos 0 → lift a b c f ≤ℤ pos 0 → difference a b c d e f q ≤ℤ pos 0
unfolding difference
difference-most a b c d e f q s x y z = most _ _ _
    (mul-nonpos_of_nonneg_nonpos_ℤ {a = bracket e f q} {b = lift a b c d} s.second x)
    (mul-nonpos_of_nonneg_nonpos_ℤ {a = bracket f d q} {b = lift a b c e} s.third y)
    (mul-nonpos_of_nonneg_nonpos_ℤ {a = bracket d e q} {b = lift a b c f} s.first z)
  where
    most : (u v w : ℤ) → u ≤ℤ pos 0 → v ≤ℤ pos 0 → w ≤ℤ pos 0
        → ((u +ℤ v) *ℤ pos 1 +ℤ w) ≤ℤ pos 0
    most u v w i j k = omega (arith, ints)

difference-middle : (a b c d e f u v w : Fraction) → difference a b c d e f (middle u v w)
    ≡ difference a b c d e f u +ℤ difference a b c d e f v +ℤ difference a b c d e f w
unfolding middle
difference-middle a b c d e f u v w =
    let m = difference_form a b c d e f in
    let x = form-nudge (difference a b c d e f) m 1 (nudge 1 u v) w in
    let y = form-nudge (difference a b c d e f) m 1 u v in omega (arith, ints)

-- a vertex that the circle of a b c carries and the circle of d e f has not inside
difference-least : (a b c d e f q : Fraction) → pos 0 <ℤ bracket a b c → lift a b c q ≡ pos 0
    → lift d e f q ≤ℤ pos 0 → pos 0 ≤ℤ difference a b c d e f q
difference-least a b c d e f q above on out = least _ _ (difference-on a b c d e f q on)
    (mul-nonpos_of_nonneg_nonpos_ℤ {a = bracket a b c} {b = lift d e f q} (weak above) out)
  where
    least : (x y : ℤ) → x +ℤ y ≡ pos 0 → x ≤ℤ pos 0 → pos 0 ≤ℤ y
    least x y e h = omega (arith, ints)

-- and where the planes agree there, the circle of d e f carries it
carried_by_both : (a b c d e f q : Fraction) → pos 0 <ℤ bracket a b c → lift a b c q ≡ pos 0
    → difference a b c d e f q ≡ pos 0 → lift d e f q ≡ pos 0
carried_by_both a b c d e f q above on none = zero_of_mul-zero_ℤ {k = bracket a b c}
    {x = lift d e f q} (pos-ne-zero_ℤ above) (left _ _ (difference-on a b c d e f q on) none)
  where
    left : (x y : ℤ) → x +ℤ y ≡ pos 0 → y ≡ pos 0 → x ≡ pos 0
    left x y e h = omega (arith, ints)

all_none : (n : ℕ) (r p m u v w : ℤ) → r ≡ pos n *ℤ p +ℤ m → m ≡ u +ℤ v +ℤ w → r ≤ℤ pos 0
    → pos 0 ≤ℤ p → pos 0 ≤ℤ u → pos 0 ≤ℤ v → pos 0 ≤ℤ w
    → (u ≡ pos 0) × (v ≡ pos 0) × (w ≡ pos 0)
all_none n r p m u v w e d h hp hu hv hw = let k = mul-nonneg_ℤ {a = pos n} {b = p}
    (index_not_negative n) hp in (omega (arith, ints), omega (arith, ints), omega (arith, ints))

-- the point 0, 0, where a list has none at an index
abbrev pub zero_point : Point
zero_point = record { x = pos 0; y = pos 0 }

-- a listed point by its index
place_of : (points : List Point) (p : Point) → Contains points p
    → (n : ℕ) × (n < length points) × (get_or points n zero_point ≡ p)
place_of points p (n, h, e) = (n, h, get_or_default points n zero_point p h ∙ e)

module _ (t : Triangulation) (D : IsConstrainedDelaunay t []) (i j k : ℕ)
    (corners : IsVertex t i × IsVertex t j × IsVertex t k)
    (turns : TurnsLeft (vertex t i) (vertex t j) (vertex t k))
    (empty : (n : ℕ) → IsVertex t n
    → ¬ InsideCircle (vertex t i) (vertex t j) (vertex t k) (vertex t n))
    (on : List Point) (listed : ListsCircle t (vertex t i) (vertex t j) (vertex t k) on) where
  above : pos 0 <ℤ bracket (vertex t i) (vertex t j) (vertex t k)
  above = above_if_left _ _ _ turns

  -- a listed point is a vertex, and carried
  vertex_of : (n : ℕ) → n < length (map whole on) → (m : ℕ) × IsVertex t m
      × (vertex t m ≡ get_or (map whole on) n (whole zero_point))
      × (lift (vertex t i) (vertex t j) (vertex t k) (vertex t m) ≡ pos 0)
  vertex_of n h = go ((listed (get_or on n zero_point)).0 (
    n,
    below,
    get_or_default on n _ zero_point
        below,
  ))
    where
      below : n < length on
      below = omega (arith, length-map on whole)

      go : Contains t.points (get_or on n zero_point)
          × OnCircle (vertex t i) (vertex t j) (vertex t k) (whole (get_or on n zero_point))
          → (m : ℕ) × IsVertex t m × (vertex t m ≡ get_or (map whole on) n (whole zero_point))
          × (lift (vertex t i) (vertex t j) (vertex t k) (vertex t m) ≡ pos 0)
      go (c, carried) = let m = place_of t.points (get_or on n zero_point) c in (
        m.0,
        m.1,
        ap whole m.2 ∙ sym (get_or-map whole on n zero_point (whole zero_point) below),
        (on_is_lift (spot t i) (spot t j) (spot t k) (spot t m.0) turns).0
            (subst (λ q. OnCircle (vertex t i) (vertex t j) (vertex t k) (whole q)) (sym m.2)
            carried),
      )

  -- a carried vertex is listed
  index_of : (m : ℕ) → IsVertex t m → OnCircle (vertex t i) (vertex t j) (vertex t k) (vertex t m)
      → (n : ℕ) × (n < length (map whole on))
      × (get_or (map whole on) n (whole zero_point) ≡ vertex t m)
  index_of m v carried = let c = place_of on (spot t m) ((listed (spot t m)).1
      ((m, v, get_or_default t.points m _ zero_point v), carried)) in (
        c.0,
        omega (arith, length-map on whole, c.1),
        get_or-map whole on c.0 zero_point (whole zero_point) c.1 ∙ ap whole c.2,
      )

  cell_in_hull : (p : Fraction) → InCell t (vertex t i) (vertex t j) (vertex t k) p
      → InHull (map whole on) p
  cell_in_hull p m = go D.tiling
    where
      go : IsTiling t → InHull (map whole on) p
      go (inr l) = absurd (no_face t l.no_face m.i m.j m.k m.is_face)
      go (inl h) = triangle_in_hull (map whole on) x.0 y.0 z.0 (whole zero_point) (vertex t m.i)
          (vertex t m.j) (vertex t m.k) p x.1 y.1 z.1 x.2 y.2 z.2
          (three_weights IsNotNegative (vertex t m.i) (vertex t m.j) (vertex t m.k) p m.within)
        where
          v : IsVertex t m.i × IsVertex t m.j × IsVertex t m.k
          v = h.corners m.i m.j m.k m.is_face

          x : (n : ℕ) × (n < length (map whole on))
              × (get_or (map whole on) n (whole zero_point) ≡ vertex t m.i)
          x = index_of m.i v.0 m.on_circle.0

          y : (n : ℕ) × (n < length (map whole on))
              × (get_or (map whole on) n (whole zero_point) ≡ vertex t m.j)
          y = index_of m.j v.1 m.on_circle.1

          z : (n : ℕ) × (n < length (map whole on))
              × (get_or (map whole on) n (whole zero_point) ≡ vertex t m.k)
          z = index_of m.k v.2 m.on_circle.2

  module _ (h : TilesHull t) (p : Fraction) (m : InHull (map whole on) p) where
    abbrev aim : Fraction
    aim = middle (vertex t i) (vertex t j) (vertex t k)

    aim_inside : InOpen (vertex t i) (vertex t j) (vertex t k) aim
    aim_inside = middle-inside _ _ _ above

    in_whole : InHull (map whole t.points) p
    in_whole = part_in_hull (whole zero_point) (map whole t.points) (map whole on) at p m
      where
        at : AreSomewhere (whole zero_point) (map whole on) (map whole t.points)
        at n l = let c = vertex_of n l in (
          c.0,
          omega (arith, length-map t.points whole, c.1),
          get_or-map whole t.points c.0 zero_point (whole zero_point) c.1 ∙ c.2,
        )

    module _ (w : HasWay t h p aim) where
      -- how far the plane of the lifted i j k is above that of the lifted face, at a point
      abbrev g : Fraction → ℤ
      g = difference (vertex t i) (vertex t j) (vertex t k) (vertex t w.d) (vertex t w.e)
          (vertex t w.f)

      -- the face that has the way turns left
      left : TurnsLeft (vertex t w.d) (vertex t w.e) (vertex t w.f)
      left = h.turning w.d w.e w.f w.is_face

      not_inside : (n : ℕ) → IsVertex t n
          → lift (vertex t i) (vertex t j) (vertex t k) (vertex t n) ≤ℤ pos 0
      not_inside n v = circle_lift t i j k n turns (empty n v)

      least : (n : ℕ) → IsVertex t n
          → lift (vertex t i) (vertex t j) (vertex t k) (vertex t n) ≡ pos 0
          → pos 0 ≤ℤ g (vertex t n)
      least n v z = difference-least _ _ _ _ _ _ (vertex t n) above z (circle_lift t w.d w.e w.f n
          left (face_is_empty t D w.d w.e w.f n w.is_face left v))

      -- the planes agree at the three corners
      agree : (g (vertex t i) ≡ pos 0) × (g (vertex t j) ≡ pos 0) × (g (vertex t k) ≡ pos 0)
      agree = all_none w.n (g (nudge w.n p aim)) (g p) (g aim) _ _ _
          (form-nudge g (difference_form _ _ _ _ _ _) w.n p aim)
          (difference-middle _ _ _ _ _ _ (vertex t i) (vertex t j) (vertex t k))
          (difference-most _ _ _ _ _ _ (nudge w.n p aim) w.goes_on (not_inside w.d v.0)
          (not_inside w.e v.1) (not_inside w.f v.2))
          (least_in_hull (map whole on) (whole zero_point) g (difference_form _ _ _ _ _ _)
          (λ n l. let c = vertex_of n l in subst (λ q. pos 0 ≤ℤ g q) c.2 (least c.0 c.1 c.3)) p m)
          (least i corners.0 (lift-first _ _ _)) (least j corners.1 (lift-second _ _ _))
          (least k corners.2 (lift-third _ _ _))
        where
          v : IsVertex t w.d × IsVertex t w.e × IsVertex t w.f
          v = h.corners w.d w.e w.f w.is_face

      on_face : (n : ℕ) → lift (vertex t i) (vertex t j) (vertex t k) (vertex t n) ≡ pos 0
          → g (vertex t n) ≡ pos 0
          → OnCircle (vertex t w.d) (vertex t w.e) (vertex t w.f) (vertex t n)
      on_face n z e = (on_is_lift (spot t w.d) (spot t w.e) (spot t w.f) (spot t n) left).1
          (carried_by_both _ _ _ _ _ _ (vertex t n) above z e)

      corner_on : (n : ℕ) → lift (vertex t w.d) (vertex t w.e) (vertex t w.f) (vertex t n) ≡ pos 0
          → OnCircle (vertex t i) (vertex t j) (vertex t k) (vertex t n)
      corner_on n z = (on_agrees (spot t w.d) (spot t w.e) (spot t w.f) (spot t i) (spot t j)
          (spot t k) left turns (on_face i (lift-first _ _ _) agree.0)
          (on_face j (lift-second _ _ _) agree.1) (on_face k (lift-third _ _ _) agree.2)
          (spot t n)).0 ((on_is_lift (spot t w.d) (spot t w.e) (spot t w.f) (spot t n) left).1 z)

      in_cell : InCell t (vertex t i) (vertex t j) (vertex t k) p
      in_cell = record {
        i = w.d;
        j = w.e;
        k = w.f;
        is_face = w.is_face;
        on_circle = (
          corner_on w.d (lift-first _ _ _),
          corner_on w.e (lift-second _ _ _),
          corner_on w.f (lift-third _ _ _),
        );
        within = triangle_of_closed _ _ _ p left w.closed;
      }

    hull_in_cell : InCell t (vertex t i) (vertex t j) (vertex t k) p
    hull_in_cell = in_cell (has_way t h p aim in_whole
        (triple_in_hull t h i j k corners turns aim (closed_of_inside aim_inside)))

-- without constraints: where no vertex is inside the circle of three, its cell is the hull of the
-- vertices that it carries
pub cell_is_hull : CellIsHull
cell_is_hull t D i j k corners turns empty on listed p = (
  cell_in_hull t D i j k corners turns empty on listed p,
  λ m. go m D.tiling,
)
  where
    go : InHull (map whole on) p → IsTiling t → InCell t (vertex t i) (vertex t j) (vertex t k) p
    go m (inl h) = hull_in_cell t D i j k corners turns empty on listed h p m
    go m (inr l) = absurd (straight_line t l i j k corners.0 corners.1 corners.2 turns)
