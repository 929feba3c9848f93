-- The test of an edge and a rectangle.
-- Lemmas: decides_reversed, rectangle_answer, sorted_x, sorted_y, rectangle_inside, between_told,
-- beside_told, start_meets, end_meets.
use Rattle.std.proofs.Common.{◌≡◌, [], ◌∷◌, refl, subst, arith}
use mathlib.Core.Logic.{◌↔◌, inl, inr}
use mathlib.Core.Bool.{Bool, true, false}
use Rattle.std.specs.Prelude.{ℤ, pos, ◌*ℤ◌, ◌<ℤ◌, ◌≤ℤ◌, IsTrue}
use Rattle.std.proofs.lemmas.Int.{ints}
use Rattle.std.proofs.lemmas.Bool.Decides.{same_from_decides}
use Rattle.plane.specs.{Fraction, InClosedRectangle, left, on, Point, right, Side, whole}
use Rattle.plane.proofs.{◌⊗◌, end_on_segment, lt_or_ge_ℤ, mul-lt-mul_ℤ, ring_in, start_on_segment}
use Rattle.plane_theorems.specs.{AreCornersOn, HasPointIn, MeetsRectangle}
use Rattle.plane_theorems.proofs.Delaunay.Floods.EdgeInRectangle.{edge_meets_rectangle}
use Rattle.{delaunay_shapes.specs.is_reversed, plane_theorems.specs.Delaunay.EdgeTests.RangeMeets}
use Rattle.delaunay_shapes.specs.Tests.{are_corners, is_left, is_right, IsReversed, meets_rectangle}
use Rattle.delaunay_shapes.specs.Tests.{range_meets}
use Rattle.delaunay_shapes.proofs.Decided.{decides_and, decides_and_4, decides_le, decides_lt}
use Rattle.delaunay_shapes.proofs.Decided.{decides_not, decides_or}

-- the test of the corners of a rectangle decides whether they are reversed
pub decides_reversed : (l u : Point) → IsTrue (is_reversed l u) ↔ IsReversed l u
decides_reversed l u = decides_or _ _ (decides_lt u.x l.x) (decides_lt u.y l.y)

decides_range : (low high a b : ℤ) → IsTrue (range_meets low high a b) ↔ RangeMeets low high a b
decides_range low high a b = decides_and _ _ (decides_or _ _ (decides_le low a) (decides_le low b))
    (decides_or _ _ (decides_le a high) (decides_le b high))

decides_left : (s : Side) → IsTrue (is_left s) ↔ (s ≡ left)
decides_left left = ((λ e. refl), (λ e. refl))
decides_left right = ((λ e. absurd (cc)), (λ e. absurd (cc)))
decides_left on = ((λ e. absurd (cc)), (λ e. absurd (cc)))

decides_right : (s : Side) → IsTrue (is_right s) ↔ (s ≡ right)
decides_right left = ((λ e. absurd (cc)), (λ e. absurd (cc)))
decides_right right = ((λ e. refl), (λ e. refl))
decides_right on = ((λ e. absurd (cc)), (λ e. absurd (cc)))

decides_corners : (accepts : Side → Bool) (t : Side) → ((s : Side) → IsTrue (accepts s) ↔ (s ≡ t))
    → (l u p q : Point) → IsTrue (are_corners accepts l u p q) ↔ AreCornersOn t l u p q
decides_corners accepts t h l u p q = decides_and_4 _ _ _ _ (h _) (h _) (h _) (h _)

decides_meets : (l u p q : Point) → IsTrue (meets_rectangle l u p q)
    ↔ ((¬ IsReversed l u) × MeetsRectangle l u p q)
decides_meets l u p q = decides_and _ _ (decides_not _ (decides_reversed l u))
    (decides_and_4 _ _ _ _ (decides_range l.x u.x p.x q.x) (decides_range l.y u.y p.y q.y)
    (decides_not _ (decides_corners is_left left decides_left l u p q))
    (decides_not _ (decides_corners is_right right decides_right l u p q)))

-- an answer that is told by the numbers is the test
pub rectangle_answer : (l u p q : Point) (b : Bool)
    → (IsTrue b ↔ ((¬ IsReversed l u) × MeetsRectangle l u p q)) → b ≡ meets_rectangle l u p q
rectangle_answer l u p q b h =
    same_from_decides b (meets_rectangle l u p q) h (decides_meets l u p q)

-- a reversed rectangle has no point
reversed_is_empty : (l u : Point) (r : Fraction) → InClosedRectangle l u r → ¬ IsReversed l u
reversed_is_empty l u r h = elim [
  | inl s ↦ apart l.x u.x r.x r.w r.positive h.left h.right s
  | inr s ↦ apart l.y u.y r.y r.w r.positive h.below h.above s
]
  where
    turned : (a b : ℤ) → a *ℤ b ≡ b *ℤ a
    turned a b = ring_in (a ∷ b ∷ []) (λ a b. a ⊗ b) (λ a b. b ⊗ a) tt

    between : (a b x : ℤ) → a ≤ℤ x → x ≤ℤ b → b <ℤ a → ⊥
    between a b x h i j = omega (arith, ints)

    apart : (low high x w : ℤ) → pos 0 <ℤ w → (low *ℤ w) ≤ℤ x → x ≤ℤ (high *ℤ w) → high <ℤ low → ⊥
    apart low high x w h i j k =
        let past : (high *ℤ w) <ℤ (low *ℤ w) = subst (λ z. z <ℤ (low *ℤ w)) (turned w high)
        (subst (λ z. (w *ℤ high) <ℤ z) (turned w low) (mul-lt-mul_ℤ h k)) in
        between (low *ℤ w) (high *ℤ w) x i j past

-- the lower corner of a rectangle that is not reversed is not to the right of the upper one
pub sorted_x : (l u : Point) → ¬ IsReversed l u → l.x ≤ℤ u.x
sorted_x l u n = elim (lt_or_ge_ℤ u.x l.x) [ inl h ↦ absurd (n (inl h)) | inr h ↦ h ]

-- the lower corner of a rectangle that is not reversed is not above the upper one
pub sorted_y : (l u : Point) → ¬ IsReversed l u → l.y ≤ℤ u.y
sorted_y l u n = elim (lt_or_ge_ℤ u.y l.y) [ inl h ↦ absurd (n (inr h)) | inr h ↦ h ]

-- and tells whether the edge has a point in the rectangle
pub rectangle_inside : (l u p q : Point) (b : Bool)
    → (IsTrue b ↔ ((¬ IsReversed l u) × MeetsRectangle l u p q)) → IsTrue b
    ↔ HasPointIn (InClosedRectangle l u) p q
rectangle_inside l u p q b h = (
  (λ t. let m = h.0 t in
      (edge_meets_rectangle l u (sorted_x l u m.0) (sorted_y l u m.0) p q).1 m.1),
  (λ s. let n = reversed_is_empty l u s.0 s.2 in
      h.1 (n, (edge_meets_rectangle l u (sorted_x l u n) (sorted_y l u n) p q).0 s)),
)

-- a point is in a rectangle if and only if it is between the sides in both coordinates
between_sides : (l u p : Point) → (((l.x ≤ℤ p.x) × (p.x ≤ℤ u.x)) × ((l.y ≤ℤ p.y) × (p.y ≤ℤ u.y)))
    ↔ InClosedRectangle l u (whole p)
between_sides l u p = (
  (λ h. record {
    left = low l.x p.x h.0.0;
    right = high u.x p.x h.0.1;
    below = low l.y p.y h.1.0;
    above = high u.y p.y h.1.1;
  }),
  (λ h. (
    (low_back l.x p.x h.left, high_back u.x p.x h.right),
    (low_back l.y p.y h.below, high_back u.y p.y h.above),
  )),
)
  where
    low : (a b : ℤ) → a ≤ℤ b → (a *ℤ pos 1) ≤ℤ b
    low a b h = omega (arith, ints)

    high : (a b : ℤ) → b ≤ℤ a → b ≤ℤ (a *ℤ pos 1)
    high a b h = omega (arith, ints)

    low_back : (a b : ℤ) → (a *ℤ pos 1) ≤ℤ b → a ≤ℤ b
    low_back a b h = omega (arith, ints)

    high_back : (a b : ℤ) → b ≤ℤ (a *ℤ pos 1) → b ≤ℤ a
    high_back a b h = omega (arith, ints)

-- two tests, of each coordinate, tell whether a point is in a rectangle
pub between_told : (l u p : Point) (a b : Bool) → a ≡ true
    → (IsTrue a ↔ ((l.x ≤ℤ p.x) × (p.x ≤ℤ u.x))) → (IsTrue b ↔ ((l.y ≤ℤ p.y) × (p.y ≤ℤ u.y)))
    → IsTrue b ↔ InClosedRectangle l u (whole p)
between_told l u p a b t h i = (
  (λ e. (between_sides l u p).0 (h.0 t, i.0 e)),
  (λ s. i.1 ((between_sides l u p).1 s).1),
)

-- a point that is not between the sides in one coordinate is not in the rectangle
pub beside_told : (l u p : Point) (a : Bool) → a ≡ false
    → (IsTrue a ↔ ((l.x ≤ℤ p.x) × (p.x ≤ℤ u.x))) → IsTrue a ↔ InClosedRectangle l u (whole p)
beside_told l u p a f h = (
  (λ e. absurd (cc)),
  (λ s. let on = h.1 ((between_sides l u p).1 s).0 in absurd (cc)),
)

-- an edge with a point in a rectangle meets it by the numbers
point_meets : (l u p q : Point) → HasPointIn (InClosedRectangle l u) p q
    → (¬ IsReversed l u) × MeetsRectangle l u p q
point_meets l u p q s = let n = reversed_is_empty l u s.0 s.2 in
    (n, (edge_meets_rectangle l u (sorted_x l u n) (sorted_y l u n) p q).0 s)

-- so does one that starts in it
pub start_meets : (l u p q : Point) (a b : Bool) → a ≡ true
    → (IsTrue a ↔ InClosedRectangle l u (whole p)) → b ≡ true
    → IsTrue b ↔ ((¬ IsReversed l u) × MeetsRectangle l u p q)
start_meets l u p q a b t h s = (
  (λ e. point_meets l u p q (whole p, start_on_segment (whole p) (whole q), h.0 t)),
  (λ m. s),
)

-- and one that ends in it
pub end_meets : (l u p q : Point) (a b : Bool) → a ≡ true
    → (IsTrue a ↔ InClosedRectangle l u (whole q)) → b ≡ true
    → IsTrue b ↔ ((¬ IsReversed l u) × MeetsRectangle l u p q)
end_meets l u p q a b t h s = (
  (λ e. point_meets l u p q (whole q, end_on_segment (whole p) (whole q), h.0 t)),
  (λ m. s),
)
