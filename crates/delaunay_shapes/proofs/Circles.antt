-- The test of an edge and a circle.
-- Lemmas: rim_inside, near_answer, near_inside.
use Rattle.std.proofs.Common.{◌≡◌, [], ◌∷◌, arith}
use mathlib.Core.Logic.{◌↔◌, inl, inr}
use mathlib.Core.Bool.{Bool}
use Rattle.std.specs.Prelude.{ℤ, pos, ◌-ℤ◌, ◌*ℤ◌, ◌≤ℤ◌, IsTrue}
use Rattle.std.proofs.lemmas.Int.{ints}
use Rattle.std.proofs.lemmas.Bool.Decides.{same_from_decides}
use Rattle.plane.specs.{gap, InClosedCircle, Point, whole}
use Rattle.plane.proofs.{◌⊕◌, ◌⊖◌, ◌⊗◌, num, ring_in}
use Rattle.plane_theorems.specs.{Delaunay.EdgeTests.MeetsCircle, distance_2, factor, HasPointIn}
use Rattle.plane_theorems.proofs.Delaunay.Floods.EdgeInCircle.{edge_meets_circle}
use Rattle.delaunay_core.specs.{along}
use Rattle.delaunay_shapes.specs.{circle_distance, Tests.IsEdgeNear, Tests.meets_circle}
use Rattle.delaunay_shapes.proofs.Decided.{decides_and_4, decides_le, decides_lt, decides_or}

decides_meets : (c : Point) (r : ℤ) (p q : Point) → IsTrue (meets_circle c r p q)
    ↔ MeetsCircle c r p q
decides_meets c r p q =
    decides_or _ _ (decides_le (distance_2 c p) r) (decides_or _ _ (decides_le (distance_2 c q) r)
    (decides_and_4 _ _ _ _ (decides_lt (pos 0) (distance_2 p q)) (decides_le (pos 0) (factor p q c))
    (decides_le (factor p q c) (distance_2 p q)) (decides_le
    (distance_2 c p *ℤ distance_2 p q -ℤ factor p q c *ℤ factor p q c) (r *ℤ distance_2 p q))))

-- an answer that is told by the numbers is the test
circle_answer : (c : Point) (r : ℤ) (p q : Point) (b : Bool) → (IsTrue b ↔ MeetsCircle c r p q)
    → b ≡ meets_circle c r p q
circle_answer c r p q b h = same_from_decides b (meets_circle c r p q) h (decides_meets c r p q)

-- and tells whether the edge has a point in the circle
circle_inside : (c : Point) (r : ℤ) (p q : Point) (b : Bool) → (IsTrue b ↔ MeetsCircle c r p q)
    → IsTrue b ↔ HasPointIn (InClosedCircle c r) p q
circle_inside c r p q b h =
    let law = edge_meets_circle c r p q in
    ((λ t. law.1 (h.0 t)), (λ s. h.1 (law.0 s)))

-- squared distances in both forms
gap_is : (p q : Point) → gap (whole p) (whole q) ≡ distance_2 p q
gap_is p q = ring_in (p.x ∷ p.y ∷ q.x ∷ q.y ∷ [])
    (λ px py qx qy. let o = num 1 in
    (qx ⊗ o ⊖ px ⊗ o) ⊗ (qx ⊗ o ⊖ px ⊗ o) ⊕ (qy ⊗ o ⊖ py ⊗ o) ⊗ (qy ⊗ o ⊖ py ⊗ o))
    (λ px py qx qy. (qx ⊖ px) ⊗ (qx ⊖ px) ⊕ (qy ⊖ py) ⊗ (qy ⊖ py))
    tt

-- a point is not beyond the rim if and only if its squared distance is at most the squared radius
rim_near : (c : Point) (r : ℤ) (p : Point) → (circle_distance c r p ≤ℤ pos 0)
    ↔ (distance_2 c p ≤ℤ r)
rim_near c r p = rw (gap_is c p) (side (distance_2 c p))
  where
    side : (d : ℤ) → ((d -ℤ r) ≤ℤ pos 0) ↔ (d ≤ℤ r)
    side d = ((λ h. omega (arith, ints)), (λ h. omega (arith, ints)))

-- a point by its distance from the rim
pub rim_inside : (c : Point) (r : ℤ) (p : Point) (d : ℤ) → d ≡ circle_distance c r p → (d ≤ℤ pos 0)
    ↔ InClosedCircle c r (whole p)
rim_inside c r p d e = (
  (λ h. record { near = there (gap (whole c) (whole p)) d r e h }),
  (λ h. back (gap (whole c) (whole p)) d r e h.near),
)
  where
    there : (g d r : ℤ) → d ≡ g -ℤ r → d ≤ℤ pos 0 → g ≤ℤ (r *ℤ (pos 1 *ℤ pos 1))
    there g d r e h = omega (arith, ints)

    back : (g d r : ℤ) → d ≡ g -ℤ r → g ≤ℤ (r *ℤ (pos 1 *ℤ pos 1)) → d ≤ℤ pos 0
    back g d r e h = omega (arith, ints)

-- near enough to the line, by the distance of an end from the rim
near_by_rim : (d l f r : ℤ) → (((d -ℤ r) *ℤ l) ≤ℤ (f *ℤ f)) ↔ ((d *ℤ l -ℤ f *ℤ f) ≤ℤ (r *ℤ l))
near_by_rim d l f r = rw (spread d l r) (side (d *ℤ l) (r *ℤ l) (f *ℤ f))
  where
    spread : (d l r : ℤ) → (d -ℤ r) *ℤ l ≡ d *ℤ l -ℤ r *ℤ l
    spread d l r = ring_in (d ∷ l ∷ r ∷ []) (λ d l r. (d ⊖ r) ⊗ l) (λ d l r. d ⊗ l ⊖ r ⊗ l) tt

    side : (x y z : ℤ) → ((x -ℤ y) ≤ℤ z) ↔ ((x -ℤ z) ≤ℤ y)
    side x y z = ((λ h. omega (arith, ints)), (λ h. omega (arith, ints)))

-- the numbers of the code tell the same
near_is_meets : (c : Point) (r : ℤ) (p q : Point) → IsEdgeNear c r p q ↔ MeetsCircle c r p q
near_is_meets c r p q = rw (gap_is p q) (
  (λ n. elim n [
    | inl h ↦ inl ((rim_near c r p).0 h)
    | inr n ↦ elim n [
      | inl h ↦ inr (inl ((rim_near c r q).0 h))
      | inr m ↦ inr (inr (m.0, m.1.0.0, m.1.0.1, (line c r p q).0 m.1.1))
    ]
  ]),
  (λ n. elim n [
    | inl h ↦ inl ((rim_near c r p).1 h)
    | inr n ↦ elim n [
      | inl h ↦ inr (inl ((rim_near c r q).1 h))
      | inr m ↦ inr (inr (m.0, ((m.1, m.2), (line c r p q).1 m.3)))
    ]
  ]),
)
  where
    line : (c : Point) (r : ℤ) (p q : Point)
        → ((circle_distance c r p *ℤ distance_2 p q) ≤ℤ (along p q c *ℤ along p q c))
        ↔ ((distance_2 c p *ℤ distance_2 p q -ℤ factor p q c *ℤ factor p q c)
        ≤ℤ (r *ℤ distance_2 p q))
    line c r p q = rw (gap_is c p) (near_by_rim (distance_2 c p) (distance_2 p q) (factor p q c) r)

-- an answer that tells A tells B, where A holds exactly if B does
told : {A B : Type 0} (b : Bool) → A ↔ B → (IsTrue b ↔ A) → IsTrue b ↔ B
told b e h = ((λ t. e.0 (h.0 t)), (λ s. h.1 (e.1 s)))

-- an answer that the numbers of the code tell is the test of the edge and the circle
pub near_answer : (c : Point) (r : ℤ) (p q : Point) (b : Bool) → (IsTrue b ↔ IsEdgeNear c r p q)
    → b ≡ meets_circle c r p q
near_answer c r p q b h = circle_answer c r p q b (told b (near_is_meets c r p q) h)

-- an answer that the numbers of the code tell says whether the edge has a point in the circle
pub near_inside : (c : Point) (r : ℤ) (p q : Point) (b : Bool) → (IsTrue b ↔ IsEdgeNear c r p q)
    → IsTrue b ↔ HasPointIn (InClosedCircle c r) p q
near_inside c r p q b h = circle_inside c r p q b (told b (near_is_meets c r p q) h)
