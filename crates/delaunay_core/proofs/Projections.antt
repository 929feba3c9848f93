-- Dot products of the ways between points in range fit their width.
-- Lemmas: product_bound, stays, vector_passes, product_of_vectors, sum_of_products, along_bound,
-- rest_bound, gap_passes.
use Rattle.std.proofs.Common.{◌≡◌, ◌≤◌, [], ◌∷◌}
use Rattle.std.proofs.Common.{sym, subst, w64, to_z, of_z, arith, unsigned_abs, mul-le-mul}
use Rattle.std.specs.Prelude.{ℤ, pos, ◌+ℤ◌, ◌-ℤ◌, ◌*ℤ◌}
use Rattle.std.proofs.lemmas.Int.{ints, unsigned_abs-mul}
use Rattle.plane.specs.{gap, InRange, IsCoordinate, Point, whole}
use Rattle.plane.proofs.{◌⊕◌, ◌⊖◌, ◌⊗◌, num, ring_in}
use Rattle.delaunay_core.specs.{along}

-- a product of two ways
pub product_bound : (a b : ℤ) → unsigned_abs a ≤ 1073741824 → unsigned_abs b ≤ 1073741824
    → unsigned_abs (a *ℤ b) ≤ 1152921504606846976
product_bound a b h i = rw (unsigned_abs-mul a b) (mul-le-mul h i)

-- passed on, a number that fits stays
pub stays : (a : ℤ) → unsigned_abs a ≤ 2305843009213693952 → to_z w64 (of_z w64 a) ≡ a
stays a h = omega (arith, ints)

-- a way that was passed on is no longer
pub vector_passes : (a : ℤ) → unsigned_abs a ≤ 1073741824
    → unsigned_abs (to_z w64 (of_z w64 a)) ≤ 1073741824
vector_passes a h = omega (arith, ints)

-- a way that was passed on
vector_is : (a x y : ℤ) → unsigned_abs a ≤ 1073741824 → a ≡ y *ℤ pos 1 -ℤ x *ℤ pos 1
    → to_z w64 (of_z w64 a) ≡ y -ℤ x
vector_is a x y h e = omega (arith, ints)

-- a product of two ways that were passed on
pub product_of_vectors : (a b r x y z : ℤ) → unsigned_abs a ≤ 1073741824 → unsigned_abs b ≤
    1073741824
    → a ≡ y *ℤ pos 1 -ℤ x *ℤ pos 1 → b ≡ z *ℤ pos 1 -ℤ x *ℤ pos 1
    → r ≡ to_z w64 (of_z w64 a) *ℤ to_z w64 (of_z w64 b) → r ≡ (y -ℤ x) *ℤ (z -ℤ x)
product_of_vectors a b r x y z h i e f g =
    let d = vector_is a x y h e in
    let k = vector_is b x z i f in
    cc

-- the sum of two products
pub sum_of_products : (r s x y : ℤ) → unsigned_abs r ≤ 1152921504606846976
    → unsigned_abs s ≤ 1152921504606846976 → r ≡ x → s ≡ y
    → to_z w64 (of_z w64 (to_z w64 (of_z w64 r) +ℤ to_z w64 (of_z w64 s))) ≡ x +ℤ y
sum_of_products r s x y h i e f = omega (arith, ints)

-- the way between two coordinates
vector_bound : (x y : ℤ) → IsCoordinate x → IsCoordinate y → unsigned_abs (y -ℤ x) ≤ 1073741824
vector_bound x y h i = omega (arith, ints)

-- a dot product
dot_bound : (a b c d : ℤ) → unsigned_abs a ≤ 1073741824 → unsigned_abs b ≤ 1073741824
    → unsigned_abs c ≤ 1073741824 → unsigned_abs d ≤ 1073741824
    → unsigned_abs (a *ℤ b +ℤ c *ℤ d) ≤ 2305843009213693952
dot_bound a b c d h i j k =
    sum_bound (a *ℤ b) (c *ℤ d) (product_bound a b h i) (product_bound c d j k)
  where
    sum_bound : (x y : ℤ) → unsigned_abs x ≤ 1152921504606846976
        → unsigned_abs y ≤ 1152921504606846976 → unsigned_abs (x +ℤ y) ≤ 2305843009213693952
    sum_bound x y h i = omega (arith, ints)

-- the dot product of the ways
pub along_bound : (p q r : Point) → InRange p → InRange q → InRange r
    → unsigned_abs (along p q r) ≤ 2305843009213693952
along_bound p q r h i j =
    dot_bound (q.x -ℤ p.x) (r.x -ℤ p.x) (q.y -ℤ p.y) (r.y -ℤ p.y) (vector_bound p.x q.x h.x i.x)
    (vector_bound p.x r.x h.x j.x) (vector_bound p.y q.y h.y i.y) (vector_bound p.y r.y h.y j.y)

-- and what it lacks of the squared length, which is the dot product from the other end
rest_is : (p q r : Point) → gap (whole p) (whole q) -ℤ along p q r ≡ along q p r
rest_is p q r = ring_in (p.x ∷ p.y ∷ q.x ∷ q.y ∷ r.x ∷ r.y ∷ [])
    (λ px py qx qy rx ry. let o = num 1 in ((qx ⊗ o ⊖ px ⊗ o) ⊗ (qx ⊗ o ⊖ px ⊗ o)
    ⊕ (qy ⊗ o ⊖ py ⊗ o) ⊗ (qy ⊗ o ⊖ py ⊗ o)) ⊖ ((qx ⊖ px) ⊗ (rx ⊖ px) ⊕ (qy ⊖ py) ⊗ (ry ⊖ py)))
    (λ px py qx qy rx ry. (px ⊖ qx) ⊗ (rx ⊖ qx) ⊕ (py ⊖ qy) ⊗ (ry ⊖ qy))
    tt

-- the squared length less the dot product is at most 2^61 in absolute value, for points in range
pub rest_bound : (p q r : Point) → InRange p → InRange q → InRange r
    → unsigned_abs (gap (whole p) (whole q) -ℤ along p q r) ≤ 2305843009213693952
rest_bound p q r h i j = rw (rest_is p q r) (along_bound q p r i h j)

-- the squared distance of points in range, passed on
gap_bound : (p q : Point) → InRange p → InRange q
    → unsigned_abs (gap (whole p) (whole q)) ≤ 2305843009213693952
gap_bound p q h i = rw (sym (same p q)) (along_bound p q q h i i)
  where
    same : (p q : Point) → along p q q ≡ gap (whole p) (whole q)
    same p q = ring_in (p.x ∷ p.y ∷ q.x ∷ q.y ∷ [])
        (λ px py qx qy. (qx ⊖ px) ⊗ (qx ⊖ px) ⊕ (qy ⊖ py) ⊗ (qy ⊖ py))
        (λ px py qx qy. let o = num 1 in
        (qx ⊗ o ⊖ px ⊗ o) ⊗ (qx ⊗ o ⊖ px ⊗ o) ⊕ (qy ⊗ o ⊖ py ⊗ o) ⊗ (qy ⊗ o ⊖ py ⊗ o))
        tt

-- the squared distance of points in range keeps its value in 64 bits
pub gap_passes : (d : ℤ) (p q : Point) → InRange p → InRange q → d ≡ gap (whole p) (whole q)
    → to_z w64 (of_z w64 d) ≡ gap (whole p) (whole q)
gap_passes d p q h i e = subst (λ n. to_z w64 (of_z w64 n) ≡ gap (whole p) (whole q)) (sym e)
    (stays (gap (whole p) (whole q)) (gap_bound p q h i))
