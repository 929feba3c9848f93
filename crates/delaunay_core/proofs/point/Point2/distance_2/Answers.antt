use Rattle.std.proofs.Common.{◌≡◌, ◌≤◌, ◌∙◌, ap, w64, to_z, of_z, arith, unsigned_abs, FitsSigned}
use Rattle.std.specs.Prelude.{ℤ, ◌+ℤ◌, ◌*ℤ◌}
use Rattle.std.proofs.lemmas.Int.{ints}
use Rattle.delaunay_core.proofs.Projections.{product_bound, sum_of_products, vector_passes}
use Rattle.delaunay_core.proofs.point.Point2.distance_2.Goals as goal

-- the square of a difference that was passed on
abbrev square : ℤ → ℤ
square a = let b : ℤ = to_z w64 (of_z w64 a) in b *ℤ b

fits : (a : ℤ) → unsigned_abs a ≤ 1073741824 → unsigned_abs (square a) ≤ 1152921504606846976
fits a h = let b : ℤ = to_z w64 (of_z w64 a) in product_bound b b (vector_passes a h)
    (vector_passes a h)

squared : (a x : ℤ) → unsigned_abs a ≤ 1073741824 → a ≡ x → square a ≡ x *ℤ x
squared a x h is =
    let same : to_z w64 (of_z w64 a) ≡ a = omega (arith, ints) in ap (λ n. n *ℤ n) (same ∙ is)

sum_fits : (r s : ℤ) → unsigned_abs r ≤ 1152921504606846976 → unsigned_abs s ≤ 1152921504606846976
    → FitsSigned w64 (to_z w64 (of_z w64 r) +ℤ to_z w64 (of_z w64 s))
sum_fits r s h i = omega (arith, ints)

pub overflow_add-result : goal.overflow_add-result
overflow_add-result g c =
    sum_fits (square c.difference-x.result) (square c.difference-y.result)
    (fits c.difference-x.result c.difference-x.ensures.bound)
    (fits c.difference-y.result c.difference-y.ensures.bound)

pub returns : goal.returns
returns g c =
    let x = c.difference-x.ensures in let y = c.difference-y.ensures in
    let dx = c.difference-x.result in let dy = c.difference-y.result in
    sum_of_products (square dx) (square dy) _ _ (fits dx x.bound) (fits dy y.bound)
    (squared dx _ x.bound x.value) (squared dy _ y.bound y.value)
