use Rattle.std.proofs.Common.{◌≡◌, ◌≤◌, unsigned_abs}
use Rattle.std.specs.Prelude.{ℤ, ◌-ℤ◌}
use Rattle.plane.specs.{gap, InRange, Point, whole as fraction}
use Rattle.delaunay_core.specs.{along, place_of}
use Rattle.delaunay_core.proofs.Projections.{along_bound, gap_passes, product_of_vectors}
use Rattle.delaunay_core.proofs.Projections.{rest_bound, sum_of_products, vector_passes}
use Rattle.delaunay_core.proofs.projection.project_point.Goals as goal

pub product-requires-clause-a_bound : goal.product-requires-clause-a_bound
product-requires-clause-a_bound g c = vector_passes c.difference.result c.difference.ensures.bound

pub product-requires-clause-b_bound : goal.product-requires-clause-b_bound
product-requires-clause-b_bound g c = vector_passes c.difference-2.result
    c.difference-2.ensures.bound

pub product-requires-2-clause-a_bound : goal.product-requires-2-clause-a_bound
product-requires-2-clause-a_bound g c = vector_passes c.difference-3.result
    c.difference-3.ensures.bound

pub product-requires-2-clause-b_bound : goal.product-requires-2-clause-b_bound
product-requires-2-clause-b_bound g c = vector_passes c.difference-4.result
    c.difference-4.ensures.bound

pub returns-clause-length_2 : goal.returns-clause-length_2
returns-clause-length_2 g c =
    gap_passes _ (place_of g.S.SpadeNum.whole c.args.p1) (place_of g.S.SpadeNum.whole c.args.p2)
    c.requires.p1_in_range c.requires.p2_in_range c.distance_2.ensures

pub returns-clause-factor : goal.returns-clause-factor
returns-clause-factor g c =
    let p = place_of g.S.SpadeNum.whole c.args.p1 in
    let q = place_of g.S.SpadeNum.whole c.args.p2 in
    let r = place_of g.S.SpadeNum.whole c.args.query_point in
    sum_of_products _ _ _ _ c.product.ensures.bound c.product-2.ensures.bound
    (product_of_vectors _ _ _ p.x q.x r.x c.difference.ensures.bound c.difference-2.ensures.bound
    c.difference.ensures.value c.difference-2.ensures.value c.product.ensures.value)
    (product_of_vectors _ _ _ p.y q.y r.y c.difference-3.ensures.bound c.difference-4.ensures.bound
    c.difference-3.ensures.value c.difference-4.ensures.value c.product-2.ensures.value)

-- numbers that are the dot product and the squared length fit
both_fit : (p q r : Point) (f l : ℤ) → InRange p → InRange q → InRange r → f ≡ along p q r
    → l ≡ gap (fraction p) (fraction q)
    → (unsigned_abs f ≤ 2305843009213693952) × (unsigned_abs (l -ℤ f) ≤ 2305843009213693952)
both_fit p q r f l h i j e d = (rw e (along_bound p q r h i j), rw (e, d) (rest_bound p q r h i j))

pub invariant_of-result : goal.invariant_of-result
invariant_of-result g c =
    let p = place_of g.S.SpadeNum.whole c.args.p1 in
    let q = place_of g.S.SpadeNum.whole c.args.p2 in
    let r = place_of g.S.SpadeNum.whole c.args.query_point in
    let fit =
    both_fit p q r _ _ c.requires.p1_in_range c.requires.p2_in_range c.requires.query_in_range
    (sum_of_products _ _ _ _ c.product.ensures.bound c.product-2.ensures.bound
    (product_of_vectors _ _ _ p.x q.x r.x c.difference.ensures.bound c.difference-2.ensures.bound
    c.difference.ensures.value c.difference-2.ensures.value c.product.ensures.value)
    (product_of_vectors _ _ _ p.y q.y r.y c.difference-3.ensures.bound c.difference-4.ensures.bound
    c.difference-3.ensures.value c.difference-4.ensures.value c.product-2.ensures.value))
    (gap_passes _ p q c.requires.p1_in_range c.requires.p2_in_range c.distance_2.ensures) in
    record { factor_fits = fit.0; rest_fits = fit.1 }
