use Rattle.std.proofs.Common.{◌≡◌, ◌≤◌, w64, to_z, of_z, arith, unsigned_abs}
use Rattle.std.specs.Prelude.{ℤ, ◌*ℤ◌}
use Rattle.std.proofs.lemmas.Int.{ints}
use Rattle.delaunay_core.proofs.Projections.{product_bound, stays}
use Rattle.delaunay_core.proofs.projection.product.Goals as goal

-- the product of two numbers that were passed on
multiplied : (a b : ℤ) → unsigned_abs a ≤ 1073741824 → unsigned_abs b ≤ 1073741824
    → to_z w64 (of_z w64 (to_z w64 (of_z w64 a) *ℤ to_z w64 (of_z w64 b))) ≡ a *ℤ b
multiplied a b h i =
    let same_a : to_z w64 (of_z w64 a) ≡ a = omega (arith, ints) in
    let same_b : to_z w64 (of_z w64 b) ≡ b = omega (arith, ints) in
    let bound = product_bound a b h i in
    rw (same_a, same_b) (stays (a *ℤ b) (omega arith))

pub returns-clause-value : goal.returns-clause-value
returns-clause-value c = multiplied c.args.a c.args.b c.requires.a_bound c.requires.b_bound

pub returns-clause-bound : goal.returns-clause-bound
returns-clause-bound c = rw (multiplied c.args.a c.args.b c.requires.a_bound c.requires.b_bound)
    (product_bound c.args.a c.args.b c.requires.a_bound c.requires.b_bound)
