use Rattle.std.proofs.Common.{◌∙◌, ap, arith}
use Rattle.std.specs.Prelude.{◌+ℤ◌, ◌*ℤ◌, unsigned_abs}
use Rattle.std.proofs.lemmas.Int.{ints}
use Rattle.exact_predicates.proofs.Squares.{clear_by_squares}
use Rattle.exact_predicates.proofs.Widths.{kept_long_is, wide_product_of, wide_sum_of}
use Rattle.exact_predicates.proofs.disks.Centre.is_clear.Goals as goal

pub returns-then-reach-ge0 : goal.returns-then-reach-ge0
returns-then-reach-ge0 c =
    let s = c.args.self.now in
    let product = wide_product_of c.args.inner s.scale c.requires.inner c.requires.scale
    c.long_product.ensures.value in
    clear_by_squares s.x s.y c.sum-reach.result (c.args.along +ℤ c.args.inner *ℤ s.scale)
    c.unsigned_abs.result c.unsigned_abs-then-reach-ge0.result
    c.unsigned_abs-then-reach-ge0-2.result c.is_at_most.result
    (c.unsigned_abs.ensures.value
    ∙ ap unsigned_abs (kept_long_is s.x (omega (arith, c.requires.x))))
    (c.unsigned_abs-then-reach-ge0.ensures.value
    ∙ ap unsigned_abs (kept_long_is s.y (omega (arith, c.requires.y))))
    (c.unsigned_abs-then-reach-ge0-2.ensures.value
    ∙ ap unsigned_abs (kept_long_is c.sum-reach.result (omega (arith, c.sum-reach.ensures.bound))))
    (wide_sum_of c.args.along c.long_product.result c.requires.along c.long_product.ensures.bound c.sum-reach.ensures.value product)
    (omega (arith, ints, c.if-reach-ge0.true, c.sum-reach.ensures.bound)) c.is_at_most.ensures
