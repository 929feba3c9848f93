use Rattle.std.proofs.Common.{◌≡◌, arith}
use Rattle.std.specs.Prelude.{◌+ℤ◌, ◌-ℤ◌, ◌*ℤ◌}
use Rattle.std.proofs.lemmas.Int.{ints}
use Rattle.exact_predicates.proofs.Reaches.{reach_of, told_of_side}
use Rattle.exact_predicates.proofs.Widths.{kept, kept_long, kept_long_is}
use Rattle.exact_predicates.proofs.disks.Centre.clears_lower.Goals as goal

pub returns-in-Some : goal.returns-in-Some
returns-in-Some c =
    let s = c.args.self.now in
    let vector : (kept (kept c.args.from -ℤ kept c.from.result)) ≡ (c.args.from -ℤ c.in-Some.at) =
    omega (arith, ints, c.from.ensures, c.requires.from.low, c.requires.from.high) in
    told_of_side s.x s.y (λ n. c.args.along +ℤ (c.args.from -ℤ n) *ℤ s.scale) c.args.side c.in-Some.at
    (kept_long c.args.along +ℤ (kept (kept c.args.from -ℤ kept c.from.result)) *ℤ s.scale) c.is_clear.result c.in-Some.is
    (reach_of c.args.along (kept_long c.args.along) (c.args.from -ℤ c.in-Some.at) (kept (kept c.args.from -ℤ kept c.from.result)) s.scale
    (kept_long_is c.args.along (omega (arith, c.requires.along))) vector) c.is_clear.ensures
