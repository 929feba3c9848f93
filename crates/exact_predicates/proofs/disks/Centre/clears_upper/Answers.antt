use Rattle.std.proofs.Common.{◌≡◌, arith}
use Rattle.std.specs.Prelude.{◌+ℤ◌, ◌-ℤ◌, ◌*ℤ◌}
use Rattle.std.proofs.lemmas.Int.{ints}
use Rattle.exact_predicates.proofs.Reaches.{reach_of, told_of_side}
use Rattle.exact_predicates.proofs.Widths.{kept, kept_long, kept_long_is}
use Rattle.exact_predicates.proofs.disks.Centre.clears_upper.Goals as goal

pub returns-in-Some : goal.returns-in-Some
returns-in-Some c =
    let s = c.args.self.now in
    let vector : (kept (kept c.from.result -ℤ kept c.args.from)) ≡ (c.in-Some.at -ℤ c.args.from) =
    omega (arith, ints, c.from.ensures, c.requires.from.low, c.requires.from.high) in
    told_of_side s.x s.y (λ n. c.args.along +ℤ (n -ℤ c.args.from) *ℤ s.scale) c.args.side c.in-Some.at
    (kept_long c.args.along +ℤ (kept (kept c.from.result -ℤ kept c.args.from)) *ℤ s.scale) c.is_clear.result c.in-Some.is
    (reach_of c.args.along (kept_long c.args.along) (c.in-Some.at -ℤ c.args.from) (kept (kept c.from.result -ℤ kept c.args.from)) s.scale
    (kept_long_is c.args.along (omega (arith, c.requires.along))) vector) c.is_clear.ensures
