use Rattle.std.proofs.Common.{◌≤◌, arith, inl, inr, refl}
use Rattle.std.proofs.lemmas.Bool.{cases_lt}
use Rattle.std.proofs.lemmas.Int.{ints}
use Rattle.decimal_numbers.proofs.Reaches.{far_if_moved_far, near_if_moved_near}
use Rattle.decimal_numbers.proofs.scale.Scale.coordinate.Goals as goal

pub returns-in-Some-clause-too_far : goal.returns-in-Some-clause-too_far
returns-in-Some-clause-too_far c =
    let units = c.in_ok-units.ensures in (
      λ e. absurd (cc),
      λ far. absurd (near_if_moved_near c.args.self.now.origin units.ok units.within (record {
        low = omega (arith, ints, c.in-Some.ensures);
        high = omega (arith, ints, c.in-Some.ensures);
      }) far.0 far.1),
    )

pub returns-in_default-clause-too_far : goal.returns-in_default-clause-too_far
returns-in_default-clause-too_far c =
    let units = c.in_ok-units.ensures in
    let few : c.args.number.now.digits ≤ c.args.self.now.digits =
    elim (cases_lt c.args.self.now.digits c.args.number.now.digits) [
      | inl less ↦ (let bad = units.too_fine.1 less in absurd (cc))
      | inr le ↦ le
    ] in (
      λ e. (
        few,
        far_if_moved_far c.args.self.now.origin units.ok few
            (λ w. omega (arith, ints, w.high, c.in-Some.ensures)),
      ),
      λ far. refl,
    )

pub returns-in_default-2-clause-too_far : goal.returns-in_default-2-clause-too_far
returns-in_default-2-clause-too_far c =
    let units = c.in_ok-units.ensures in
    let few : c.args.number.now.digits ≤ c.args.self.now.digits =
    elim (cases_lt c.args.self.now.digits c.args.number.now.digits) [
      | inl less ↦ (let bad = units.too_fine.1 less in absurd (cc))
      | inr le ↦ le
    ] in (
      λ e. (
        few,
        far_if_moved_far c.args.self.now.origin units.ok few
            (λ w. omega (arith, ints, w.low, c.in-Some.ensures)),
      ),
      λ far. refl,
    )
