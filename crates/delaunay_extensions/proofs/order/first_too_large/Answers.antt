use Rattle.std.proofs.Common.{rules, refl, subst}
use Rattle.std.specs.Prelude.{All}
use Rattle.std.proofs.lemmas.List.{take_all}
use Rattle.std.proofs.lemmas.List.Elements.{All-more}
use Rattle.std.proofs.lemmas.Option.{slice_get_read}
use Rattle.plane.specs.{InRange}
use Rattle.delaunay_extensions.proofs.order.first_too_large.Goals as goal

pub loop-place-preserved : goal.loop-place-preserved
loop-place-preserved g c =
    let inside : InRange (g.V.HasPosition.place c.index-vertices-place.result) = search rules in
    All-more (λ v. InRange (g.V.HasPosition.place v)) c.args.vertices.now c.loop-place.place _
    c.loop-place-test.true c.loop-place.invariant
    (subst (λ v. InRange (g.V.HasPosition.place v)) c.index-vertices-place.is inside)

pub returns : goal.returns
returns g c = subst (All (λ v. InRange (g.V.HasPosition.place v)))
    (take_all c.loop-place.place c.args.vertices.now c.loop-place-test.false)
    c.loop-place.invariant

pub returns-then-is_err : goal.returns-then-is_err
returns-then-is_err g c = record {
  vertex = c.index-vertices-place.result;
  there = slice_get_read _ _ _ _ refl c.loop-place-test.true c.index-vertices-place.is;
  outside = search rules;
  first = c.loop-place.invariant;
}
