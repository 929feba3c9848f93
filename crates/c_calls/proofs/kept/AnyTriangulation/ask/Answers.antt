use Rattle.std.proofs.Common.{sym, subst}
use Rattle.c_calls.specs.View.{kept_view}
use Rattle.c_calls.proofs.kept.AnyTriangulation.ask.Goals as goal

pub returns-in-Plain : goal.returns-in-Plain
returns-in-Plain g c =
    let s = c.ask in
    subst (λ k. g.Q.Query.tells c.args.query.now (kept_view k) s.result c.args.told.now s.new.told
    c.args.list.now s.new.list) (sym c.in-Plain.is) s.ensures

pub returns-in-Constrained : goal.returns-in-Constrained
returns-in-Constrained g c =
    let s = c.ask-in-Constrained in
    subst (λ k. g.Q.Query.tells c.args.query.now (kept_view k) s.result c.args.told.now s.new.told
    c.args.list.now s.new.list) (sym c.in-Constrained.is) s.ensures
