use Rattle.std.proofs.Common.{◌≡◌, [], refl, sym, ◌∙◌, ap, inl, inr}
use Rattle.{delaunay_core.specs.OutOfMemory, triangulate_run.proofs.Stages.joins_there}
use Rattle.triangulate_run.specs.{Refused, reply_text, stage_of}
use Rattle.triangulate_run.specs.declared.reply.Reply.TheVariants.{NoVertex}
use Rattle.triangulate_run.proofs.engine.PointEngine.constrain.Goals as goal

pub returns-in_default-clause-answered : goal.returns-in_default-clause-answered
returns-in_default-clause-answered g c =
    (reply_text NoVertex, inr (NoVertex, (c.in_default.ensures, refl), refl), c.put_reply.ensures)

pub returns-in-Plain-clause-answered : goal.returns-in-Plain-clause-answered
returns-in-Plain-clause-answered g c =
    let old = stage_of c.args.self.now.triangulation in
    let same = c.take_constraints.ensures.stage in
    let none : old.plain.constraints ≡ [] =
    ap (λ s. s.plain.constraints) (sym same ∙ ap stage_of c.in-Plain.is) in
    let refused = Refused OutOfMemory in (
      reply_text refused,
      inr (refused, (c.in-Some.ensures.2, inl none, same), refl),
      c.put_reply-in-Plain.ensures,
    )

pub returns-in-Constrained-clause-answered : goal.returns-in-Constrained-clause-answered
returns-in-Constrained-clause-answered g c =
    let told = c.constrain.ensures.answered in
    let is = c.in-Some.ensures in
    let same = ap stage_of (sym c.in-Constrained.is) ∙ c.take_constraints.ensures.stage in
    (told.0, joins_there _ _ same _ _ _ _ is.0 is.1 _ _ told.1, told.2)
