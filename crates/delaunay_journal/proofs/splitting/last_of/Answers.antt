use Rattle.std.proofs.Common.{◌∙◌}
use Rattle.delaunay_journal.proofs.Outcomes.{last_of_list}
use Rattle.delaunay_journal.proofs.splitting.last_of.Goals as goal

pub returns : goal.returns
returns c =
    last_of_list c.args.segments.now c.copied.result (c.copied.ensures ∙ c.last.ensures.value)
