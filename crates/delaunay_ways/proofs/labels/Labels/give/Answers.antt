use Rattle.std.proofs.Common.{◌∙◌, ap}
use Rattle.std.specs.Prelude.{None, not}
use Rattle.std.proofs.lemmas.List.{get_or_read}
use Rattle.delaunay_ways.proofs.Flooding.{gives_had}
use Rattle.delaunay_ways.proofs.labels.Labels.give.Goals as goal

pub returns-else-is_none-clause-gives : goal.returns-else-is_none-clause-gives
returns-else-is_none-clause-gives c = gives_had c.args.self.now.labels.items
    c.args.self.now.left.items c.args.vertex c.args.label c.index.result.now
    (get_or_read c.args.self.now.labels.items c.args.vertex _ c.requires c.index.ensures None)
    (c.is_none.ensures ∙ ap not c.if-is_none.false)
