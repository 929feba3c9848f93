use Rattle.std.proofs.Common.{◌∙◌, sym}
use Rattle.half_edge_links.proofs.{Growing.Grown.extends_line, Growing.SplitLine.into_outer}
use Rattle.half_edge_links.proofs.links.Links.extend_line.Goals as goal

pub hang-requires-clause-outer : goal.hang-requires-clause-outer
hang-requires-clause-outer g c =
    rw c.reversed.ensures (into_outer _ _ _ c.out_edge.ensures.valid.sound c.requires.line
    (sym c.out_edge.ensures.value ∙ c.in-Some.is))

pub returns-in-Some-clause-extends : goal.returns-in-Some-clause-extends
returns-in-Some-clause-extends g c =
    extends_line _ c.hang.new.self.mesh _ _ _ c.out_edge.ensures.valid.sound
    (sym c.out_edge.ensures.value ∙ c.in-Some.is)
    (rw c.reversed.ensures at c.hang.ensures.hangs)
