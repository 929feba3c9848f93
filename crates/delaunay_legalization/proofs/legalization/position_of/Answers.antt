use Rattle.std.proofs.Common.{ap, sym, ◌∙◌}
use Rattle.std.proofs.lemmas.Option.{get_or_from_slice_get}
use Rattle.delaunay_legalization.proofs.EdgePairs.{Contains-map}
use Rattle.delaunay_legalization.proofs.legalization.position_of.Goals as goal

pub returns-clause-listed : goal.returns-clause-listed
returns-clause-listed g c =
    Contains-map g.V.HasPosition.place c.args.dcel.now.vertices c.args.vertex
    c.vertex_data.result.now _
    c.requires
    (ap g.V.HasPosition.place (get_or_from_slice_get c.args.dcel.now.vertices c.args.vertex _ _
    c.vertex_data.ensures) ∙ sym c.position.ensures)
