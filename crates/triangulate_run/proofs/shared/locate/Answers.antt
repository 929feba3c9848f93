use Rattle.triangulate_run.specs.{position}
use Rattle.triangulate_run.proofs.{Insertions.listed_if_known, Locations.located}
use Rattle.triangulate_run.proofs.shared.locate.Goals as goal

pub returns : goal.returns
returns g c =
    let listed = listed_if_known _ _ c.index_of.result c.if-is_none.ensures c.index_of.ensures in
    located _ _ _ c.location_reply.result listed
    (c.location_reply.ensures (position c.args.point) c.locate-answer.ensures.location)
