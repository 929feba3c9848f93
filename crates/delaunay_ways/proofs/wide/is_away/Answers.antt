use Rattle.std.proofs.Common.{◌∙◌, w64}
use Rattle.std.proofs.lemmas.Int.{to_z-of_z}
use Rattle.{delaunay_core.specs.place_of, delaunay_ways.proofs.Heights.away_told}
use Rattle.delaunay_ways.proofs.wide.is_away.Goals as goal

pub returns : goal.returns
returns g c =
    let point = place_of g.S.SpadeNum.whole in
    away_told c.args.width_2 _ _ _ (point c.args.a) (point c.args.b) (point c.args.c)
    c.is_at_most.result (to_z-of_z w64 c.args.width_2 c.ranges.width_2)
    (to_z-of_z w64 c.distance_2.result (record { sfits = c.distance_2.type_inv })
    ∙ c.distance_2.ensures)
    (to_z-of_z w64 c.turn_at.result (record { sfits = c.turn_at.type_inv }) ∙ c.turn_at.ensures)
    c.is_at_most.ensures
