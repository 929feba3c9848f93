use Rattle.std.proofs.Common.{rules}
use Rattle.std.proofs.lemmas.Option.{slice_get_read}
use Rattle.half_edge_dcel.proofs.{EdgeLists.moves_item, Fits.length_moved}
use Rattle.half_edge_dcel.proofs.growth.move_item.Goals as goal

pub returns-clause-moves : goal.returns-clause-moves
returns-clause-moves g c = moves_item _ _ c.replace-kept.result c.default.result
    (search (rules, slice_get_read)) c.default.ensures (search rules) c.push_reserved.ensures.items
    c.push_defaults.ensures.grows

pub returns-clause-len : goal.returns-clause-len
returns-clause-len g c = length_moved (returns-clause-moves g c)
