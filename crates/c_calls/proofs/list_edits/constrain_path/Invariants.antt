use Rattle.std.proofs.Common.{◌≡◌, ◌+◌, false, take}
use Rattle.c_calls.specs.{kept_place, Lists.AddsInTurn, Lists.chain_segments}
use Rattle.c_calls.proofs.list_edits.constrain_path.Given as goal

abbrev pub invariant-loop-index : goal.invariant-loop-index
invariant-loop-index l =
    (l.made + 1 ≡ l.index)
    × AddsInTurn kept_place (take l.made (chain_segments l.vertices false)) l.fn.points l.points
