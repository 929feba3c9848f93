use Rattle.delaunay_edit.proofs.SeekingEnds.{more_than_two, not_two}
use Rattle.delaunay_edit.proofs.halves.two_constraint_ends.Goals as goal

pub returns-in_err-first : goal.returns-in_err-first
returns-in_err-first g c = rw c.from_residual.ensures (not_two _ _ _ c.in_err-first.ensures)

pub returns-in_err-second : goal.returns-in_err-second
returns-in_err-second g c =
    rw c.from_residual-in_err-second.ensures (not_two _ _ _ c.in_err-second.ensures)

pub returns-in-Some : goal.returns-in-Some
returns-in-Some g c = more_than_two _ _ c.in_ok-first.first c.in_ok-second.second
    c.in_ok-first.ensures c.in_ok-second.ensures c.in-Some.field-0 c.in-Some.ensures
