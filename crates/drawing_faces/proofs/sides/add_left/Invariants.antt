use Rattle.{drawing_faces.proofs.Beside.AddsPassed, drawing_faces.specs.position}
use Rattle.drawing_faces.proofs.sides.add_left.Given as goal

abbrev pub invariant-loop-item : goal.invariant-loop-item
invariant-loop-item g l = AddsPassed position (λ z. z) g.P.PlaneTests.sites
    g.P.PlaneTests.covered l.fn.way l.way l.fn.faces.items l.faces.items

abbrev pub decreases-loop-item : goal.decreases-loop-item
decreases-loop-item g l = l.way.left
