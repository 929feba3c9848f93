use Rattle.std.proofs.Common.{◌≤◌, ℕ, Bool, List, length}
use Rattle.std.specs.Prelude.{Contains}
use Rattle.{delaunay_ways.specs.AreSteps, delaunay_ways.specs.IsStep, plane.specs.Triangulation}
use Rattle.delaunay_ways.proofs.PathsRead.{IsRead}
use Rattle.delaunay_ways.proofs.reading.read_path.Given as goal

abbrev pub invariant-loop-step : goal.invariant-loop-step
invariant-loop-step l =
    (l.step.before ≤ length l.steps)
    × ((t : Triangulation) (free : ℕ → Bool) (first last : List ℕ) → AreSteps t free last l.steps
    → IsStep t free last l.steps l.fn.from.vertex l.fn.from.before
    → Contains first l.fn.from.vertex
    → IsRead t free first last l.steps l.path.items l.step.vertex l.step.before)

abbrev pub decreases-loop-step : goal.decreases-loop-step
decreases-loop-step l = l.step.before
