use Rattle.std.proofs.Common.{◌≡◌, ℕ, true, take}
use Rattle.drawing_faces.specs.{either, has}
use Rattle.drawing_faces.proofs.differences.first_fault.Given as goal

abbrev pub invariant-loop-number : goal.invariant-loop-number
invariant-loop-number l = (k : ℕ) → has (take l.number-index l.numbers) k ≡ true
    → has l.list k ≡ either (has l.one k) (has l.other k)
