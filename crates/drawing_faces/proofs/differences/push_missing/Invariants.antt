use Rattle.std.proofs.Common.{◌≡◌, ℕ, take}
use Rattle.{drawing_faces.specs.has, drawing_faces.specs.Parity.or_only_first}
use Rattle.drawing_faces.proofs.differences.push_missing.Given as goal

abbrev pub invariant-loop-number : goal.invariant-loop-number
invariant-loop-number l = (k : ℕ) → has l.list.items k
    ≡ or_only_first (has l.fn.list.items k) (has (take l.number-index l.these) k) (has l.those k)
