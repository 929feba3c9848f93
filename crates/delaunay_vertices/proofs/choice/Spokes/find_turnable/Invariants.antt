use Rattle.std.specs.Prelude.{IsFalse}
use Rattle.{delaunay_vertices.proofs.Searching.IsSeeking, delaunay_vertices.specs.Star.IsTurnable}
use Rattle.delaunay_vertices.proofs.choice.Spokes.find_turnable.Given as goal

abbrev pub invariant-loop-i : goal.invariant-loop-i
invariant-loop-i g l =
    IsSeeking (λ points m e. IsFalse l.is_clear × IsTurnable points m e) l.self l.i l.edge
