use Rattle.std.specs.Prelude.{All, take}
use Rattle.plane.specs.{InRange}
use Rattle.delaunay_extensions.proofs.order.first_too_large.Given as goal

abbrev pub invariant-loop-place : goal.invariant-loop-place
invariant-loop-place g l = All (λ v. InRange (g.V.HasPosition.place v)) (take l.place l.vertices)
