use Rattle.std.proofs.Common.{inl, inr}
use Rattle.std.proofs.lemmas.Result.{IfOk-weaker}
use Rattle.delaunay_edit.proofs.EmptyRound.{none_counted}
use Rattle.delaunay_interface.proofs.triangulation_core.TriangulationCore.sides_to_test.Goals as goal

pub returns-then-self-eq0 : goal.returns-then-self-eq0
returns-then-self-eq0 g c =
    rw (← c.self.view_is) (inl (none_counted _ _ _ _ c.self.invariant.0 c.if-self-eq0.true))

pub returns : goal.returns
returns g c = rw (← c.self.view_is)
    (IfOk-weaker c.sides_of_hole.result _ _ (λ ps h. inr h) c.sides_of_hole.ensures)
