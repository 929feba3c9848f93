use Rattle.std.specs.Prelude.{Ok, ⊤}
use Rattle.delaunay_core.specs.{place_of}
use Rattle.{hint_hierarchy.proofs.Edited.copied, hint_hierarchy.proofs.Told.same_place}
use Rattle.hint_hierarchy.proofs.layer.Layer.try_clone.Goals as goal

pub returns : goal.returns
returns g c =
    rw (← c.self.view_is)
    (copied {E = ⊤} (λ v w. g.S.Clone.is_clone v.x w.x × g.S.Clone.is_clone v.y w.y) _ _ _
    (place_of g.S.SpadeNum.whole)
    (same_place g.S.SpadeNum.whole g.S.Clone.is_clone g.met.S.SpadeNum.clone_is_equal)
    c.self.inside.triangulation (Ok c.in_ok-triangulation.triangulation)
    c.in_ok-triangulation.ensures.copy)
