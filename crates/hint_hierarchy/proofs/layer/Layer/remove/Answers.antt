use Rattle.hint_hierarchy.proofs.{Edited.removed_at_most, Filtered.filtered_after}
use Rattle.hint_hierarchy.proofs.layer.Layer.remove.Goals as goal

pub invariant_of-self : goal.invariant_of-self
invariant_of-self g c =
    filtered_after _ _ _ c.self.invariant (removed_at_most c.remove.ensures.removes)

pub returns : goal.returns
returns g c = rw (← c.self.view_is) (removed_at_most c.remove.ensures.removes)
