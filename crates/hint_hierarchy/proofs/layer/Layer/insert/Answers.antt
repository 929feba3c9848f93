use Rattle.hint_hierarchy.proofs.{Edited.inserted_at_most, Filtered.HasBit, Held.all_with}
use Rattle.hint_hierarchy.proofs.layer.Layer.insert.Goals as goal

pub invariant_of-self-in-Ok : goal.invariant_of-self-in-Ok
invariant_of-self-in-Ok g c = all_with (HasBit c.add_to_filter.new.filter) _ _ _
    c.add_to_filter.ensures.all c.add_to_filter.ensures.added
    (inserted_at_most c.insert.ensures.inserts)

pub returns-in-Ok : goal.returns-in-Ok
returns-in-Ok g c = rw (← c.self.view_is) (inserted_at_most c.insert.ensures.inserts)

pub invariant_of-self-in-Err : goal.invariant_of-self-in-Err
invariant_of-self-in-Err g c = all_with (HasBit c.add_to_filter.new.filter) _ _ _
    c.add_to_filter.ensures.all c.add_to_filter.ensures.added
    (inserted_at_most c.insert.ensures.inserts)

pub returns-in-Err : goal.returns-in-Err
returns-in-Err g c = rw (← c.self.view_is) (inserted_at_most c.insert.ensures.inserts)
