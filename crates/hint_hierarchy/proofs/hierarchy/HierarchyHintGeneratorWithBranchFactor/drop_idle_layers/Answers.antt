use Rattle.std.proofs.Common.{◌-◌}
use Rattle.hint_hierarchy.proofs.Held.{held_in_first}
use Rattle.hint_hierarchy.proofs.hierarchy.HierarchyHintGeneratorWithBranchFactor.drop_idle_layers.Goals as goal

pub returns-then-is_idle : goal.returns-then-is_idle
returns-then-is_idle g c = held_in_first (c.len-layers.result - 1) c.truncate.ensures.items
