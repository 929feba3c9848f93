use Rattle.std.proofs.Common.{rules}
use Rattle.hint_hierarchy.proofs.hierarchy.HierarchyHintGeneratorWithBranchFactor.give_up.Goals as goal

pub returns : goal.returns
returns g c = search rules
