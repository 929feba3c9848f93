use Rattle.std.proofs.Common.{arith}
use Rattle.hint_hierarchy.proofs.Held.{sites_at}
use Rattle.hint_hierarchy.proofs.hierarchy.HierarchyHintGeneratorWithBranchFactor.index_near.Goals as goal

pub nearest_from-requires-clause-sites : goal.nearest_from-requires-clause-sites
nearest_from-requires-clause-sites g c =
    sites_at _ c.index-layer.ensures (omega arith) c.requires.held
