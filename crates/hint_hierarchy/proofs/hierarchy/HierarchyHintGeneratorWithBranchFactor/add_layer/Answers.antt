use Rattle.hint_hierarchy.proofs.Held.{pushed_first, site_of}
use Rattle.hint_hierarchy.proofs.hierarchy.HierarchyHintGeneratorWithBranchFactor.add_layer.Goals as goal

pub insert-requires-clause-site : goal.insert-requires-clause-site
insert-requires-clause-site g c =
    site_of c.requires.held c.requires.site c.first_or-first.ensures

pub returns-then-insert : goal.returns-then-insert
returns-then-insert g c = pushed_first _ c.insert.new.self c.push.ensures.items
    c.new-layer.ensures c.insert.ensures c.first_or-first.ensures
