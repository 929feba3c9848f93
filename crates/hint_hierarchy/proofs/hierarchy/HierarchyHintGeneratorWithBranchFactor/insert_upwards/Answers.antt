use Rattle.std.proofs.Common.{arith}
use Rattle.hint_hierarchy.proofs.Held.{changed_again, changed_then, sites_since, sites_there}
use Rattle.hint_hierarchy.proofs.hierarchy.HierarchyHintGeneratorWithBranchFactor.insert_upwards.Goals as goal

pub insert-requires-clause-sites : goal.insert-requires-clause-sites
insert-requires-clause-sites g c =
    sites_there c.loop-level.invariant _ c.index_mut.ensures.value c.loop-level-test.true
    c.requires.held (λ p e. rw e c.requires.site)

pub loop-level-preserved : goal.loop-level-preserved
loop-level-preserved g c =
    changed_again c.loop-level.invariant _ c.index_mut.ensures.value c.loop-level-test.true
    c.insert.new.self c.insert.ensures

pub returns-then-not-insert : goal.returns-then-not-insert
returns-then-not-insert g c =
    (changed_again c.loop-level.invariant _ c.index_mut.ensures.value c.loop-level-test.true
    c.insert.new.self c.insert.ensures).more

pub add_layer-requires : goal.add_layer-requires
add_layer-requires g c =
    let site = c.requires.site in
    (omega arith, (sites_since c.loop-level.invariant c.requires.held (λ p e. rw e site), site))

pub returns : goal.returns
returns g c = changed_then c.loop-level.invariant c.add_layer.ensures
