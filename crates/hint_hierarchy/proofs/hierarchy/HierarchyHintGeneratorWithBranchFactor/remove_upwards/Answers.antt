use Rattle.hint_hierarchy.proofs.Held.{changed_again, sites_there}
use Rattle.hint_hierarchy.proofs.hierarchy.HierarchyHintGeneratorWithBranchFactor.remove_upwards.Goals as goal

pub remove_from_layer-requires-clause-sites : goal.remove_from_layer-requires-clause-sites
remove_from_layer-requires-clause-sites g c =
    sites_there c.loop-level.invariant _ c.index_mut.ensures.value c.loop-level-test.true
    c.requires.held c.requires.swapped_site

pub loop-level-preserved : goal.loop-level-preserved
loop-level-preserved g c =
    changed_again c.loop-level.invariant _ c.index_mut.ensures.value c.loop-level-test.true
    c.remove_from_layer.new.layer c.remove_from_layer.ensures

pub returns-then-not-remove_from_layer : goal.returns-then-not-remove_from_layer
returns-then-not-remove_from_layer g c =
    (changed_again c.loop-level.invariant _ c.index_mut.ensures.value c.loop-level-test.true
    c.remove_from_layer.new.layer c.remove_from_layer.ensures).more
