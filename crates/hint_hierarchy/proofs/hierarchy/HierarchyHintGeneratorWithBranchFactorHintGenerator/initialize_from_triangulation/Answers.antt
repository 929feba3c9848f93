use Rattle.std.proofs.Common.{arith}
use Rattle.std.proofs.lemmas.List.Elements.{All-contains}
use Rattle.delaunay_core.specs.{place_of}
use Rattle.hint_hierarchy.proofs.Told.{element_is_listed, of_then_with, sites_of}
use Rattle.hint_hierarchy.proofs.hierarchy.HierarchyHintGeneratorWithBranchFactorHintGenerator.initialize_from_triangulation.Goals as goal

pub loop-position-init : goal.loop-position-init
loop-position-init g c = λ p h. absurd (c.new-hierarchy.ensures p h)

pub append-requires : goal.append-requires
append-requires g c =
    let sites = g.P.PlaneTests.sites c.args.tests.now in let all = c.requires.sites in
    let listed = element_is_listed (place_of g.S.SpadeNum.whole) c.args.positions.now _ _
    c.position-item.is c.loop-position-test.true in
    let held = sites_of sites _ _ all c.loop-position.invariant in
    (omega arith, (held, All-contains sites _ _ all listed))

pub loop-position-preserved : goal.loop-position-preserved
loop-position-preserved g c = of_then_with _ _ _ _ c.loop-position.invariant (element_is_listed
    (place_of g.S.SpadeNum.whole) _ _ _ c.position-item.is c.loop-position-test.true)
    c.append.ensures
