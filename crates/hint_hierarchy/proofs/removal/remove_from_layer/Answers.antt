use Rattle.std.proofs.Common.{refl}
use Rattle.delaunay_core.specs.{place_if, place_of}
use Rattle.hint_hierarchy.proofs.Held.{all_with, or_with}
use Rattle.hint_hierarchy.proofs.removal.remove_from_layer.Goals as goal

pub remove-requires-then-insert : goal.remove-requires-then-insert
remove-requires-then-insert g c =
    let q = place_of g.S.SpadeNum.whole c.in-Some-None-Some.position in
    all_with (g.P.PlaneTests.sites c.args.tests.now) _ _ q c.requires.sites
    (c.requires.swapped_site q (rw c.in-Some-None-Some.is-2 refl)) c.insert.ensures

pub returns-then-insert : goal.returns-then-insert
returns-then-insert g c = λ p h.
    or_with _ _ _ (place_if g.S.SpadeNum.whole c.args.swapped_in) c.insert.ensures
    (rw c.in-Some-None-Some.is-2 refl) p (c.remove-then-insert.ensures p h)

pub returns-else-insert : goal.returns-else-insert
returns-else-insert g c =
    or_with _ _ _ (place_if g.S.SpadeNum.whole c.args.swapped_in) c.insert.ensures
    (rw c.in-Some-None-Some.is-2 refl)
