use Rattle.std.proofs.Common.{◌∙◌, map, sym, ap, arith}
use Rattle.std.proofs.lemmas.Grind.{common_steps}
use Rattle.delaunay_interface.proofs.Stepping.{inserted_sites}
use Rattle.{delaunay_extensions.proofs.Turns.next_site, delaunay_extensions.specs.Order.entry_of}
use Rattle.delaunay_extensions.proofs.bulk_insertion.BulkInsertion.insert_next.Goals as goal

pub insert_with_hint-requires-clause-new_site : goal.insert_with_hint-requires-clause-new_site
insert_with_hint-requires-clause-new_site g c =
    next_site g.V.HasPosition.place (g.P.PlaneTests.sites c.args.tests.now) c.requires.new_sites
    (sym c.self.view_is ∙ ap (map entry_of) c.in-Some.ensures.items)

pub returns-in-Ok-clause-sites : goal.returns-in-Ok-clause-sites
returns-in-Ok-clause-sites g c =
    let place = g.V.HasPosition.place in
    let sites = g.P.PlaneTests.sites c.args.tests.now in
    inserted_sites place g.T.Constraints.ConstraintMarker.constraints _ _ _ _
    c.in-Ok.ensures.inserts sites c.requires.sites
    (next_site place sites c.requires.new_sites
    (sym c.self.view_is ∙ ap (map entry_of) c.in-Some.ensures.items))

pub returns-in_default-clause-inserts : goal.returns-in_default-clause-inserts
returns-in_default-clause-inserts g c = grind (arith, common_steps)
