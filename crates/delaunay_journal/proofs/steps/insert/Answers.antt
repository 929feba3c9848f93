use Rattle.delaunay_interface.proofs.Stepping.{inserted_sites}
use Rattle.delaunay_journal.proofs.SingleEdits.{refused_insertion}
use Rattle.delaunay_journal.proofs.steps.insert.Goals as goal

pub returns-in-Ok-clause-sites : goal.returns-in-Ok-clause-sites
returns-in-Ok-clause-sites g c =
    inserted_sites _ _ _ _ _ _ c.in-Ok.ensures.inserts (g.P.PlaneTests.sites c.args.tests.now)
    c.requires.sites c.requires.new_site

pub returns-in-Err-clause-gives : goal.returns-in-Err-clause-gives
returns-in-Err-clause-gives g c = refused_insertion c.in-Err.ensures.inserts
