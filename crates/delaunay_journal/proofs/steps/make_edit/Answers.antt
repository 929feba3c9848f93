use Rattle.delaunay_journal.proofs.steps.make_edit.Goals as goal

pub insert-requires-clause-new_site : goal.insert-requires-clause-new_site
insert-requires-clause-new_site g c = c.requires.new_site c.in-Insert.value c.in-Insert.is

pub returns-in-Replace-clause-sites : goal.returns-in-Replace-clause-sites
returns-in-Replace-clause-sites g c = rw c.replace.ensures.places c.requires.sites

pub returns-in-Clear-clause-gives : goal.returns-in-Clear-clause-gives
returns-in-Clear-clause-gives g c =
    rw c.in-Clear.is (record { plain = c.clear.ensures.plain; rest = c.clear.ensures.new })
