use Rattle.delaunay_journal.proofs.Inserted.{insertion_is_located}
use Rattle.delaunay_journal.proofs.law.location_finds_insertion.Goals as goal

pub returns : goal.returns
returns g c = λ position constraints old new. insertion_is_located position new constraints old
