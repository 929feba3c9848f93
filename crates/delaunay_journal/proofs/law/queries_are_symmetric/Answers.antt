use Rattle.delaunay_journal.proofs.Symmetric.{queries_are_symmetric}
use Rattle.delaunay_journal.proofs.law.queries_are_symmetric.Goals as goal

pub returns : goal.returns
returns g c = queries_are_symmetric
