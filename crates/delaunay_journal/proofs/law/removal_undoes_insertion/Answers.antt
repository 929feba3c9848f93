use Rattle.delaunay_journal.proofs.Undoing.{removal_undoes_insertion}
use Rattle.delaunay_journal.proofs.law.removal_undoes_insertion.Goals as goal

pub returns : goal.returns
returns g c = λ position constraints old mid new v formed.
    removal_undoes_insertion position constraints old formed mid new v
