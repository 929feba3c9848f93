use Rattle.plane_theorems.proofs.Sight.Sights as Sights
use Rattle.plane_theorems.proofs.sight_holds.Goals as goal

pub returns : goal.returns
returns c = record {
  sight_by_line = Sights.sight_by_line;
  in_free_by_place = Sights.in_free_by_place;
}
