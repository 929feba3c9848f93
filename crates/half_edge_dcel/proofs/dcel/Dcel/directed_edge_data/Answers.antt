use Rattle.std.proofs.Common.{refl}
use Rattle.std.proofs.lemmas.Option.{slice_get_read}
use Rattle.half_edge_dcel.proofs.dcel.Dcel.directed_edge_data.Goals as goal

pub returns : goal.returns
returns g c = rw (← c.self.view_is) (slice_get_read _ _ _ _ refl
    (rw (← c.self.view_is) at c.requires) (rw c.index.ensures at c.index-2.ensures))
