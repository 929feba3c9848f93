use Rattle.std.proofs.Common.{refl}
use Rattle.std.proofs.lemmas.Option.{slice_get_read}
use Rattle.half_edge_dcel.proofs.dcel.Dcel.directed_edge_data_mut.Goals as goal

pub returns : goal.returns
returns g c =
    let within = rw (← c.self.view_is) at c.requires in
    let value = rw c.index.ensures at c.index_mut.ensures.value in
    let read = slice_get_read _ _ _ _ refl within value in (
      (refl, λ w. rw (← c.self.view_is, c.index.ensures) refl),
      record { writes_back = tt; value = rw (← c.self.view_is) read },
    )
