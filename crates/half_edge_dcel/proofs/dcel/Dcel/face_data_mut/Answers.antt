use Rattle.std.proofs.Common.{◌≡◌, suc, ◌-◌, arith, refl}
use Rattle.half_edge_dcel.proofs.FaceData.{slice_get_behind, with_face_behind}
use Rattle.half_edge_dcel.proofs.dcel.Dcel.face_data_mut.Goals as goal

pub returns-else-is_outer : goal.returns-else-is_outer
returns-else-is_outer g c =
    let next : suc (c.index.result - 1) ≡ c.args.face = grind arith in
    let read = slice_get_behind _ _ _ _ _ next
    (omega (arith, next, rw (← c.self.view_is) at c.requires)) c.index_mut.ensures.value in (
      (refl, λ w. rw (← c.self.view_is) (with_face_behind _ _ _ w next)),
      record { writes_back = tt; value = rw (← c.self.view_is) read },
    )
