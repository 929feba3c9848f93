use Rattle.std.proofs.Common.{◌≡◌, suc, ◌-◌, arith}
use Rattle.half_edge_dcel.proofs.FaceData.{slice_get_behind}
use Rattle.half_edge_dcel.proofs.dcel.Dcel.face_data.Goals as goal

pub returns-else-is_outer : goal.returns-else-is_outer
returns-else-is_outer g c =
    let next : suc (c.index.result - 1) ≡ c.args.face = grind arith in
    rw (← c.self.view_is) (slice_get_behind _ _ _ _ _ next
    (omega (arith, next, rw (← c.self.view_is) at c.requires)) c.index-else-is_outer.ensures)
