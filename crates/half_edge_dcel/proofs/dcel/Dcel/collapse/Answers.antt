use Rattle.half_edge_dcel.proofs.HoleSteps.{border_open, collapsed, first_peelable, has_room}
use Rattle.half_edge_dcel.proofs.HoleSteps.{pendant_removable, pendant_within, second_peelable}
use Rattle.half_edge_dcel.proofs.dcel.Dcel.collapse.Goals as goal

pub peel-spoke-requires : goal.peel-spoke-requires
peel-spoke-requires g c = first_peelable c.requires c.open_third-value.ensures

pub peel-pendant-requires : goal.peel-pendant-requires
peel-pendant-requires g c =
    second_peelable c.requires c.open_third-value.ensures c.peel-spoke.ensures

pub index_after_removal-border-requires : goal.index_after_removal-border-requires
index_after_removal-border-requires g c =
    pendant_within c.requires c.open_third-value.ensures c.peel-spoke.ensures c.peel-pendant.ensures

pub remove_edge-requires : goal.remove_edge-requires
remove_edge-requires g c = pendant_removable c.requires c.open_third-value.ensures
    c.peel-spoke.ensures c.peel-pendant.ensures

pub close_face-requires : goal.close_face-requires
close_face-requires g c =
    let border = c.index_after_removal-border.ensures.value in
    record {
      triangle = border_open c.requires c.open_third-value.ensures c.peel-spoke.ensures
          c.peel-pendant.ensures border c.remove_edge.ensures;
      room = has_room c.requires c.open_third-value.ensures c.peel-spoke.ensures
          c.peel-pendant.ensures border c.remove_edge.ensures;
    }

pub returns : goal.returns
returns g c = record {
  fills = collapsed c.requires c.open_third-value.ensures c.peel-spoke.ensures
      c.peel-pendant.ensures c.index_after_removal-border.ensures.value c.remove_edge.ensures
      c.close_face.ensures;
  whole = c.close_face.ensures.whole;
}
