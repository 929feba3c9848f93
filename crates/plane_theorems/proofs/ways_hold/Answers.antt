use Rattle.plane_theorems.proofs.Ways.Trails as Trails
use Rattle.plane_theorems.proofs.ways_hold.Goals as goal

pub returns : goal.returns
returns c = record {
  corners_at_vertex = λ t h. Trails.corners_at_vertex t (λ n w. h);
  corners_on_edge = λ t h. Trails.corners_on_edge t (λ n w. h);
  corners_in_face = λ t h. Trails.corners_in_face t (λ n w. h);
  path_is_chain = λ t h. Trails.path_is_chain t (λ n w. h);
  apart_is_not_joined = λ t h. Trails.apart_is_not_joined t (λ n w. h);
}
