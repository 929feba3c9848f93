use Rattle.std.proofs.lemmas.List.{length-map}
use Rattle.delaunay_legalization.proofs.{Entries.not_some, MeshStars.vertex_has_edge}
use Rattle.delaunay_vertices.proofs.removal.isolate.Goals as goal

pub unreachable-requires : goal.unreachable-requires
unreachable-requires g c =
    not_some _ c.in-None.ensures.none (vertex_has_edge _ _ c.requires.embedding.kept.valid.sound
    c.requires.shape c.args.vertex (rw length-map c.requires.within))

pub outer_edge_beside-requires-clause-round : goal.outer_edge_beside-requires-clause-round
outer_edge_beside-requires-clause-round g c =
    rw c.in-Some.ensures.starts (c.requires.room.edges _ c.in-Some.ensures.some)

pub isolate_inner-requires-clause-star : goal.isolate_inner-requires-clause-star
isolate_inner-requires-clause-star g c = record {
  shape = c.requires.shape;
  inner = c.in-None-outer_edge_beside.ensures.none;
  round = rw c.in-Some.ensures.starts (c.requires.room.edges _ c.in-Some.ensures.some);
}

pub isolate_inner-requires-clause-room : goal.isolate_inner-requires-clause-room
isolate_inner-requires-clause-room g c = rw c.in-Some.ensures.starts c.requires.room.turned
