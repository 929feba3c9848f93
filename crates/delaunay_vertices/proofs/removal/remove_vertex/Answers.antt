use Rattle.std.proofs.Common.{◌≡◌, ◌<◌, length, Some, sym, subst}
use Rattle.std.specs.Prelude.{slice_get}
use Rattle.delaunay_vertices.proofs.LeftFaces.{freed_faces_leave}
use Rattle.delaunay_vertices.proofs.RemovingConstraints.{data_left, freed_placed, freed_room}
use Rattle.delaunay_vertices.proofs.RemovingConstraints.{freed_vertices, plain_left}
use Rattle.delaunay_vertices.proofs.removal.remove_vertex.Goals as goal

pub free_edges_at-requires-clause-whole : goal.free_edges_at-requires-clause-whole
free_edges_at-requires-clause-whole g c =
    record { valid = c.requires.kept.valid; fits = c.requires.kept.fits }

pub take_vertex-requires : goal.take_vertex-requires
take_vertex-requires g c =
    let marked = g.met.M.ConstraintMarker.constraints_are_marked in
    let frees = c.free_edges_at.ensures in
    let kept = c.requires.kept in
    record {
      embedding = freed_placed marked frees kept c.requires.sites;
      within = subst (λ vs. c.args.vertex < length vs) (sym (freed_vertices marked frees kept))
          c.requires.within;
      room = freed_room marked frees kept c.requires.room;
    }

pub returns-clause-takes : goal.returns-clause-takes
returns-clause-takes g c =
    let marked = g.met.M.ConstraintMarker.constraints_are_marked in
    let frees = c.free_edges_at.ensures in
    let kept = c.requires.kept in
    let takes = c.take_vertex.ensures.takes in
    let new = c.take_vertex.new.dcel in
    record {
      value = subst (λ vs. slice_get vs c.args.vertex ≡ Some c.take_vertex.result)
          (freed_vertices marked frees kept) takes.value;
      plain = plain_left marked frees kept new takes.kept takes.plain c.take_vertex.ensures.edges;
      kept = takes.kept;
      beside = data_left marked frees kept new takes.kept takes.beside;
      faces = freed_faces_leave new frees takes.faces;
    }
