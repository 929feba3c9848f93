use Rattle.delaunay_legalization.specs.{state_of}
use Rattle.delaunay_legalization.proofs.{MeshParts.mesh_face, Questions.covered_in}
use Rattle.delaunay_legalization.proofs.embedding.Embedding.corners_of.Goals as goal

pub returns : goal.returns
returns g c =
    let face = c.face.ensures in
    let edge = c.adjacent_edge-edge.ensures in
    let next = c.next.ensures in
    let prev = c.prev.ensures in
    let sites = g.P.PlaneTests.sites c.self.inside.tests.now in
    rw (← c.self.view_is) (record {
      first = rw (
        c.fix-first.ensures.value,
        c.from.ensures.index,
        edge.dcel,
        edge.index,
        face.dcel,
        face.index,
      ) at c.position_of.ensures.place;
      second = rw (
        c.fix-second.ensures.value,
        c.from-2.ensures.index,
        next.dcel,
        next.index,
        edge.dcel,
        edge.index,
        face.dcel,
        face.index,
      ) at c.position_of-2.ensures.place;
      third = rw (
        c.fix-third.ensures.value,
        c.from-3.ensures.index,
        prev.dcel,
        prev.index,
        edge.dcel,
        edge.index,
        face.dcel,
        face.index,
      ) at c.position_of-3.ensures.place;
      face = mesh_face g.V.HasPosition.place (state_of c.self.inside.dcel.now)
          c.self.invariant.kept c.args.face c.requires.0 (rw (← c.self.view_is) at c.requires.1);
      first_site = covered_in sites sites (λ _ s. s) _ _ c.self.invariant.sites
          c.position_of.ensures.listed;
      second_site = covered_in sites sites (λ _ s. s) _ _ c.self.invariant.sites
          c.position_of-2.ensures.listed;
      third_site = covered_in sites sites (λ _ s. s) _ _ c.self.invariant.sites
          c.position_of-3.ensures.listed;
    })
