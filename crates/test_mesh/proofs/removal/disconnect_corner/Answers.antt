use Rattle.test_mesh.proofs.SmallRemovals.{one_side}
use Rattle.test_mesh.proofs.removal.disconnect_corner.Goals as goal

pub disconnect_edge_strip-requires : goal.disconnect_edge_strip-requires
disconnect_edge_strip-requires c =
    let w = c.num_vertices-whole.ensures.whole in
    let r = c.requires in
    one_side c.args.mesh.now.mesh c.args.side w.valid.sound (rw w.fits.directed_fit at r.within)
    (rw r.before at r.inner) (rw r.before at r.outer) (rw r.before at r.last)
    (rw r.before at r.gap) (rw r.before at r.far)
