use Rattle.std.proofs.Common.{sym, ap, ◌∙◌}
use Rattle.half_edge_links.specs.{Mesh, next, origin, rev, turn}
use Rattle.test_mesh.proofs.SmallRemovals.{four_sides, three_sides}
use Rattle.test_mesh.proofs.removal.isolate_vertex.Goals as goal

pub isolate_vertex_and_fill_hole-requires : goal.isolate_vertex_and_fill_hole-requires
isolate_vertex_and_fill_hole-requires c =
    let w = c.num_vertices-whole.ensures.whole in
    let m : Mesh = c.args.mesh.now.mesh in
    let p = c.in-Some-after.ensures in
    let q = c.in-Some-after-2.ensures in
    let r = c.in-Some-after-3.ensures in
    let t1 = p.round in
    let t2 = q.round ∙ ap (turn m) t1 in
    let t3 = r.round ∙ ap (turn m) t2 in
    three_sides m c.args.vertex c.in-Some.a _ _ _ w.valid.sound
    (rw w.fits.directed_fit at c.in-Some.ensures.within) c.in-Some.ensures.starts
    p.inner (rw t1 at q.inner) (rw t2 at r.inner)
    (sym t3 ∙ (sym c.index.ensures ∙ (c.if-index.true ∙ c.index-2.ensures)))
    p.side (q.side ∙ ap (next m) t1) (r.side ∙ ap (next m) t2)

pub isolate_vertex_and_fill_hole-requires-2 : goal.isolate_vertex_and_fill_hole-requires-2
isolate_vertex_and_fill_hole-requires-2 c =
    let w = c.num_vertices-whole.ensures.whole in
    let m : Mesh = c.args.mesh.now.mesh in
    let p = c.in-Some-after.ensures in
    let q = c.in-Some-after-2.ensures in
    let r = c.in-Some-after-3.ensures in
    let s = c.in-Some-after-4.ensures in
    let t1 = p.round in
    let t2 = q.round ∙ ap (turn m) t1 in
    let t3 = r.round ∙ ap (turn m) t2 in
    let t4 = s.round ∙ ap (turn m) t3 in
    four_sides m c.args.vertex c.in-Some.a _ _ _ _ w.valid.sound
    (rw w.fits.directed_fit at c.in-Some.ensures.within) c.in-Some.ensures.starts
    p.inner (rw t1 at q.inner) (rw t2 at r.inner) (rw t3 at s.inner)
    (sym t4 ∙ (sym c.index-3.ensures ∙ (c.if-index-2.false ∙ c.index-4.ensures)))
    (λ e. c.end_apart.ensures c.if-not-end_apart.false (ap (λ h. origin m (rev h)) t2 ∙ e))
    p.side (q.side ∙ ap (next m) t1) (r.side ∙ ap (next m) t2) (s.side ∙ ap (next m) t3)
