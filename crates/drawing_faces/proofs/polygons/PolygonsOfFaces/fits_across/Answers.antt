use Rattle.std.proofs.Common.{◌≢◌, ◌∙◌, ◌<◌, ℕ, List, length, ap, arith}
use Rattle.half_edge_links.specs.{face, rev}
use Rattle.drawing_faces.specs.{either, has, IsDifference, label_at, lists_in, sides_in}
use Rattle.drawing_faces.proofs.PolygonSearching.{fits_at, not_none, uneven_at, when_none}
use Rattle.{drawing_faces.proofs.PolygonSearching.when_some, drawing_faces.specs.Polygons.labelled}
use Rattle.drawing_faces.proofs.polygons.PolygonsOfFaces.fits_across.Goals as goal

pub returns-else-is_none-clause-fits : goal.returns-else-is_none-clause-fits
returns-else-is_none-clause-fits g c e told =
    let m = c.args.dcel.now.mesh in
    let labels = c.args.self.now.labels.items in
    let lists = lists_in c.args.self.now in
    fits_at m (sides_in c.args.borders.now) labels lists c.args.edge c.at.result.now
    c.at-sides.result.now c.at-else-is_none.result.now
    (c.at.ensures ∙ ap (labelled labels lists) c.faces_beside-here.ensures.left)
    (c.at-sides.ensures ∙ ap (sides_in c.args.borders.now) c.as_undirected.ensures)
    (c.at-else-is_none.ensures ∙ ap (labelled labels lists) c.faces_beside-here.ensures.right)
    (when_none (IsDifference c.at.result.now c.at-sides.result.now c.at-else-is_none.result.now)
    c.fault_of.result c.is_none-else-is_none.result c.is_none-else-is_none.ensures e
    c.fault_of.ensures.none)

pub returns-else-is_none-clause-fault : goal.returns-else-is_none-clause-fault
returns-else-is_none-clause-fault g c e =
    let m = c.args.dcel.now.mesh in
    let labels = c.args.self.now.labels.items in
    let lists = lists_in c.args.self.now in
    let fits = c.recall_invariant.ensures.whole.fits.directed_fit in
    let edge = c.requires in
    let within : c.args.edge < length m.half_edges = omega (arith, fits, edge) in
    uneven_at m (sides_in c.args.borders.now) labels lists c.args.edge c.at.result.now
    c.at-sides.result.now c.at-else-is_none.result.now
    (c.at.ensures ∙ ap (labelled labels lists) c.faces_beside-here.ensures.left)
    (c.at-sides.ensures ∙ ap (sides_in c.args.borders.now) c.as_undirected.ensures)
    (c.at-else-is_none.ensures ∙ ap (labelled labels lists) c.faces_beside-here.ensures.right)
    within
    (not_none c.label_of.result _ c.is_none.result
    (c.label_of.ensures ∙ ap (label_at labels)
    c.faces_beside-here.ensures.left) c.is_none.ensures c.if-is_none.false)
    (when_some (λ k. has c.at-else-is_none.result.now k
    ≢ either (has c.at.result.now k) (has c.at-sides.result.now k))
    c.fault_of.result c.is_none-else-is_none.result c.is_none-else-is_none.ensures e
    c.fault_of.ensures.fault)
