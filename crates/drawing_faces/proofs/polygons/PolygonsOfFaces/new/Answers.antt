use Rattle.std.proofs.Common.{◌≡◌, ◌∙◌, ◌+◌, [], ◌∷◌, length, sym, subst, arith, set}
use Rattle.std.specs.Prelude.{Some}
use Rattle.{drawing_faces.proofs.PolygonSearching.begun, drawing_faces.specs.IsSearch}
use Rattle.drawing_faces.proofs.polygons.PolygonsOfFaces.new.Goals as goal

pub returns : goal.returns
returns g c borders =
    let fits = c.recall_invariant.ensures.whole.fits.faces_fit in
    let value = c.num_faces.ensures.value in
    let size : c.num_faces.result ≡ length c.args.dcel.now.mesh.face_edges + 1 =
    omega (arith, fits, value) in
    subst (IsSearch c.args.dcel.now.mesh borders (set c.in_ok-labels.labels.items 0 (Some 0)))
    (sym c.in_ok-lists.ensures)
    (begun c.args.dcel.now.mesh borders c.in_ok-labels.labels.items c.num_faces.result
    c.in_ok-labels.ensures size)
