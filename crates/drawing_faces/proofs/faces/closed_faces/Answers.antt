use Rattle.std.proofs.Common.{◌≡◌, ◌∙◌, drop, map, ap, sym, subst}
use Rattle.std.proofs.lemmas.Result.{IfOk-weaker}
use Rattle.{delaunay_legalization.specs.triangulation_of, drawing_faces.proofs.Keeping.reached_kept}
use Rattle.drawing_faces.specs.{AreKept, face_of, faces_inside, IsLeftOut, position}
use Rattle.drawing_faces.specs.declared.faces.Kept.TheVariants.{Inside}
use Rattle.drawing_faces.proofs.faces.closed_faces.Goals as goal

pub returns : goal.returns
returns g c =
    let s = g.T.Triangulation.state c.args.triangulation.now in
    let constraints = g.T.Constraints.ConstraintMarker.constraints s.undirected in
    let holes = c.args.holes.now in
    let cs = c.in_ok-faces.faces.items in
    let layers = c.in_ok-layers.layers.items in
    let same = ap (λ ns. faces_inside (drop 1 ns) c.as_slice.result.now) c.as_slice-2.ensures.value
    ∙ ap (faces_inside (drop 1 layers)) c.as_slice.ensures.value in
    IfOk-weaker c.faces_inside.result
    (λ v. v.items ≡ faces_inside (drop 1 c.as_slice-2.result.now) c.as_slice.result.now)
    (λ v. AreKept (IsLeftOut Inside s.mesh constraints holes) 1 (triangulation_of position s).faces
    (map face_of v.items))
    (λ v e. subst (λ xs. AreKept (IsLeftOut Inside s.mesh constraints holes) 1
    (triangulation_of position s).faces (map face_of xs)) (sym (e ∙ same))
    (reached_kept s constraints holes cs layers c.in_ok-faces.ensures c.in_ok-layers.ensures))
    c.faces_inside.ensures
