use Rattle.std.proofs.Common.{◌≡◌, ◌∙◌, [], map, subst}
use Rattle.std.specs.Prelude.{IfErr, IfOk}
use Rattle.std.proofs.lemmas.Result.{IfErr-weaker}
use Rattle.drawing_faces.specs.{All, Drawing.IsDrawn, OutOfMemory, RefusesDrawing}
use Rattle.tevasulim_c.specs.Whole.{drawn_point, drawn_segment}
use Rattle.tevasulim_c.proofs.Drawings.{memory_alone}
use Rattle.tevasulim_c.proofs.whole.drawn_mesh.Goals as goal

pub returns-clause-draws : goal.returns-clause-draws
returns-clause-draws c =
    let drawn = c.triangulate_drawing.result in
    subst (λ ps. IfOk drawn (IsDrawn ps (map drawn_segment c.args.segments.now) [] [] All))
    (c.as_slice.ensures.value ∙ c.in_ok-points.ensures)
    (subst (λ ss. IfOk drawn (IsDrawn c.as_slice.result.now ss [] [] All))
    (c.as_slice-2.ensures.value ∙ c.in_ok-segments.ensures) c.triangulate_drawing.ensures.draws)

pub returns-clause-memory : goal.returns-clause-memory
returns-clause-memory c =
    let drawn = c.triangulate_drawing.result in
    let points = c.args.points.now in
    let segments = c.args.segments.now in
    IfErr-weaker drawn (RefusesDrawing (map drawn_point points) (map drawn_segment segments) [] [])
    (λ e. e ≡ OutOfMemory) (λ e. memory_alone points segments c.requires.may c.requires.ends e)
    (subst (λ ps. IfErr drawn (RefusesDrawing ps (map drawn_segment segments) [] []))
    (c.as_slice.ensures.value ∙ c.in_ok-points.ensures)
    (subst (λ ss. IfErr drawn (RefusesDrawing c.as_slice.result.now ss [] []))
    (c.as_slice-2.ensures.value ∙ c.in_ok-segments.ensures) c.triangulate_drawing.ensures.refuses))
