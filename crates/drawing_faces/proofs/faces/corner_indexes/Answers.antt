use Rattle.std.proofs.Common.{◌∙◌}
use Rattle.drawing_faces.proofs.MeshFaces.{indexes_if, name_at}
use Rattle.drawing_faces.proofs.faces.corner_indexes.Goals as goal

pub returns : goal.returns
returns g c =
    let names = name_at (λ v. v.index) c.vertices.result in
    let first = c.index.ensures ∙ c.fix.ensures.value
    ∙ names 0 c.index-vertices-0.result _ c.vertices.ensures.indexes in
    let second = c.index-2.ensures ∙ c.fix-2.ensures.value
    ∙ names 1 c.index-vertices-1.result _ c.vertices.ensures.indexes in
    let third = c.index-3.ensures ∙ c.fix-3.ensures.value
    ∙ names 2 c.index-vertices-2.result _ c.vertices.ensures.indexes in
    indexes_if c.args.face.dcel.now.mesh c.args.face.index _ _ _ (first, second, third)
