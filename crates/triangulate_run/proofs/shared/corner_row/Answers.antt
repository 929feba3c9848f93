use Rattle.std.proofs.Common.{◌∙◌}
use Rattle.triangulate_run.proofs.MeshFaces.{name_at, row_if}
use Rattle.triangulate_run.proofs.shared.corner_row.Goals as goal

pub returns : goal.returns
returns g c =
    let names = name_at (λ v. v.index) c.vertices.result in
    let first = c.from.ensures ∙ c.index.ensures
    ∙ names 0 c.index-vertices-0.result _ c.vertices.ensures.indexes in
    let second = c.from-2.ensures ∙ c.index-2.ensures
    ∙ names 1 c.index-vertices-1.result _ c.vertices.ensures.indexes in
    let third = c.from-3.ensures ∙ c.index-3.ensures
    ∙ names 2 c.index-vertices-2.result _ c.vertices.ensures.indexes in
    c.from_least.ensures
    ∙ row_if c.args.face.dcel.now.mesh c.args.face.index _ _ _ (first, second, third)
