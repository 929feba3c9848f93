use Rattle.std.proofs.Common.{◌∙◌, [], ◌∷◌, ap}
use Rattle.drawing_faces.specs.{either, has}
use Rattle.drawing_faces.proofs.Parities.{added}
use Rattle.drawing_faces.proofs.borders.Borders.add.Goals as goal

pub returns-in_ok-list-clause-adds : goal.returns-in_ok-list-clause-adds
returns-in_ok-list-clause-adds c within =
    added (λ v. v.items) c.args.self.now.lists.items c.args.edge c.index-index.result
    c.args.polygon c.in_ok-list.list c.index-index.ensures.value within
    (λ k. c.in_ok-list.ensures k
    ∙ ap (λ xs. either (has (c.args.polygon ∷ []) k) (has xs k)) c.at.ensures)
