use Rattle.std.proofs.Common.{IfSome, subst, sym}
use Rattle.std.specs.Prelude.{Option}
use Rattle.mesh_files.specs.{declared.shapes.OpenLine.OpenLine, DrawsRuns, GeoPosition, IsPosition}
use Rattle.mesh_files.proofs.shapes.Shape.add.Goals as goal
use goal.{in-Some-last+in_ok-draw-2, in_default-last}

pub returns : goal.returns
returns c = λ tokens is has drawn.
    let line = subst (λ (o : Option OpenLine). IfSome o (λ line. IsPosition tokens line.first
    × IfSome line.last (IsPosition tokens))) c.in-Some.is has.open_is in (
      record { open_is = (line.0, is); lines_are = has.lines_are },
      elim c.match-line.branch [
        | in-Some-last+in_ok-draw-2 w ↦
            (let last = subst (λ (o : Option GeoPosition). IfSome o (IsPosition tokens))
            w.in-Some-last.is line.1 in
            subst (DrawsRuns tokens) (sym w.drawing-is)
            (w.in_ok-draw-2.ensures tokens last drawn))
        | in_default-last w ↦ subst (DrawsRuns tokens) (sym w.drawing-is) drawn
      ],
    )
