use Rattle.std.proofs.Common.{◌+◌, ◌++◌, ◌∙◌, drop, inl, inr, ap}
use Rattle.drawing_faces.specs.{faces_inside}
use Rattle.drawing_faces.proofs.Inside.{inside_ends, inside_kept, inside_left}
use Rattle.drawing_faces.proofs.faces.faces_inside.Goals as goal
use goal.{else-layers-i-ne0, else-loop-i-test, then-layers-i-ne0+in_ok-push}
use goal.{then-loop-i-test+then-i-layers}

pub loop-i-preserved : goal.loop-i-preserved
loop-i-preserved c =
    let ns = c.args.layers.now in
    let fs = c.args.faces.now in
    let i = c.loop-i.i in
    elim c.if-layers-i-ne0.branch [
      | then-layers-i-ne0+in_ok-push w ↦
          ap (λ xs. xs ++ faces_inside (drop (i + 1 + 1) ns) (drop (i + 1) fs))
          (ap (λ v. v.items) w.kept-is ∙ w.in_ok-push.ensures.items)
          ∙ inside_kept ns fs i c.loop-i.kept.items _ c.loop-i.invariant _ c.loop-i-test.true
          c.if-i-layers.false w.if-layers-i-ne0.true
      | else-layers-i-ne0 w ↦
          ap (λ xs. xs ++ faces_inside (drop (i + 1 + 1) ns) (drop (i + 1) fs))
          (ap (λ v. v.items) w.kept-is)
          ∙ inside_left ns fs i c.loop-i.kept.items _ c.loop-i.invariant
          (record { first = 0; second = 0; third = 0 }) c.loop-i-test.true
          c.if-i-layers.false w.if-layers-i-ne0.false
    ]

pub returns : goal.returns
returns c =
    let ns = c.args.layers.now in
    let fs = c.args.faces.now in
    elim c.loop-i-test.branch [
      | else-loop-i-test w ↦ inside_ends ns fs c.loop-i.i c.loop-i.kept.items _ c.loop-i.invariant
          (inl w.loop-i-test.false)
      | then-loop-i-test+then-i-layers w ↦ inside_ends ns fs c.loop-i.i c.loop-i.kept.items _
          c.loop-i.invariant (inr w.if-i-layers.true)
    ]
