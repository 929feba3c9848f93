use Rattle.std.proofs.Common.{◌++◌, ◌∷◌, []}
use Rattle.std.proofs.lemmas.Result.{on_ok_weaker}
use Rattle.csv.specs.Records.{fields_of}
use Rattle.mesh_files.proofs.TableRows.{all_drawn}
use Rattle.mesh_files.proofs.csv_tables.read_point_rows.Goals as goal

pub returns-in_default : goal.returns-in_default
returns-in_default g c = on_ok_weaker c.end.result (λ same text header begun.
    let before = c.loop-index.invariant text header begun in
    all_drawn text header before.0 c.args.columns.now c.in_ok-next.field-0 c.loop-index.drawing
    c.end.new.drawing _ c.in_default.is (c.in_ok-next.ensures text (header ∷ before.0) before.1)
    before.2 same) c.end.ensures

pub loop-index-preserved : goal.loop-index-preserved
loop-index-preserved g c = λ text header begun.
    let before = c.loop-index.invariant text header begun in
    let next = rw c.in-Some.is at (c.in_ok-next.ensures text (header ∷ before.0) before.1) in
    (before.0 ++ fields_of c.next_row.new.record ∷ [], next, c.in_ok-row.ensures before.0 before.2)
