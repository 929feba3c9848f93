use Rattle.std.proofs.Common.{get_or, []}
use Rattle.std.proofs.lemmas.Result.{on_ok_weaker}
use Rattle.csv.specs.Records.{fields_of}
use Rattle.mesh_files.proofs.{PointRows.trimmed_writes, TableRows.record_drawn}
use Rattle.mesh_files.proofs.csv_tables.take_point_row.Goals as goal

pub returns : goal.returns
returns c =
    let row = fields_of c.args.record.now in
    let x = trimmed_writes (get_or row c.args.columns.now.x []) c.word_of.result.now
    c.in_ok-x.x.decimal c.word_of.ensures c.in_ok-x.ensures.written in
    let y = trimmed_writes (get_or row c.args.columns.now.y []) c.word_of-2.result.now
    c.in_ok-y.y.decimal c.word_of-2.ensures c.in_ok-y.ensures.written in
    on_ok_weaker c.add_spot.result
    (record_drawn row c.args.columns.now c.new.result c.in_ok-height.height c.args.drawing.now
    c.number.new.self c.number-2.new.self c.row_height.new.drawing c.add_spot.new.self
    (rw c.new.ensures.x x) (rw c.new.ensures.y y) c.in_ok-x.ensures.same c.in_ok-y.ensures.same
    c.in_ok-height.ensures.written c.in_ok-height.ensures.same) c.add_spot.ensures
