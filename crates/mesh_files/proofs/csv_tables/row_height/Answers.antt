use Rattle.std.proofs.Common.{get_or, []}
use Rattle.csv.specs.Records.{fields_of}
use Rattle.mesh_files.proofs.{PointRows.trimmed_writes}
use Rattle.mesh_files.proofs.csv_tables.row_height.Goals as goal

pub returns-clause-written : goal.returns-clause-written
returns-clause-written c = rw c.in-Some.is
    (trimmed_writes (get_or (fields_of c.args.record.now) c.in-Some.column []) c.word_of-word.result.now
    _ c.word_of-word.ensures c.in_ok-number.ensures.written)
