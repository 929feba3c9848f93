use Rattle.csv.specs.Records.{fields_of}
use Rattle.mesh_files.proofs.TableRows.{record_read}
use Rattle.mesh_files.proofs.csv_tables.next_row.Goals as goal

pub returns-in-Ok-true : goal.returns-in-Ok-true
returns-in-Ok-true g c = λ text rows h.
    record_read g.R.Read.remaining text rows c.args.reader.now c.read_byte_record.new.self
    (fields_of c.read_byte_record.new.row) h (c.in-Ok-true.ensures.ready h.trims)
    (rw c.in-Ok-true.field-0-test at (c.in-Ok-true.ensures.reads h.trims h.ready))
