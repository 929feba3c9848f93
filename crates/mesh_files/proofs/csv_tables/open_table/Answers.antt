use Rattle.std.proofs.Common.{◌∙◌}
use Rattle.mesh_files.proofs.TableRows.{opens}
use Rattle.mesh_files.proofs.csv_tables.open_table.Goals as goal

pub returns : goal.returns
returns g c =
    let reader = c.from_reader.ensures in
    let e = c.has_headers.ensures in
    opens g.R.Read.remaining (g.R.Read.remaining c.args.text) c.from_reader.result
    (rw (e) at reader.trim ∙ c.new.ensures.trim) reader.headers (rw e at reader.has_headers)
    (rw e at reader.config ∙ c.new.ensures.config) reader.state reader.source
