use Rattle.std.proofs.Common.{rules}
use Rattle.triangulate_run.proofs.fault.fault_text.Goals as goal

pub returns-in-Read : goal.returns-in-Read
returns-in-Read c = search rules
