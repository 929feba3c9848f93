use Rattle.std.proofs.Common.{inr}
use Rattle.mesh_files.proofs.drawing.Drawing.long_number.Goals as goal

pub returns-clause-written : goal.returns-clause-written
returns-clause-written c = record {
  number = inr (record {
    long = c.requires;
    value = c.in-Ok.long;
    written = c.in-Ok.ensures.ok;
    cut = c.if-is_exact.false;
    decimal_is = c.in_ok-number.ensures;
  });
}
