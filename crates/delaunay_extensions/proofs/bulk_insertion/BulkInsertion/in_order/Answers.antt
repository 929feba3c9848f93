use Rattle.std.proofs.Common.{arith}
use Rattle.std.proofs.lemmas.Grind.{common_steps}
use Rattle.delaunay_extensions.proofs.bulk_insertion.BulkInsertion.in_order.Goals as goal

pub returns : goal.returns
returns g c = grind (arith, common_steps)
