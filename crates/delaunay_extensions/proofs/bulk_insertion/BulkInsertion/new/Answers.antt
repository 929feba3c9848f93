use Rattle.std.proofs.Common.{arith}
use Rattle.delaunay_extensions.proofs.bulk_insertion.BulkInsertion.new.Goals as goal

pub returns-in-Ok-clause-in_range : goal.returns-in-Ok-clause-in_range
returns-in-Ok-clause-in_range g c = grind arith
