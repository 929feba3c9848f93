use Rattle.c_calls.specs.{unnumbered_points}
use Rattle.c_calls.proofs.Listed.{listed_in_constrained, listed_in_plain}
use Rattle.c_calls.proofs.kept.AnyTriangulation.insert_all.Goals as goal

pub returns-in-Plain : goal.returns-in-Plain
returns-in-Plain c =
    listed_in_plain (unnumbered_points c.args.positions.now) c.insert_all.result
    c.args.indexes.now c.insert_all.new.indexes c.args.self.now c.in-Plain.points
    c.insert_all.new.points c.in-Plain.is c.insert_all.ensures

pub returns-in-Constrained : goal.returns-in-Constrained
returns-in-Constrained c =
    listed_in_constrained (unnumbered_points c.args.positions.now)
    c.insert_all-in-Constrained.result c.args.indexes.now c.insert_all-in-Constrained.new.indexes
    c.args.self.now c.in-Constrained.points c.insert_all-in-Constrained.new.points
    c.in-Constrained.is c.insert_all-in-Constrained.ensures
