use Rattle.c_calls.proofs.Chains.{chain_in_constrained}
use Rattle.c_calls.proofs.kept.AnyTriangulation.constrain_chain.Goals as goal

pub returns-in-Constrained : goal.returns-in-Constrained
returns-in-Constrained c =
    chain_in_constrained c.args.vertices.now c.args.closed c.constrain_chain.result
    c.constrain_chain.new.made c.args.self.now c.in-Constrained.points c.constrain_chain.new.points
    c.in-Constrained.is c.constrain_chain.ensures
