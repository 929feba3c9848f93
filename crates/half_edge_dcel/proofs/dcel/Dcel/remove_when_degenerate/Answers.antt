use Rattle.half_edge_dcel.proofs.dcel.Dcel.remove_when_degenerate.Goals as goal

pub swap_remove_vertex-requires : goal.swap_remove_vertex-requires
swap_remove_vertex-requires g c = (rw c.index.ensures at c.leave_line.ensures.leaves).alone

pub returns-clause-leaves : goal.returns-clause-leaves
returns-clause-leaves g c = record {
  between = c.leave_line.new.self;
  leaves = rw c.index.ensures at c.leave_line.ensures.leaves;
  whole = c.leave_line.ensures.whole;
  drops = c.swap_remove_vertex.ensures.drops;
}

pub returns-clause-outline : goal.returns-clause-outline
returns-clause-outline g c =
    λ one. c.swap_remove_vertex.ensures.outline (c.leave_line.ensures.outline one)
