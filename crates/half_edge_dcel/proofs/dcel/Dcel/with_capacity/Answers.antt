use Rattle.half_edge_dcel.proofs.dcel.Dcel.with_capacity.Goals as goal

pub returns-clause-room : goal.returns-clause-room
returns-clause-room g c = c.in_ok-reserve_capacity.ensures.ok
