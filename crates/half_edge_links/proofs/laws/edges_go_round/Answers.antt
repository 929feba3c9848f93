use Rattle.half_edge_links.proofs.Lists.OneOrbit.{edges_go_round}
use Rattle.half_edge_links.proofs.laws.edges_go_round.Goals as goal

pub returns : goal.returns
returns c = edges_go_round
