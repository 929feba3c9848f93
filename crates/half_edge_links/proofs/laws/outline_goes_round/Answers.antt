use Rattle.half_edge_links.proofs.Lists.OneOrbit.{outline_goes_round}
use Rattle.half_edge_links.proofs.laws.outline_goes_round.Goals as goal

pub returns : goal.returns
returns c = outline_goes_round
