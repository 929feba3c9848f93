use Rattle.half_edge_links.proofs.Sound.Flow.{sides_add_up}
use Rattle.half_edge_links.proofs.laws.sides_add_up.Goals as goal

pub returns : goal.returns
returns c = sides_add_up
