use Rattle.half_edge_links.proofs.Sound.Flow.{sides_cancel}
use Rattle.half_edge_links.proofs.laws.sides_cancel.Goals as goal

pub returns : goal.returns
returns c = sides_cancel
