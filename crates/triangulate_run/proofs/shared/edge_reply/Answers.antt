use Rattle.std.proofs.Common.{refl}
use Rattle.std.proofs.lemmas.Bool.{le-ltb}
use Rattle.triangulate_run.proofs.shared.edge_reply.Goals as goal

pub returns-else-i-j : goal.returns-else-i-j
returns-else-i-j c = rw (le-ltb c.args.i c.args.j c.if-i-j.false) refl
