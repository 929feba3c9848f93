use Rattle.std.proofs.Common.{rules}
use Rattle.std.proofs.lemmas.Option.{slice_get_read}
use Rattle.half_edge_dcel.proofs.dcel.Dcel.update_vertex.Goals as goal

pub returns-clause-former : goal.returns-clause-former
returns-clause-former g c = rw (← c.self.view_is) (search (rules, slice_get_read))

pub returns-clause-contents : goal.returns-clause-contents
returns-clause-contents g c = search rules
