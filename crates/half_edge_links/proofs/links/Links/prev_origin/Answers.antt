use Rattle.std.proofs.Common.{◌∙◌, ap}
use Rattle.{half_edge_links.proofs.Stored.Keeps.corner_at, half_edge_links.specs.StoredEdge}
use Rattle.half_edge_links.proofs.links.Links.prev_origin.Goals as goal

pub returns-clause-value : goal.returns-clause-value
returns-clause-value g c =
    let here = c.self.invariant.sound.edges c.args.h (rw (← c.self.view_is) at c.requires) in
    rw (← c.self.view_is) (ap (λ (r : StoredEdge). r.prev_origin) c.stored.ensures
    ∙ corner_at _ _ c.args.h here.prev_in here.next_prev)
