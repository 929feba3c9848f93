use Rattle.std.proofs.Common.{refl, sym, subst}
use Rattle.half_edge_links.specs.{connected, HasOneOutline}
use Rattle.half_edge_links.proofs.{OuterLoop.Outline.outline_connected, Stored.Written.shows_first}
use Rattle.half_edge_links.proofs.{Sound.Valid.valid_as, Sound.Valid.valid_connected, Views.mesh_in}
use Rattle.half_edge_links.proofs.links.Links.connect.Goals as goal

pub returns-clause-mesh : goal.returns-clause-mesh
returns-clause-mesh g c =
    let can = rw (← c.self.view_is) at c.requires.vertices in
    rw (
      ← c.self.view_is,
      c.set_out_edge-2.ensures.out_edges,
      c.set_out_edge.ensures.out_edges,
      c.push-2.ensures.items,
      c.push.ensures.items,
      shows_first c.self.inside.half_edges.items c.args.a c.args.b can.no_edges,
    )
    (refl {a = connected (mesh_in c.self.inside) c.args.a c.args.b})

pub invariant_of-self : goal.invariant_of-self
invariant_of-self g c = valid_as _ _ (returns-clause-mesh g c)
    (valid_connected _ _ _ c.recall_invariant.ensures c.requires.vertices)

pub returns-clause-outline : goal.returns-clause-outline
returns-clause-outline g c = subst HasOneOutline (sym (returns-clause-mesh g c))
    (outline_connected c.args.self.now.mesh c.args.a c.args.b)

pub returns-clause-valid : goal.returns-clause-valid
returns-clause-valid g c = invariant_of-self g c
