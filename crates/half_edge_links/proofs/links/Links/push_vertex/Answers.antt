use Rattle.std.proofs.Common.{arith}
use Rattle.half_edge_links.proofs.{Lists.VertexLists.pushed_vertex, Sound.Valid.valid_with_vertex}
use Rattle.half_edge_links.proofs.Views.{mesh_in}
use Rattle.half_edge_links.proofs.links.Links.push_vertex.Goals as goal

pub invariant_of-self : goal.invariant_of-self
invariant_of-self g c =
    rw (c.push_reserved.ensures.items, (pushed_vertex c.self.inside.vertices.items c.args.value).0)
    (valid_with_vertex (mesh_in c.self.inside) c.self.invariant
    (omega (arith, rw (← c.self.view_is) at c.requires)))

pub returns-clause-mesh : goal.returns-clause-mesh
returns-clause-mesh g c =
    rw (
      ← c.self.view_is,
      c.push_reserved.ensures.items,
      (pushed_vertex c.self.inside.vertices.items c.args.value).0,
    )

pub returns-clause-values : goal.returns-clause-values
returns-clause-values g c =
    rw (
      ← c.self.view_is,
      c.push_reserved.ensures.items,
      (pushed_vertex c.self.inside.vertices.items c.args.value).1,
    )

pub returns-clause-outline : goal.returns-clause-outline
returns-clause-outline g c = rw (← c.self.view_is) (λ one. one)

pub returns-clause-valid : goal.returns-clause-valid
returns-clause-valid g c = invariant_of-self g c
