use Rattle.std.proofs.Common.{arith}
use Rattle.std.proofs.lemmas.Grind.{common_steps}
use Rattle.half_edge_dcel.proofs.dcel.Dcel.append_unconnected_vertex.Goals as goal

pub returns-clause-outline : goal.returns-clause-outline
returns-clause-outline g c = rw (← c.self.view_is) c.push_vertex.ensures.outline

pub returns-clause-vertex : goal.returns-clause-vertex
returns-clause-vertex g c = rw (
  ← c.self.view_is,
  c.self.invariant.vertices_fit,
  ← c.push_vertex.ensures.vertex,
) c.from_index.ensures

pub invariant_of-self : goal.invariant_of-self
invariant_of-self g c = grind (arith, common_steps)

pub returns-clause-whole : goal.returns-clause-whole
returns-clause-whole g c = grind (arith, common_steps)
