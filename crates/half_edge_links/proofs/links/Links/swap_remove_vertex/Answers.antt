use Rattle.std.proofs.Common.{◌≡◌, ◌-◌, length, ap, sym, ◌∙◌, refl, rules, arith}
use Rattle.half_edge_links.specs.{IsAlone, Mesh, out_edge, VertexList.TakesVertex}
use Rattle.half_edge_links.proofs.{Lists.OneOrbit.one_orbit, Sound.Valid.valid_moved}
use Rattle.half_edge_links.proofs.Lists.VertexLists.{length_out_edges, takes_vertex}
use Rattle.half_edge_links.proofs.{OuterLoop.OutlineTaken.outline_moved, Stored.Shown.length_shown}
use Rattle.half_edge_links.proofs.Removing.TakenLists.{moves_ends, moves_outer, moves_triangles}
use Rattle.half_edge_links.proofs.Removing.VertexSound.{can_walk, moves_vertex}
use Rattle.half_edge_links.proofs.{links.Links.swap_remove_vertex.Given.Over, Views.mesh_in}
use Rattle.half_edge_links.proofs.links.Links.swap_remove_vertex.Goals as goal
use goal.{After-swap_remove}

-- the vertex is taken out of the list
taken : (g : Over) (c : After-swap_remove g) → TakesVertex c.self.inside.vertices.items
    c.swap_remove.new.self.items c.args.v c.swap_remove.result.value
taken g c =
    let alone = rw (← c.self.view_is) at c.requires in
    takes_vertex c.self.inside.vertices.items _ c.args.v c.swap_remove.result
    (omega (arith, length_out_edges c.self.inside.vertices.items, alone.0))
    c.swap_remove.ensures.value c.swap_remove.ensures.items

pub move_named-requires-clause-walk : goal.move_named-requires-clause-walk
move_named-requires-clause-walk g c = can_walk (mesh_in c.self.inside) c.self.invariant.sound

pub move_named-requires-clause-first : goal.move_named-requires-clause-first
move_named-requires-clause-first g c = λ first is.
    let named = rw (← c.self.view_is) at c.out_edge-last.ensures.value in
    rw length_shown at (c.self.invariant.sound.vertices _ first (sym named ∙ is)).0

pub returns-clause-moves : goal.returns-clause-moves
returns-clause-moves g c =
    let m : Mesh = mesh_in c.self.inside in
    let alone : IsAlone m c.args.v = rw (← c.self.view_is) at c.requires in
    let count = rw (← c.self.view_is) at c.vertex_count.ensures.value in
    let named : out_edge m (length m.out_edges - 1) ≡ c.out_edge-last.result =
    sym ((rw (← c.self.view_is) at c.out_edge-last.ensures.value)
    ∙ ap (λ n. out_edge m (n - 1)) count) in
    rw (← c.self.view_is) (moves_vertex m _ c.args.v _ c.self.invariant.sound alone
    (one_orbit m _ c.self.invariant) named c.move_named.ensures.moves
    (taken g c).out_edges refl refl)

pub invariant_of-self : goal.invariant_of-self
invariant_of-self g c =
    valid_moved _ _ _ c.vertex_count.ensures.valid c.requires (returns-clause-moves g c)

pub returns-clause-rest : goal.returns-clause-rest
returns-clause-rest g c = record {
  valid = invariant_of-self g c;
  values = rw (← c.self.view_is) (taken g c).values;
  room = search rules;
}

pub returns-clause-triangles : goal.returns-clause-triangles
returns-clause-triangles g c =
    moves_triangles _ _ _ c.vertex_count.ensures.valid.sound (returns-clause-moves g c)

pub returns-clause-ends : goal.returns-clause-ends
returns-clause-ends g c =
    moves_ends _ _ _ c.vertex_count.ensures.valid.sound (returns-clause-moves g c)

pub returns-clause-outer : goal.returns-clause-outer
returns-clause-outer g c =
    moves_outer _ _ _ c.vertex_count.ensures.valid.sound (returns-clause-moves g c)

pub returns-clause-outline : goal.returns-clause-outline
returns-clause-outline g c = outline_moved _ _ _ (returns-clause-moves g c)
