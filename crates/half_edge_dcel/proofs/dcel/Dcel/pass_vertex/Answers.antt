use Rattle.std.proofs.Common.{refl, rules}
use Rattle.{half_edge_dcel.proofs.LineSteps.passable, half_edge_links.proofs.rev_within}
use Rattle.half_edge_dcel.proofs.dcel.Dcel.pass_vertex.Goals as goal

pub half_edge-left-requires : goal.half_edge-left-requires
half_edge-left-requires g c =
    rw (c.reversed-edge.ensures, c.links.ensures.mesh)
    (rev_within _ _ c.links.ensures.whole.valid.sound.even c.requires.within)

pub pass-requires : goal.pass-requires
pass-requires g c =
    let middle = rw (← c.self.view_is) at c.requires in
    let whole = rw (← c.self.view_is) at c.links.ensures.whole in
    rw c.reversed-edge.ensures (passable whole.valid.sound middle)

pub returns : goal.returns
returns g c =
    let whole = rw (← c.self.view_is) at c.links.ensures.whole in
    let pass = rw c.reversed-edge.ensures at c.pass.ensures in
    let links = rw (← c.self.view_is) at c.links.ensures.mesh in
    rw (← c.self.view_is) (record {
      was = whole;
      left_is = rw (c.half_edge-left.ensures.value, c.reversed-edge.ensures, links) refl;
      contents = rw (pass.rest.room, pass.rest.values) refl;
      links = pass.links;
      ends = pass.ends;
      outline = pass.outline;
      whole = record { valid = pass.valid; fits = search rules };
    })
