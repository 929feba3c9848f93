use Rattle.std.proofs.Common.{arith}
use Rattle.half_edge_links.proofs.Growing.Passing.{beside, ends_passed_is, outline_passed}
use Rattle.half_edge_links.proofs.Growing.Passing.{passed_places, passes, valid_passed}
use Rattle.{half_edge_links.proofs.Sound.Valid.valid_as, half_edge_links.specs.Pass.passed}
use Rattle.half_edge_links.proofs.links.Links.pass.Goals as goal

pub half_edge-k-requires : goal.half_edge-k-requires
half_edge-k-requires g c =
    rw c.reversed-t.ensures (beside _ _ c.half_edge-l.ensures.valid.sound c.requires).twin_in

pub half_edge-z-requires : goal.half_edge-z-requires
half_edge-z-requires g c =
    rw (c.half_edge-k.ensures.value, c.reversed-t.ensures)
    (beside _ _ c.half_edge-l.ensures.valid.sound c.requires).there_in

pub half_edge-passed-requires : goal.half_edge-passed-requires
half_edge-passed-requires g c =
    rw c.half_edge-l.ensures.value (beside _ _ c.half_edge-l.ensures.valid.sound c.requires).back_in

pub pass_edges-requires-clause-places : goal.pass_edges-requires-clause-places
pass_edges-requires-clause-places g c =
    rw (
      c.half_edge-z.ensures.value,
      c.half_edge-k.ensures.value,
      c.half_edge-l.ensures.value,
      c.reversed-t.ensures,
      ← c.self.view_is,
    ) (passed_places _ _ c.self.invariant.sound (rw (← c.self.view_is) at c.requires))

pub set_out_edge-requires : goal.set_out_edge-requires
set_out_edge-requires g c =
    let b = beside _ _ c.self.invariant.sound (rw (← c.self.view_is) at c.requires) in
    let small = c.self.invariant.small.edges in
    rw (c.half_edge-passed.ensures.value, c.half_edge-l.ensures.value, ← c.self.view_is) (record {
      vertex = (c.self.invariant.sound.edges _ b.back_in).origin_in;
      nameable = omega (arith, b.back_in);
    })

pub returns-clause-mesh : goal.returns-clause-mesh
unfolding passed
returns-clause-mesh g c =
    let l = rw (← c.self.view_is) at c.half_edge-l.ensures.value in
    let k = rw (← c.self.view_is) at c.half_edge-k.ensures.value in
    let z = rw (← c.self.view_is) at c.half_edge-z.ensures.value in
    let vertex = rw (← c.self.view_is) at c.half_edge-passed.ensures.value in
    rw (← c.self.view_is, c.set_out_edge.ensures.out_edges) (cc)

pub invariant_of-self : goal.invariant_of-self
invariant_of-self g c =
    valid_as _ _ (returns-clause-mesh g c) (valid_passed _ _ c.half_edge-l.ensures.valid c.requires)

pub returns-clause-links : goal.returns-clause-links
returns-clause-links g c =
    rw (returns-clause-mesh g c, ← c.requires.two)
    (passes _ _ c.half_edge-l.ensures.valid.sound c.requires)

pub returns-clause-ends : goal.returns-clause-ends
returns-clause-ends g c =
    ends_passed_is _ _ _ c.half_edge-l.ensures.valid.sound c.requires (returns-clause-mesh g c)

pub returns-clause-outline : goal.returns-clause-outline
returns-clause-outline g c = outline_passed _ _ _ c.half_edge-l.ensures.valid.sound c.requires
    (rw (← c.requires.two) at (returns-clause-links g c))

pub returns-clause-valid : goal.returns-clause-valid
returns-clause-valid g c = invariant_of-self g c
