use Rattle.std.proofs.Common.{arith}
use Rattle.half_edge_links.specs.{slid}
use Rattle.half_edge_links.proofs.Growing.Slide.{ends_slid, outline_slid, slid_places, slides, tail}
use Rattle.half_edge_links.proofs.Sound.Valid.{valid_as, valid_slid}
use Rattle.half_edge_links.proofs.links.Links.slide.Goals as goal

pub half_edge-there-requires : goal.half_edge-there-requires
half_edge-there-requires g c =
    rw c.half_edge-k.ensures.value (tail _ _ c.half_edge-k.ensures.valid.sound c.requires).there_in

pub half_edge-z-requires : goal.half_edge-z-requires
half_edge-z-requires g c =
    rw c.reversed-t.ensures (tail _ _ c.half_edge-k.ensures.valid.sound c.requires).twin_in

pub slide_edges-requires-clause-places : goal.slide_edges-requires-clause-places
slide_edges-requires-clause-places g c =
    rw (
      c.half_edge-z.ensures.value,
      c.half_edge-there.ensures.value,
      c.half_edge-k.ensures.value,
      c.reversed-t.ensures,
      ← c.self.view_is,
    ) (slid_places _ _ c.self.invariant.sound (rw (← c.self.view_is) at c.requires))

pub set_out_edge-requires : goal.set_out_edge-requires
set_out_edge-requires g c =
    let b = tail _ _ c.self.invariant.sound (rw (← c.self.view_is) at c.requires) in
    let small = c.self.invariant.small.edges in
    rw (c.half_edge-there.ensures.value, c.half_edge-k.ensures.value, ← c.self.view_is) (record {
      vertex = (c.self.invariant.sound.edges _ b.there_in).origin_in;
      nameable = omega (arith, b.there_in);
    })

pub returns-clause-mesh : goal.returns-clause-mesh
unfolding slid
returns-clause-mesh g c =
    let k = rw (← c.self.view_is) at c.half_edge-k.ensures.value in
    let there = rw (← c.self.view_is) at c.half_edge-there.ensures.value in
    let z = rw (← c.self.view_is) at c.half_edge-z.ensures.value in
    rw (← c.self.view_is, c.set_out_edge.ensures.out_edges) (cc)

pub invariant_of-self : goal.invariant_of-self
invariant_of-self g c =
    valid_as _ _ (returns-clause-mesh g c) (valid_slid _ _ c.half_edge-k.ensures.valid c.requires)

pub returns-clause-links : goal.returns-clause-links
returns-clause-links g c =
    rw (returns-clause-mesh g c) (slides _ _ c.half_edge-k.ensures.valid.sound c.requires)

pub returns-clause-ends : goal.returns-clause-ends
returns-clause-ends g c =
    ends_slid _ _ _ c.half_edge-k.ensures.valid.sound c.requires (returns-clause-links g c)

pub returns-clause-outline : goal.returns-clause-outline
returns-clause-outline g c =
    outline_slid _ _ _ c.half_edge-k.ensures.valid.sound c.requires (returns-clause-links g c)

pub returns-clause-valid : goal.returns-clause-valid
returns-clause-valid g c = invariant_of-self g c
