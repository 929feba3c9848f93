use Rattle.std.proofs.Common.{arith, refl}
use Rattle.std.proofs.lemmas.List.{length-set}
use Rattle.delaunay_legalization.proofs.{Bits.one_bit_more, EdgeSets.one_flagged_more}
use Rattle.delaunay_legalization.proofs.EdgeSets.{listed_by, not_listed_by, one_fits}
use Rattle.delaunay_legalization.proofs.MeshLegal.{gains_last, gains_none}
use Rattle.delaunay_legalization.proofs.edge_set.EdgeSet.put.Goals as goal

pub returns-then-word-index-eq1 : goal.returns-then-word-index-eq1
returns-then-word-index-eq1 c =
    let listed = listed_by c.self.invariant c.index-index.ensures.value
    (rw (← c.self.view_is) at c.requires) c.index-word.ensures c.if-word-index-eq1.true in
    rw (← c.self.view_is) (record {
      gains = gains_none _ _ listed;
      last = λ not. absurd (not listed);
      room = refl;
    })

pub push_reserved-requires : goal.push_reserved-requires
push_reserved-requires c =
    let within = rw (← c.self.view_is) at c.requires in
    let fits = one_fits c.self.invariant within (not_listed_by c.self.invariant
    c.index-index.ensures.value within c.index-word.ensures c.if-word-index-eq1.false) in
    let same = c.self.inside.edges.ok in
    omega (arith, fits, same)

pub invariant_of-self : goal.invariant_of-self
invariant_of-self c =
    let within = rw (← c.self.view_is) at c.requires in
    let is = c.index-index.ensures.value in
    rw (c.push_reserved.ensures.items, c.push_reserved.ensures.capacity)
    (one_flagged_more c.self.invariant (not_listed_by c.self.invariant is within
    c.index-word.ensures c.if-word-index-eq1.false) (rw (← is)
    (one_bit_more _ _ (omega (arith, within, is)) c.index-word.ensures)) (length-set _ _ _))

pub returns-clause-gains : goal.returns-clause-gains
returns-clause-gains c =
    rw (← c.self.view_is, c.push_reserved.ensures.items) (gains_last _ _
    (not_listed_by c.self.invariant c.index-index.ensures.value
    (rw (← c.self.view_is) at c.requires) c.index-word.ensures c.if-word-index-eq1.false))
