use Rattle.delaunay_legalization.proofs.AmongSides.{gains_among, gains_none_among}
use Rattle.delaunay_legalization.proofs.Questions.{both_ways}
use Rattle.delaunay_legalization.proofs.sides.push_among.Goals as goal

pub returns-then-contains-clause-gains : goal.returns-then-contains-clause-gains
returns-then-contains-clause-gains g c = gains_among c.push_side.ensures.gains

pub returns-else-contains-clause-gains : goal.returns-else-contains-clause-gains
returns-else-contains-clause-gains g c = gains_none_among c.as_undirected.ensures
    (λ h. both_ways _ (c.contains.ensures.1 h) c.if-contains.false)
