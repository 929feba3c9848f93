use Rattle.std.proofs.Common.{arith}
use Rattle.delaunay_legalization.proofs.{both_ways}
use Rattle.delaunay_vertices.proofs.Searching.{seeking_begins, seeking_finds, seeking_goes_on}
use Rattle.delaunay_vertices.proofs.choice.Spokes.find_turnable.Goals as goal

pub loop-i-init : goal.loop-i-init
loop-i-init g c = rw (← c.self.view_is) (seeking_begins c.self.invariant)

pub loop-i-preserved : goal.loop-i-preserved
loop-i-preserved g c = seeking_goes_on c.loop-i.invariant
    (λ x. both_ways _ (c.is_wanted.ensures.all x.0 x.1) c.if-is_wanted.false)
    (rw (← c.self.view_is) c.ccw_edge-edge.ensures.within)
    (rw (← c.self.view_is) c.ccw_edge-edge.ensures.value)

pub returns-then-is_wanted : goal.returns-then-is_wanted
returns-then-is_wanted g c =
    let one = seeking_finds c.loop-i.invariant (c.is_wanted.ensures.turnable c.if-is_wanted.true) in
    record { some = one; finds = λ any. record { some = one; none = search } }

pub returns-clause-finds : goal.returns-clause-finds
returns-clause-finds g c any = record {
  some = search;
  none = λ k less is.
      c.loop-i.invariant.walk.none k (let e = c.loop-i-test.false in omega (arith, e, less))
      (any, is);
}
