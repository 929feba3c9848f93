use Rattle.std.proofs.Common.{◌<◌, length, arith, refl}
use Rattle.half_edge_dcel.proofs.Turning.{fewer_made, maps_begins, maps_ends, maps_goes_on}
use Rattle.half_edge_dcel.proofs.mapped.mapped.Goals as goal

pub loop-item-init : goal.loop-item-init
loop-item-init g c = (
  tt,
  tt,
  maps_begins _ _ _ _ c.into_iter-item-iterator.ensures.into_iter_gives.0
      c.requires.empty,
  refl,
)

pub push_reserved-requires : goal.push_reserved-requires
push_reserved-requires g c =
    let fewer : length c.loop-item.into.items < length c.args.items.items =
    fewer_made _ _ _ _ _ _ c.loop-item.invariant.2 c.in-Some.ensures.steps.0 in
    omega (
      arith,
      fewer,
      c.requires.room,
      c.loop-item.invariant.3,
      c.loop-item.into.ok,
      c.args.items.ok,
    )

pub loop-item-preserved : goal.loop-item-preserved
loop-item-preserved g c = (
  tt,
  tt,
  rw c.push_reserved.ensures.items (maps_goes_on _ _ _ _ _ _ _ c.loop-item.invariant.2
      c.in-Some.ensures.steps.0 c.change.ensures),
  search,
)

pub returns-clause-items : goal.returns-clause-items
returns-clause-items g c = maps_ends _ _ _ _ c.loop-item.invariant.2
    (omega (arith, c.in-None.ensures.steps, c.loop-item.item-iterator.rest.ok))
