use Rattle.std.proofs.Common.{◌≡◌, List, length, rules, refl, ap, arith}
use Rattle.std.proofs.lemmas.Grind.{common_steps}
use Rattle.std.specs.Vec.Iter.{into_iter_items}
use Rattle.std.proofs.lemmas.List.Sorted.{IsNonDecreasingBy-from_sort_by_key, answers_always}
use Rattle.delaunay_extensions.specs.declared.order.Keyed.{Keyed}
use Rattle.delaunay_extensions.proofs.Placing.{key_by, one_keyed, sorted_is_listed}
use Rattle.delaunay_extensions.proofs.order.along_curve.Goals as goal

pub loop-vertex-preserved : goal.loop-vertex-preserved
loop-vertex-preserved g c =
    let is = c.in-Some.ensures.steps.0 in
    let fewer = ap (λ (vs : List g.row.V.Denot). length vs) is in
    let room = c.loop-vertex.invariant.3 in let pushed = c.push_reserved.ensures in
    let before = c.loop-vertex.keyed.ok in let after = c.push_reserved.new.self.ok in (
      tt,
      tt,
      one_keyed _ _ is c.loop-vertex.invariant.2 (key_by _ c.order_key-key.ensures (search rules)
          (search rules) c.to_i64.ensures c.to_i64-in-loop-vertex.ensures
          c.position-position.ensures) (omega (arith, c.len-place.ensures, before)) refl
          pushed.items,
      omega (arith, fewer, room, pushed.len, pushed.capacity, before, after),
    )

pub returns : goal.returns
returns g c =
    let none : length (into_iter_items c.loop-vertex.vertex-iterator) ≡ 0 =
    omega (arith, c.in-None.ensures.steps, c.loop-vertex.vertex-iterator.rest.ok) in
    sorted_is_listed g.V.HasPosition.place _ (rw c.into_iter-vertex-iterator.ensures.into_iter_gives.0
    at c.loop-vertex.invariant.2) none c.sort_by_key.ensures.permutation
    (IsNonDecreasingBy-from_sort_by_key (λ (p : Keyed g.row.V.Denot). p.key) _
    c.in_ok-sort_by_key.ensures.sorted (λ a r q k. search rules))
    (c.in_ok-sort_by_key.ensures.stable (λ (p : Keyed g.row.V.Denot). p.key)
    (answers_always _ _ _ (λ q a r p k. search rules)))

pub loop-vertex-init : goal.loop-vertex-init
loop-vertex-init g c = grind (arith, common_steps)
