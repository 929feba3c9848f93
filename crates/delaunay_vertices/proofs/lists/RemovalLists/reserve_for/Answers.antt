use Rattle.std.proofs.Common.{arith}
use Rattle.std.proofs.lemmas.Result.{on_ok_weaker}
use Rattle.delaunay_vertices.proofs.Degrees.{room_within}
use Rattle.delaunay_vertices.proofs.lists.RemovalLists.reserve_for.Goals as goal

pub returns : goal.returns
returns g c =
    let few = c.degree-edges.ensures.room in
    let fits = c.in_ok-reserve.ensures.ok in
    let vertices = c.num_vertices.ensures.value in
    let tested = c.in_ok-reserve-2.ensures.room in
    on_ok_weaker c.reserve-3.result (λ room. record {
      edges = c.degree-edges.ensures.round;
      sides = room_within _ few (omega (arith, fits));
      tested = omega (arith, tested, vertices);
      turned = room_within _ few room;
    }) c.reserve-3.ensures.ok
