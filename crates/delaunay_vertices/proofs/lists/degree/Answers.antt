use Rattle.delaunay_vertices.proofs.Degrees.{none_listed, room_of_none, room_of_round, round_listed}
use Rattle.delaunay_vertices.proofs.lists.degree.Goals as goal

pub returns-in-Some : goal.returns-in-Some
returns-in-Some g c =
    let round = rw c.in-Some.ensures.starts at c.count_edges.ensures in
    record { room = room_of_round round; round = round_listed c.in-Some.ensures.some round }

pub returns-in-None : goal.returns-in-None
returns-in-None g c =
    let none = c.in-None.ensures.none in
    let sound = c.in-None.ensures.whole.valid.sound in
    record { room = room_of_none sound none; round = none_listed none }
