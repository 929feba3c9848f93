use Rattle.std.proofs.Common.{arith, refl}
use Rattle.delaunay_edit.proofs.JoinedPath.{path_leaves, path_renamed}
use Rattle.delaunay_edit.proofs.MovedEdges.{fewer_fit}
use Rattle.delaunay_edit.proofs.joining.settle.Goals as goal

pub add_path-requires-clause-room : goal.add_path-requires-clause-room
add_path-requires-clause-room g c =
    let few = c.requires.can.kept.few_edges in
    let fits = c.requires.room.edges in
    let same = c.list_pairs.ensures.capacity in (
      record { edges = c.list_pairs.ensures.left.edges; room = omega (arith, few, fits, same) },
      fewer_fit _ _ c.args.crossing.now few (rw c.in-Some.is at c.requires.room.crossing_edges),
    )

pub add_path-requires-clause-can_mark : goal.add_path-requires-clause-can_mark
add_path-requires-clause-can_mark g c = (rw c.in-Some.is at c.requires.can.way).0

pub add_path-requires-clause-way : goal.add_path-requires-clause-way
add_path-requires-clause-way g c =
    rw (c.index_left-from.ensures, c.index_left-to.ensures)
    (rw c.in-Some.is at c.requires.can.way).1

pub legalize-requires-clause-left : goal.legalize-requires-clause-left
legalize-requires-clause-left g c =
    path_leaves c.add_path.ensures.adds c.add_path.ensures.leaves c.list_pairs.ensures.left

pub returns-in-Some : goal.returns-in-Some
returns-in-Some g c = rw c.in-Some.is (record {
  middle = c.add_path.new.dcel;
  path = path_renamed c.index_left-from.ensures c.index_left-to.ensures c.add_path.ensures.adds;
  legalizes = c.legalize.ensures.legalizes;
})

pub returns-in-None : goal.returns-in-None
returns-in-None g c = rw c.in-None.is (record {
  middle = c.args.dcel.now;
  path = refl;
  legalizes = c.legalize_pairs.ensures.legalizes;
})
