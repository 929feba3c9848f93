use Rattle.delaunay_location.proofs.{MeshSteps.embedding_value, OutlineWalk.nothing_on_its_left}
use Rattle.delaunay_location.proofs.outside.first_along.Goals as goal

pub returns-then-is_on_left_side : goal.returns-then-is_on_left_side
returns-then-is_on_left_side g c =
    nothing_on_its_left (embedding_value c.embedding.view_is c.embedding.invariant)
    c.requires.ends.apart
    c.args.edge c.requires.seen ((rw c.side_along.ensures at c.is_on_left_side.ensures).0
    c.if-is_on_left_side.true)
