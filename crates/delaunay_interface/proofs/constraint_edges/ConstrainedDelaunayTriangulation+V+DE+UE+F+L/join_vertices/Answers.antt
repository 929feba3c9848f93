use Rattle.std.proofs.Common.{refl}
use Rattle.delaunay_interface.proofs.Stepping.{crossed_now, joined_now, lacks_memory}
use Rattle.delaunay_interface.proofs.constraint_edges.ConstrainedDelaunayTriangulation+V+DE+UE+F+L.join_vertices.Goals as goal

pub returns-in-Ok-Some-clause-joins : goal.returns-in-Ok-Some-clause-joins
returns-in-Ok-Some-clause-joins g c =
    let told = rw c.in-Ok-Some.field-0-is at c.in-Ok-Some.ensures in
    joined_now _ _ _ _ _ _ _ _ refl refl told.adds.plain.free told.adds

pub returns-in-Ok-None-clause-joins : goal.returns-in-Ok-None-clause-joins
returns-in-Ok-None-clause-joins g c =
    let told = rw c.in-Ok-None.field-0-is at c.in-Ok-None.ensures in
    crossed_now _ _ _ _ _ _ refl told.adds

pub returns-in-Err-clause-joins : goal.returns-in-Err-clause-joins
returns-in-Err-clause-joins g c =
    lacks_memory _ _ _ _ _ _ refl c.in-Err.ensures.adds.0 c.in-Err.ensures.adds.1
