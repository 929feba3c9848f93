use Rattle.delaunay_interface.proofs.constraints.ConstrainedDelaunayTriangulation+V+DE+UE+F+L.add_constraint.Goals as goal

pub unreachable-requires : goal.unreachable-requires
unreachable-requires g c =
    let told = rw c.in-Ok-None.field-0-is at c.in-Ok-None.ensures in
    told.adds.0 c.requires.free.free

pub returns-in-Ok-Some-clause-adds : goal.returns-in-Ok-Some-clause-adds
returns-in-Ok-Some-clause-adds g c =
    let told = rw c.in-Ok-Some.field-0-is at c.in-Ok-Some.ensures in
    told.adds

pub returns-in-Err-clause-adds : goal.returns-in-Err-clause-adds
returns-in-Err-clause-adds g c = record {
  plain = tt;
  told = tt;
  none_made = tt;
  «data» = tt;
  err = c.in-Err.ensures.adds.1;
}
