use Rattle.std.proofs.Common.{◌∙◌, ap, ◌++◌, ◌∷◌, [], ℕ, List}
use Rattle.mesh_files.proofs.TriangleRows.{rows_more}
use Rattle.mesh_files.proofs.triangle_files.read_segment_part.Goals as goal

pub loop-preserved : goal.loop-preserved
loop-preserved c =
    let before = c.loop.invariant in
    let row = c.in_ok-take_segment.ensures.row in
    let same = c.in_ok-take_segment.ensures.same in (
      before.0 ++ row.0 ∷ [],
      rows_more before.0 row.0 c.read_segment_head.new.source c.loop.source
          c.take_segment.new.source before.1 row.1,
      record {
        spots_are = same.spots_are ∙ before.2.spots_are;
        heights_are = same.heights_are ∙ before.2.heights_are;
        holes_are = same.holes_are ∙ before.2.holes_are;
      },
    )

pub returns-clause-rows : goal.returns-clause-rows
returns-clause-rows c =
    let row = c.in_ok-count.ensures.row in
    let rest = c.loop.invariant in
    (row.0 ∷ rest.0, row.1 ∙ ap (λ (r : List (List (List ℕ))). row.0 ∷ r) rest.1)
