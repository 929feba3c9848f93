use Rattle.std.proofs.Common.{◌∙◌, ap, ◌++◌, ◌∷◌, [], List}
use Rattle.{mesh_files.proofs.TriangleRows.hole_row, mesh_files.specs.Spot}
use Rattle.mesh_files.proofs.triangle_files.take_hole.Goals as goal

pub returns : goal.returns
returns c =
    let row = hole_row c.args.source.now c.needed_line.new.self c.count.new.self c.spot.new.self
    c.in_ok-spot.spot c.in_ok-needed_line.ensures c.in_ok-count.ensures
    c.in_ok-spot.ensures.written in
    let same = c.in_ok-spot.ensures.same in
    record {
      row = row.0;
      spot = c.in_ok-spot.spot;
      taken = row.1;
      row_is = row.2;
      holes_are = c.in_ok-push.ensures.items
          ∙ ap (λ (r : List Spot). r ++ c.in_ok-spot.spot ∷ []) same.holes_are;
      spots_are = same.spots_are;
      heights_are = same.heights_are;
    }
