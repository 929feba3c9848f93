use Rattle.std.proofs.Common.{arith}
use Rattle.delaunay_location.proofs.Advance.{is_ready, walks_line}
use Rattle.delaunay_location.proofs.between.EmbeddingLineViews.line_between.Goals as goal

pub returns : goal.returns
returns g c =
    let first = rw (← c.self.view_is) at c.first_from-current.ensures in
    let covered = rw (← c.self.view_is) at c.requires in
    rw (← c.self.view_is) record {
      line = walks_line first;
      ready = is_ready first (record {
        embedding = c.self.invariant;
        from_covered = covered.from_covered;
        to_covered = covered.to_covered;
      }) (search arith);
    }
