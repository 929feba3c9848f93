use Rattle.std.proofs.Common.{◌++◌}
use Rattle.mesh_files.proofs.TokenRuns.{tokens_passed}
use Rattle.mesh_files.proofs.geojson.pass_value.Goals as goal

pub returns : goal.returns
returns c = λ all drawing h.
    let skipped = c.in_ok-skip_value.ensures in (
      h.0 ++ skipped.0,
      tokens_passed all h.0 c.args.text.now.reader skipped.0
          c.skip_value.new.self.reader h.1 skipped.1,
      record {
        wanted_is = c.in-Some.ensures all c.skip_value.new.self.reader;
        shape_is = h.2.shape_is;
        drawn = h.2.drawn;
      },
    )
