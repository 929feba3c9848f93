use Rattle.std.proofs.Common.{refl}
use Rattle.std.proofs.lemmas.List.Elements.{All-nil}
use Rattle.triangulate_run.proofs.session.run.Goals as goal

pub answer_lines-requires : goal.answer_lines-requires
answer_lines-requires g c =
    let first = c.new.ensures.empty in
    record {
      ready = record {
        points_covered = c.requires.covered;
        points_sites = c.requires.sites;
        vertices_sites = rw first.vertices (All-nil _);
      };
      first = rw (first.vertices, first.mesh) refl;
      reader_works = c.requires.reader_works;
      writer_works = c.requires.writer_works;
    }
