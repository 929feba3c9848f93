use Rattle.std.proofs.Common.{◌∙◌, sym}
use Rattle.std.proofs.lemmas.List.{length-map}
use Rattle.std.proofs.lemmas.Result.{err_from_is_err_and}
use Rattle.delaunay_edit.proofs.Removing.{read_place}
use Rattle.delaunay_interface.proofs.triangulation.Triangulation.locate_and_remove.Goals as goal

pub returns-in_err-remove-clause-removes : goal.returns-in_err-remove-clause-removes
returns-in_err-remove-clause-removes g c =
    let removed = c.in_err-remove.ensures.removes in
    let p = err_from_is_err_and c.from_residual.result c.from_residual.ensures.1 in
    rw p.1 (record {
      apart = λ unknown. absurd (unknown (record {
        index = c.in-Some.vertex.index;
        below = rw length-map c.in-Some.ensures.1;
        here = c.in-Some.ensures.2;
      }));
      ok = tt;
      outer = removed.outer;
      err = removed.err;
    })

pub returns-clause-removes : goal.returns-clause-removes
returns-clause-removes g c =
    let removed = c.in_ok-remove.ensures.removes in
    let state = g.Self.Triangulation.state c.args.self.now in
    let found = rw (← c.fix-vertex.ensures.value) at c.in-Some.ensures in
    record {
      apart = λ unknown. absurd (unknown (record {
        index = c.fix-vertex.result;
        below = rw length-map found.1;
        here = found.2;
      }));
      ok = record {
        index = c.fix-vertex.result;
        here = sym (read_place _ state.vertices _ _ removed.value) ∙ found.2;
        had = removed.value;
        plain = removed.plain;
        others = removed.«data»;
      };
      outer = removed.outer;
      err = tt;
    }
