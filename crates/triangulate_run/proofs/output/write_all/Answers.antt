use Rattle.std.proofs.Common.{◌≡◌, ◌-◌, length, take, drop, arith, sym, length-drop}
use Rattle.std.proofs.lemmas.List.{take-append-drop, take_all}
use Rattle.std.proofs.Math.Seq.{take-add}
use Rattle.std.proofs.lemmas.Result.{err_from_is_err_and}
use Rattle.triangulate_run.proofs.OutputLemmas.{appends_keep, appends_more}
use Rattle.triangulate_run.proofs.output.write_all.Goals as goal

pub returns-in_err-written : goal.returns-in_err-written
returns-in_err-written g c =
    let w = c.loop-written.written in
    let bytes = c.args.bytes.now in
    let so_far = c.loop-written.invariant.so_far in
    let failed = err_from_is_err_and c.from_residual.result c.from_residual.ensures.1 in
    rw failed.1 (
      record {
        part = take w bytes;
        rest = drop w bytes;
        whole = sym (take-append-drop w bytes);
        written = appends_keep _ _ _ _ so_far c.in_err-written.ensures.bytes;
      },
      c.in_err-written.ensures.err,
    )

pub loop-written-preserved : goal.loop-written-preserved
loop-written-preserved g c =
    let w = c.loop-written.written in
    let bytes = c.args.bytes.now in
    let whole : take (length bytes - w) (drop w bytes) ≡ drop w bytes =
    take_all (length bytes - w) (drop w bytes) (omega (arith, length-drop w bytes)) in
    let bound = rw whole at c.in_ok-written.ensures.bound in
    let wrote = rw whole at c.in_ok-written.ensures.bytes in
    record {
      within = omega (arith, bound, length-drop w bytes);
      so_far = rw (take-add w c.in_ok-written.field-0 bytes)
          (appends_more _ _ _ _ _ c.loop-written.invariant.so_far wrote);
      works = c.in_ok-written.ensures.ok;
    }
