use Rattle.std.proofs.lemmas.Result.{err_from_is_err_and}
use Rattle.triangulate_run.specs.{position}
use Rattle.triangulate_run.proofs.Walks.{puts_begin, puts_end, puts_one, puts_part}
use Rattle.triangulate_run.proofs.line.put_items.Goals as goal

pub loop-item-init : goal.loop-item-init
loop-item-init g c = record {
  ready = c.requires.ready;
  so_far = puts_begin position (λ z. z) _ _ c.args.line.now;
  works = c.requires.works;
}

pub loop-item-preserved : goal.loop-item-preserved
loop-item-preserved g c =
    let put = c.in_ok-put_item.ensures in
    let next = c.in-Some.ensures in
    record {
      ready = next.goes.keeps;
      so_far = puts_one position (λ z. z) c.args.line.now c.loop-item.invariant.so_far next.steps
          put.0;
      works = put.1;
    }

pub returns-in_err-put_item : goal.returns-in_err-put_item
returns-in_err-put_item g c = λ items left.
    let put = c.in_err-put_item.ensures in
    let so_far = c.loop-item.invariant.so_far in
    let failed = err_from_is_err_and c.from_residual.result c.from_residual.ensures.1 in
    rw failed.1 (
      puts_part position (λ z. z) c.args.line.now so_far c.in-Some.ensures.steps put.0 items left,
      put.1,
    )

pub returns : goal.returns
returns g c = λ items left.
    let i = c.loop-item.invariant in (
      puts_end position (λ z. z) c.args.line.now i.so_far c.in_default.ensures.steps items left,
      i.works,
    )
