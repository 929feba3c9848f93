use Rattle.std.proofs.Common.{◌∙◌, ◌+◌, sym, ap, drop}
use Rattle.std.specs.Prelude.{slice_set}
use Rattle.std.proofs.lemmas.List.{drop_all, length-set}
use Rattle.delaunay_extensions.specs.{written}
use Rattle.delaunay_extensions.proofs.Written.{first_written, none_waits}
use Rattle.delaunay_extensions.proofs.by_place.write_entries.Goals as goal

pub loop-entry-preserved : goal.loop-entry-preserved
loop-entry-preserved g c =
    let items = c.loop-entry.items.items in
    let waiting = c.deref-entry-items.result.now in
    let i = c.loop-entry.entry-index in
    let entry = c.entry-item.result in (
      ap (λ e. written (slice_set items e.0 e.1) (drop (i + 1) waiting)) c.entry-item.is
          ∙ sym (first_written items waiting i entry c.loop-entry-test.true)
          ∙ c.loop-entry.invariant.0,
      length-set items entry.0 entry.1 ∙ c.loop-entry.invariant.1,
      c.loop-entry.invariant.2,
    )

pub returns : goal.returns
returns g c =
    let waiting = c.deref-entry-items.result.now in
    sym (none_waits c.loop-entry.items.items _
    (drop_all c.loop-entry.entry-index waiting c.loop-entry-test.false))
    ∙ c.loop-entry.invariant.0
