use Rattle.std.proofs.Common.{inl, inr, refl}
use Rattle.std.proofs.lemmas.Result.{err_from_is_err_and}
use Rattle.triangulate_run.proofs.OutputLemmas.{held_fails, held_written, writes_flushed}
use Rattle.triangulate_run.proofs.session.answer.Goals as goal

pub returns-in_default-clause-answered : goal.returns-in_default-clause-answered
returns-in_default-clause-answered g c =
    (_, inr (c.in_default.ensures.complete, refl, refl), c.refuse.ensures)

pub returns-in_err-answer-clause-answered : goal.returns-in_err-answer-clause-answered
returns-in_err-answer-clause-answered g c =
    let told = c.in_err-answer.ensures.answered in
    let failed = err_from_is_err_and c.from_residual.result c.from_residual.ensures.1 in (
      told.0,
      inl (_, c.in-Some.ensures.sound, told.1),
      rw failed.1 (rw c.new-held.ensures at told.2),
    )

pub write_all-requires : goal.write_all-requires
write_all-requires g c = record { works = c.in_ok-answer.ensures.answered.2.1 }

pub returns-in_err-write_all-clause-answered : goal.returns-in_err-write_all-clause-answered
returns-in_err-write_all-clause-answered g c =
    let told = c.in_ok-answer.ensures.answered in
    let wrote = rw c.as_slice.ensures.value at c.in_err-write_all.ensures in
    let failed = err_from_is_err_and c.from_residual-in_err-write_all.result
    c.from_residual-in_err-write_all.ensures.1 in (
      told.0,
      inl (_, c.in-Some.ensures.sound, told.1),
      rw failed.1 (held_fails c.new-held.ensures told.2.0 _ wrote.0, wrote.1),
    )

pub returns-clause-answered : goal.returns-clause-answered
returns-clause-answered g c =
    let told = c.in_ok-answer.ensures.answered in
    let wrote = rw c.as_slice.ensures.value at c.in_ok-write_all.ensures in
    let f = c.flush.ensures in (
      told.0,
      inl (_, c.in-Some.ensures.sound, told.1),
      writes_flushed _ _ _ _ _ c.flush.result _
          (held_written c.new-held.ensures told.2.0 _ wrote.0) f.bytes f.ok f.err,
    )
