use Rattle.std.proofs.Common.{◌<◌, ◌≡◌, ◌∙◌, refl, length, rules}
use Rattle.triangulate_run.proofs.OutputLemmas.{appends_nil}
use Rattle.triangulate_run.proofs.RunLemmas.{byte_more, consumes_break, consumes_first}
use Rattle.triangulate_run.proofs.RunLemmas.{consumes_kept, end_bad, end_fault, end_more, end_none}
use Rattle.triangulate_run.proofs.RunLemmas.{kept_more, line_fault, line_more, read_fault, start}
use Rattle.triangulate_run.proofs.session.answer_lines.Goals as goal

pub loop-line-init : goal.loop-line-init
loop-line-init g c =
    record {
      ready = c.requires.ready;
      points = refl;
      running = start _ _ c.args.reader.now c.args.writer.now _ _ _ c.new-line.ensures
          c.requires.first c.requires.reader_works c.requires.writer_works;
    }

pub loop-line-preserved : goal.loop-line-preserved
loop-line-preserved g c =
    let i = c.loop-line.invariant in
    let room : length c.read.new.buf ≡ 1 = search rules in
    let took = consumes_first _ _ _ _ 0 c.in-Ok.field-0-test.1 c.in-Ok.ensures.bound.0 room
    c.in-Ok.ensures.bytes.0 in
    let p = c.try_push.ensures in
    record {
      ready = i.ready;
      points = i.points;
      running = byte_more i.running c.read.new.self _ c.try_push.new.self.items took
          c.in-Ok.ensures.ok c.if-byte-eq10.false
          (kept_more c.try_push.result _ _ i.running.held p.variant p.ok p.full p.err);
    }

pub loop-line-preserved-then-byte-eq10 : goal.loop-line-preserved-then-byte-eq10
loop-line-preserved-then-byte-eq10 g c =
    let i = c.loop-line.invariant in
    let room : length c.read.new.buf ≡ 1 = search rules in
    let took = consumes_first _ _ _ _ 0 c.in-Ok.field-0-test.1 c.in-Ok.ensures.bound.0 room
    c.in-Ok.ensures.bytes.0 in
    let newline = consumes_break _ _ _ c.if-byte-eq10.true took in
    let told = c.in-Ok-answer.ensures.answered in
    record {
      ready = c.in-Ok-answer.ensures.ready;
      points = c.in-Ok-answer.ensures.points ∙ i.points;
      running = line_more i.running c.read.new.self c.answer.new.writer told.0 _
          c.clear.new.self.items newline c.in-Ok.ensures.ok
          (rw (i.points, c.as_slice.ensures.value) at told.1) c.in-Ok-answer.ensures.fits told.2.0
          told.2.1 c.clear.ensures;
    }

pub returns-in-Err-answer : goal.returns-in-Err-answer
returns-in-Err-answer g c =
    let i = c.loop-line.invariant in
    let room : length c.read.new.buf ≡ 1 = search rules in
    let took = consumes_first _ _ _ _ 0 c.in-Ok.field-0-test.1 c.in-Ok.ensures.bound.0 room
    c.in-Ok.ensures.bytes.0 in
    let newline = consumes_break _ _ _ c.if-byte-eq10.true took in
    let told = c.in-Err-answer.ensures.answered in
    line_fault i.running c.read.new.self c.answer.new.writer told.0 _ newline c.in-Ok.ensures.ok
    (rw (i.points, c.as_slice.ensures.value) at told.1) c.in-Err-answer.ensures.fits told.2.0
    told.2.1

pub returns-in-Ok-eq0 : goal.returns-in-Ok-eq0
returns-in-Ok-eq0 g c =
    let s = c.loop-line.invariant.running in
    let room : 0 < length c.read.new.buf = search rules in
    let took = rw c.in-Ok-eq0.field-0-test at c.in-Ok-eq0.ensures.bytes.0 in
    let none = end_none _ c.is_empty.ensures c.if-is_empty.true in
    end_more s c.read.new.self c.loop-line.writer took
    (c.in-Ok-eq0.ensures.bytes.1 c.in-Ok-eq0.field-0-test room) c.in-Ok-eq0.ensures.ok
    (rw none (appends_nil _)) s.writer_works

pub returns-in-Ok-refuse : goal.returns-in-Ok-refuse
returns-in-Ok-refuse g c =
    let s = c.loop-line.invariant.running in
    let room : 0 < length c.read.new.buf = search rules in
    let took = rw c.in-Ok-eq0.field-0-test at c.in-Ok-eq0.ensures.bytes.0 in
    let bad = end_bad _ c.is_empty.ensures c.if-is_empty.false in
    let wrote = c.in-Ok-refuse.ensures in
    end_more s c.read.new.self c.refuse.new.writer took
    (c.in-Ok-eq0.ensures.bytes.1 c.in-Ok-eq0.field-0-test room) c.in-Ok-eq0.ensures.ok
    (rw bad wrote.0) wrote.1

pub returns-in-Err-refuse : goal.returns-in-Err-refuse
returns-in-Err-refuse g c =
    let s = c.loop-line.invariant.running in
    let took = rw c.in-Ok-eq0.field-0-test at c.in-Ok-eq0.ensures.bytes.0 in
    let bad = end_bad _ c.is_empty.ensures c.if-is_empty.false in
    let wrote = c.in-Err-refuse.ensures in
    end_fault s c.read.new.self c.refuse.new.writer took c.in-Ok-eq0.ensures.ok
    (rw bad wrote.0) wrote.1

pub returns-in-Err : goal.returns-in-Err
returns-in-Err g c = read_fault c.loop-line.invariant.running c.read.new.self
    (consumes_kept _ _ c.in-Err.ensures.bytes) c.in-Err.ensures.err
