use Rattle.std.proofs.Common.{refl}
use Rattle.{triangulate_run.proofs.Stages.answered_so, triangulate_run.specs.reply_text}
use Rattle.triangulate_run.proofs.engine.PointEngine.answer.Goals as goal
use goal.{in-Constrain, in-Line, in_default+in-BadLine-1, in_default+in-Faces-1}

pub returns-clause-answered : goal.returns-clause-answered
returns-clause-answered g c = elim c.match-command.branch [
  | in-Constrain w ↦
      rw (w.in-Constrain.is, w.self-is, w.writer-is, w.held-is, w.answered-is)
      w.constrain-answered.ensures.answered
  | in-Line w ↦ rw (w.in-Line.is, w.self-is, w.writer-is, w.held-is, w.answered-is) (
      let told = w.line-answered.ensures.answered in
      (told.0, (told.1, refl), told.2))
  | in_default+in-Faces-1 w ↦ rw (w.self-is, w.writer-is, w.held-is, w.answered-is) (
      let so = answered_so _ _ c.args.command _ _ w.reply_to-reply.ensures.reply in
      (reply_text w.reply_to-reply.result, so, w.put_reply-answered.ensures))
  | in_default+in-BadLine-1 w ↦ rw (w.self-is, w.writer-is, w.held-is, w.answered-is) (
      let so = answered_so _ _ c.args.command _ _ w.reply_to-reply.ensures.reply in
      (reply_text w.reply_to-reply.result, so, w.put_reply-answered.ensures))
]
