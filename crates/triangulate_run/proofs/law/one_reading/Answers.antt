use Rattle.std.proofs.Common.{sym, ◌∙◌}
use Rattle.triangulate_run.specs.{words_of}
use Rattle.triangulate_run.proofs.{CutLemmas.same_cut, Exact.complete}
use Rattle.triangulate_run.proofs.law.one_reading.Goals as goal

pub returns : goal.returns
returns c = record {
  one_cut = λ input lines others rest end a b. same_cut lines others rest end a.each b.each a.last
      b.last (sym a.whole ∙ b.whole);
  one_command = λ line one other h k.
      cc (complete one (words_of line) h.1, complete other (words_of line) k.1);
}
