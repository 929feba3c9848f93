use Rattle.std.proofs.Common.{length, arith, ap, ◌≡◌, ◌∙◌, sym, drop, ◌∷◌, take, ◌-◌, ◌+◌}
use Rattle.std.proofs.Common.{length-drop, rules}
use Rattle.std.proofs.lemmas.List.{take_all}
use Rattle.triangulate_run.specs.{words_of}
use Rattle.triangulate_run.proofs.WordsLemmas.{last_word, word_at}
use Rattle.triangulate_run.proofs.words.Words.next_word.Goals as goal

pub returns-then-byte-eq32 : goal.returns-then-byte-eq32
returns-then-byte-eq32 c =
    let text = c.in_ok-text.text.now in
    let whole : c.args.self.now ≡ words_of text = search rules in
    let e = word_at text c.loop-i.i c.loop-i-test.true c.if-byte-eq32.true c.loop-i.invariant in
    let all = take_all (length text - (c.loop-i.i + 1)) (drop (c.loop-i.i + 1) text)
    (omega (arith, length-drop (c.loop-i.i + 1) text)) in
    whole ∙ e ∙ ap (λ ys. take c.loop-i.i text ∷ words_of ys) (sym all)

pub returns : goal.returns
returns c =
    let whole : c.args.self.now ≡ words_of c.in_ok-text.text.now = search rules in
    whole ∙ last_word _ (λ k lt. c.loop-i.invariant k (omega arith))
