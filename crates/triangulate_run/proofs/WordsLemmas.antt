-- The words of a line, taken off from the front.
-- Lemmas: word_at, last_word.
use Rattle.std.proofs.Common.{◌≡◌, ◌+◌, ◌<◌, [], ◌∷◌, ◌++◌, ◌∙◌}
use Rattle.std.proofs.Common.{ℕ, false, eqb, List, length, take, drop, get_or, arith, refl}
use Rattle.std.proofs.Common.{sym, ap, length-take}
use Rattle.std.specs.List.{All}
use Rattle.std.proofs.lemmas.List.Splits.{slice_split_at, slice_split_none}
use Rattle.std.proofs.lemmas.List.{take-append-drop, get_or-take, get_or_default, at_drop_more}
use Rattle.std.proofs.lemmas.Bool.{ne_eqb}
use Rattle.triangulate_run.specs.{words_of}

no_space : (text : List ℕ) → ((k : ℕ) → k < length text → get_or text k 0 ≡ 32 → ⊥)
    → All (λ b. eqb b 32 ≡ false) text
no_space text h = λ k d lt. ne_eqb _ _ (λ e. h k lt (get_or_default text k 0 d lt ∙ e))

-- the first space of a text ends its first word, and the other words are those of what follows it
pub word_at : (text : List ℕ) (i : ℕ) → i < length text → get_or text i 0 ≡ 32
    → ((k : ℕ) → k < i → get_or text k 0 ≡ 32 → ⊥)
    → words_of text ≡ take i text ∷ words_of (drop (i + 1) text)
word_at text i within at before =
    let clear = no_space (take i text) (λ k lt e. before k (omega (arith, length-take i text))
    (sym (get_or-take i text k 0 (omega (arith, length-take i text))) ∙ e)) in
    let whole : text ≡ take i text ++ 32 ∷ drop (i + 1) text =
    sym (take-append-drop i text) ∙ ap (λ ys. take i text ++ ys)
    (at_drop_more (λ ys. ys) text i 0 within ∙ ap (λ x. x ∷ drop (i + 1) text) at) in
    ap words_of whole
    ∙ slice_split_at (λ b. eqb b 32) (take i text) 32 (drop (i + 1) text) clear refl

-- a text without a space is one word
pub last_word : (text : List ℕ) → ((k : ℕ) → k < length text → get_or text k 0 ≡ 32 → ⊥)
    → words_of text ≡ text ∷ []
last_word text h = slice_split_none (λ b. eqb b 32) text (no_space text h)
