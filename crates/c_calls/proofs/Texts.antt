-- What C is told of a status in words.
-- Lemmas: words_end.
use Rattle.std.proofs.Common.{◌≡◌, ◌∙◌, ◌+◌, ◌-◌, ◌++◌, ◌∷◌, [], ℕ, List, length, drop}
use Rattle.std.proofs.Common.{ap, append_assoc, arith}
use Rattle.std.proofs.lemmas.List.{length_push}
use Rattle.c_calls.specs.Words.{status_words, WritesWords}

-- the words were written with their final 0 byte
pub words_end : (s : ℕ) (bytes old new : List ℕ) → bytes ≡ status_words s ++ 0 ∷ []
    → new ≡ bytes ++ drop (length bytes) old → WritesWords s (length bytes - 1) old new
words_end s bytes old new are written =
    let words : List ℕ = status_words s in
    let size : length bytes ≡ length words + 1 = ap length are ∙ length_push words 0 in
    let told : length bytes - 1 ≡ length words = omega (arith, size) in
    let all : length bytes ≡ (length bytes - 1) + 1 = omega (arith, size) in (
      told,
      written ∙ ap (λ (xs : List ℕ). xs ++ drop (length bytes) old) are
          ∙ append_assoc words (0 ∷ []) (drop (length bytes) old)
          ∙ ap (λ (n : ℕ). words ++ 0 ∷ drop n old) all,
    )
