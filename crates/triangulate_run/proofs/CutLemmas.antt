-- There is one way to cut an input into lines.
-- Lemmas: same_cut.
use Rattle.std.proofs.Common.{◌≡◌, ◌≢◌, ℕ, List, [], ◌∷◌, ◌++◌, refl, sym, ◌∙◌, append_assoc}
use Rattle.std.specs.List.{flat_map, All}
use Rattle.std.proofs.lemmas.List.Elements.{All-head, All-tail}
use Rattle.triangulate_run.specs.Run.{IsOneLine}

-- the lines, each with its line break
abbrev text : List (List ℕ) → List ℕ
text lines = flat_map (λ line. line ++ 10 ∷ []) lines

-- the first line, up to the first newline
same_line : (a b x y : List ℕ) → IsOneLine a → IsOneLine b → a ++ (10 ∷ x) ≡ b ++ (10 ∷ y)
    → (a ≡ b) × (x ≡ y)
same_line [] [] x y h k e = (refl, cc)
same_line [] (c ∷ b) x y h k e = absurd (All-head (λ (z : ℕ). z ≢ 10) c b k (cc))
same_line (c ∷ a) [] x y h k e = absurd (All-head (λ (z : ℕ). z ≢ 10) c a h (cc))
same_line (c ∷ a) (d ∷ b) x y h k e =
    let tail : a ++ (10 ∷ x) ≡ b ++ (10 ∷ y) = cc in
    let head : c ≡ d = cc in
    let s = same_line a b x y (All-tail (λ (z : ℕ). z ≢ 10) c a h)
    (All-tail (λ (z : ℕ). z ≢ 10) d b k) tail in
    (cc (head, s.0), s.1)

-- no line ends in what has no newline
no_line : (a x b : List ℕ) → IsOneLine b → a ++ (10 ∷ x) ≡ b → ⊥
no_line [] x [] k e = cc
no_line [] x (d ∷ b) k e = All-head (λ (z : ℕ). z ≢ 10) d b k (cc)
no_line (c ∷ a) x [] k e = cc
no_line (c ∷ a) x (d ∷ b) k e = no_line a x b (All-tail (λ (z : ℕ). z ≢ 10) d b k) (cc)

first_of : (line : List ℕ) (lines : List (List ℕ)) (rest : List ℕ)
    → text (line ∷ lines) ++ rest ≡ line ++ (10 ∷ (text lines ++ rest))
first_of line lines rest = append_assoc (line ++ 10 ∷ []) (text lines) rest
    ∙ append_assoc line (10 ∷ []) (text lines ++ rest)

-- equal bytes, each cut into lines and a rest without a newline, have the same lines and rest
pub same_cut : (lines others : List (List ℕ)) (rest end : List ℕ) → All IsOneLine lines
    → All IsOneLine others → IsOneLine rest → IsOneLine end
    → text lines ++ rest ≡ text others ++ end → (lines ≡ others) × (rest ≡ end)
same_cut [] [] rest end h k r s e = (refl, e)
same_cut [] (b ∷ others) rest end h k r s e =
    absurd (no_line b (text others ++ end) rest r (sym (first_of b others end) ∙ sym e))
same_cut (a ∷ lines) [] rest end h k r s e =
    absurd (no_line a (text lines ++ rest) end s (sym (first_of a lines rest) ∙ e))
same_cut (a ∷ lines) (b ∷ others) rest end h k r s e =
    let p = same_line a b (text lines ++ rest) (text others ++ end) (All-head IsOneLine a lines h)
    (All-head IsOneLine b others k) (sym (first_of a lines rest) ∙ e ∙ first_of b others end) in
    let q = same_cut lines others rest end (All-tail IsOneLine a lines h)
    (All-tail IsOneLine b others k) r s p.1 in
    (cc (p.0, q.0), q.1)
