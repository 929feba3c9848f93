-- What stretches of a text say of its lines and words.
use Rattle.std.proofs.Common.{Bor, ◌≡◌, ◌∙◌, ℕ, ◌+◌, ◌<◌, List, [], ◌∷◌, ◌++◌, Bool, true, false, length, refl, sym, ap, arith, ◌==◌, get_or, drop, take, suc}
use Rattle.std.specs.Prelude.{not, slice_get, Option, Some, None, MatchOption}
use Rattle.std.specs.Option.{is_some}
use Rattle.std.specs.List.{All, AllPass}
use Rattle.std.proofs.lemmas.Bool.{false≢true, eqb-true}
use Rattle.std.proofs.lemmas.List.{append-nil, take_more}
use Rattle.std.proofs.lemmas.List.Elements.{All-append}
use Rattle.mesh_files.specs.{is_in, rows_of, Stretches.StopsAt, words_of}
use Rattle.mesh_files.specs.Rows.{is_blank_byte, lines_of, rows_in, words_in}
use Rattle.mesh_files.specs.declared.words.Stretch.TheVariants.{Line, Word}

not_false : (b : Bool) → not b ≡ false → b ≡ true
not_false true h = refl
not_false false h = sym h

not_true : (b : Bool) → not b ≡ true → b ≡ false
not_true true h = sym h
not_true false h = refl

no_eqb : (m n : ℕ) → (m ≡ n → ⊥) → (m == n) ≡ false
no_eqb m n h = grind (arith, h)

tail_passes : (p : ℕ → Bool) (c : ℕ) (cs : List ℕ) → AllPass p (c ∷ cs) → AllPass p cs
tail_passes p c cs h = λ k d lt. h (suc k) d (let l : suc k < length (c ∷ cs) = omega arith in l)

head_passes : (p : ℕ → Bool) (c : ℕ) (cs : List ℕ) → AllPass p (c ∷ cs) → p c ≡ true
head_passes p c cs h = h 0 0 (let l : 0 < length (c ∷ cs) = omega arith in l)

-- blanks before words change nothing
past_blanks : (b r : List ℕ) → AllPass is_blank_byte b → words_in false (b ++ r) ≡ words_in false r
unfolding words_in
past_blanks [] r h = refl
past_blanks (c ∷ b) r h =
    let blank : is_blank_byte c ≡ true = head_passes is_blank_byte c b h in
    rw blank (past_blanks b r (tail_passes is_blank_byte c b h))

word_ends : (r : List ℕ) → StopsAt (is_in Word) r → words_in true r ≡ [] ∷ words_in false r
unfolding words_in
word_ends [] h = refl
word_ends (c ∷ cs) h =
    let blank : is_blank_byte c ≡ true = not_false (is_blank_byte c) h in
    rw blank

rest_of_word : (w r : List ℕ) → AllPass (is_in Word) w → StopsAt (is_in Word) r
    → words_in true (w ++ r) ≡ w ∷ words_in false r
unfolding words_in
rest_of_word [] r h s = word_ends r s
rest_of_word (c ∷ w) r h s =
    let other : is_blank_byte c ≡ false =
    not_true (is_blank_byte c) (head_passes (is_in Word) c w h) in
    rw (other, rest_of_word w r (tail_passes (is_in Word) c w h) s)

one_word : (c : ℕ) (w r : List ℕ) → (c == 35) ≡ false → AllPass (is_in Word) (c ∷ w)
    → StopsAt (is_in Word) r → words_in false (c ∷ (w ++ r)) ≡ (c ∷ w) ∷ words_in false r
unfolding words_in
one_word c w r n h s =
    let other : is_blank_byte c ≡ false =
    not_true (is_blank_byte c) (head_passes (is_in Word) c w h) in
    rw (other, n, rest_of_word w r (tail_passes (is_in Word) c w h) s)

word_here : (rest w r : List ℕ) → 0 < length rest → (get_or rest 0 0 ≡ 35 → ⊥)
    → StopsAt is_blank_byte rest → rest ≡ w ++ r → AllPass (is_in Word) w
    → StopsAt (is_in Word) r → words_of rest ≡ w ∷ words_of r
word_here [] w r some n stop e h s = absurd (omega arith)
word_here (c ∷ cs) [] [] some n stop e h s = cc
word_here (c ∷ cs) [] (d ∷ r) some n stop e h s =
    let same : c ≡ d = cc in
    let blank : is_blank_byte c ≡ true = rw same (not_false (is_blank_byte d) s) in
    absurd (false≢true (sym stop ∙ blank))
word_here (c ∷ cs) (d ∷ w) r some n stop e h s =
    let same : c ≡ d = cc in
    rw e (one_word d w r (no_eqb d 35 (λ x. n (same ∙ x))) h s)

-- the next word, behind blanks
pub next_word_is : (text b rest w r : List ℕ) → text ≡ b ++ rest → AllPass is_blank_byte b
    → 0 < length rest → (get_or rest 0 0 ≡ 35 → ⊥) → StopsAt is_blank_byte rest → rest ≡ w ++ r
    → AllPass (is_in Word) w → StopsAt (is_in Word) r → words_of text ≡ w ∷ words_of r
next_word_is text b rest w r et hb some n stop e h s =
    rw et (past_blanks b rest hb ∙ word_here rest w r some n stop e h s)

-- no word is left, where the text ends or a comment begins
pub no_word_left : (text b rest : List ℕ) → text ≡ b ++ rest → AllPass is_blank_byte b
    → length rest ≡ 0 → (words_of text ≡ []) × (words_of rest ≡ [])
unfolding words_in
no_word_left text b [] et hb e = (rw et (past_blanks b [] hb), refl)
no_word_left text b (c ∷ cs) et hb e = absurd (omega arith)

pub comment_left : (text b rest : List ℕ) → text ≡ b ++ rest → AllPass is_blank_byte b
    → 0 < length rest → StopsAt is_blank_byte rest → get_or rest 0 0 ≡ 35 → words_of text ≡ []
unfolding words_in
comment_left text b [] et hb some stop e = absurd (omega arith)
comment_left text b (c ∷ cs) et hb some stop e =
    rw (et, past_blanks b (c ∷ cs) hb, e)

line_put : (c : ℕ) (l : List ℕ) → (c == 10) ≡ false → lines_of l ≡ l ∷ lines_of []
    → lines_of (c ∷ l) ≡ (c ∷ l) ∷ lines_of []
unfolding lines_of
line_put c l other e = rw (other, e)

whole_line : (l : List ℕ) → AllPass (is_in Line) l → 0 < length l → lines_of l ≡ l ∷ lines_of []
unfolding lines_of
whole_line [] h lt = absurd (omega arith)
whole_line (c ∷ []) h lt =
    let other : (c == 10) ≡ false = not_true (c == 10) (head_passes (is_in Line) c [] h) in rw other
whole_line (c ∷ d ∷ l) h lt =
    let other : (c == 10) ≡ false = not_true (c == 10) (head_passes (is_in Line) c (d ∷ l) h) in
    let more : 0 < length (d ∷ l) = omega arith in
    let e : lines_of (d ∷ l) ≡ (d ∷ l) ∷ lines_of [] =
    whole_line (d ∷ l) (tail_passes (is_in Line) c (d ∷ l) h) more in
    line_put c (d ∷ l) other e

ended_line : (l r : List ℕ) → AllPass (is_in Line) l → lines_of (l ++ 10 ∷ r) ≡ l ∷ lines_of r
unfolding lines_of
ended_line [] r h = refl
ended_line (c ∷ l) r h =
    let other : (c == 10) ≡ false = not_true (c == 10) (head_passes (is_in Line) c l h) in
    rw (other, ended_line l r (tail_passes (is_in Line) c l h))

same_lines : (l text : List ℕ) → text ≡ l → lines_of l ≡ l ∷ lines_of []
    → lines_of text ≡ l ∷ lines_of []
same_lines l text same e = ap lines_of same ∙ e

-- the first line, and what is behind its end
pub next_line_is : (text l rest : List ℕ) → 0 < length text → text ≡ l ++ rest
    → AllPass (is_in Line) l → StopsAt (is_in Line) rest
    → lines_of text ≡ l ∷ lines_of (drop 1 rest)
next_line_is text l [] some e h s =
    let same : text ≡ l = e ∙ append-nil l in
    let more : 0 < length l = omega (arith, ap length same) in
    same_lines l text same (whole_line l h more)
next_line_is text l (c ∷ r) some e h s =
    let ten : c ≡ 10 = eqb-true c 10 (not_false (c == 10) s) in
    rw (e, ten) (ended_line l r h)

row_kept : (text line rest w : List ℕ) (ws : List (List ℕ))
    → lines_of text ≡ line ∷ lines_of rest → words_of line ≡ w ∷ ws
    → rows_of text ≡ words_of line ∷ rows_of rest
unfolding rows_in
row_kept text line rest w ws lines e = rw (lines, e)

-- a row is kept where it has a word
pub row_found : (o : Option (Bor (List ℕ))) (text line rest next : List ℕ) → is_some o ≡ true
    → MatchOption o (words_of line ≡ []) (λ w. words_of line ≡ w.now ∷ words_of next)
    → lines_of text ≡ line ∷ lines_of rest → rows_of text ≡ words_of line ∷ rows_of rest
row_found None text line rest next e h lines = absurd (false≢true e)
row_found (Some w) text line rest next e h lines =
    row_kept text line rest w.now (words_of next) lines h

pub row_passed : (o : Option (Bor (List ℕ))) (text line rest next : List ℕ) → is_some o ≡ false
    → MatchOption o (words_of line ≡ []) (λ w. words_of line ≡ w.now ∷ words_of next)
    → lines_of text ≡ line ∷ lines_of rest → rows_of text ≡ rows_of rest
unfolding rows_in
row_passed None text line rest next e h lines = rw (lines, h)
row_passed (Some w) text line rest next e h lines = absurd (false≢true (sym e))

-- one more byte that passes
pub passes_more : (p : ℕ → Bool) (xs : List ℕ) (i : ℕ) → i < length xs → AllPass p (take i xs)
    → p (get_or xs i 0) ≡ true → AllPass p (take (i + 1) xs)
passes_more p xs i lt h e = rw (take_more xs i 0 lt)
    (All-append (λ x. p x ≡ true) (take i xs) (get_or xs i 0 ∷ []) h (one (get_or xs i 0) e))
  where
    one : (x : ℕ) → p x ≡ true → All (λ y. p y ≡ true) (x ∷ [])
    one x e = λ k d l. grind arith

none_is_not : (c : ℕ) → None ≡ Some c → ⊥
none_is_not c e = cc

-- the first byte of a text
pub first_some : (xs : List ℕ) (x : ℕ) → Some x ≡ slice_get xs 0
    → (0 < length xs) × (get_or xs 0 0 ≡ x)
first_some [] x e = cc
first_some (c ∷ cs) x e = (omega arith, (let h : Some x ≡ Some c = e in cc))

pub first_none : (xs : List ℕ) → None ≡ slice_get xs 0 → length xs ≡ 0
first_none [] e = refl
first_none (c ∷ cs) e = absurd (none_is_not c e)
