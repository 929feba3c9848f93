-- The rows of words that a text of lines has.
use Rattle.std.specs.Prelude.{ℕ, List, [], ◌∷◌, Bool, true, false, ◌==◌, ◌||◌}
use Rattle.std.specs.Prelude.{if◌then◌else◌}

-- a blank or a comma: byte 32, the space, 9, the tab, 13, the carriage return, or 44
abbrev pub is_blank_byte : ℕ → Bool
is_blank_byte c = (c == 32) || (c == 9) || (c == 13) || (c == 44)

-- a byte before the others of the first item, which is there where the list is not empty
abbrev pub put_first : ℕ → List (List ℕ) → List (List ℕ)
put_first c [] = (c ∷ []) ∷ []
put_first c (w ∷ ws) = (c ∷ w) ∷ ws

-- the words of a line, where the first has begun or has not; byte 35, '#', begins a comment
unfoldable pub words_in : Bool → List ℕ → List (List ℕ)
words_in false [] = []
words_in true [] = [] ∷ []
words_in false (c ∷ cs) = if is_blank_byte c then words_in false cs
    else (if c == 35 then [] else put_first c (words_in true cs))
words_in true (c ∷ cs) = if is_blank_byte c then [] ∷ words_in false cs
    else put_first c (words_in true cs)

abbrev pub words_of : List ℕ → List (List ℕ)
words_of line = words_in false line

-- a row before others, where it has a word
abbrev pub keep_row : List (List ℕ) → List (List (List ℕ)) → List (List (List ℕ))
keep_row [] rows = rows
keep_row (w ∷ ws) rows = (w ∷ ws) ∷ rows

-- the lines of a text, which end before byte 10
unfoldable pub lines_of : List ℕ → List (List ℕ)
lines_of [] = []
lines_of (c ∷ cs) = if c == 10 then [] ∷ lines_of cs else put_first c (lines_of cs)

-- the words of each line that has one
unfoldable pub rows_in : List (List ℕ) → List (List (List ℕ))
rows_in [] = []
rows_in (line ∷ lines) = keep_row (words_of line) (rows_in lines)

abbrev pub rows_of : List ℕ → List (List (List ℕ))
rows_of text = rows_in (lines_of text)
