-- How a text is taken apart from the front.
use Rattle.std.specs.Prelude.{◌≡◌, ℕ, List, [], ◌∷◌, Bool, false, ◌==◌, not, ⊤}
use Rattle.mesh_files.specs.{declared.words.Stretch.Stretch, Rows.is_blank_byte}
use Rattle.mesh_files.specs.declared.words.Stretch.TheVariants.{Blanks, Line, Word}

-- whether a byte belongs to a stretch
abbrev pub is_in : Stretch → ℕ → Bool
is_in Line c = not (c == 10)
is_in Blanks c = is_blank_byte c
is_in Word c = not (is_blank_byte c)

-- the text begins with no byte that passes
abbrev pub StopsAt : (ℕ → Bool) → List ℕ → Type 0
StopsAt p [] = ⊤
StopsAt p (c ∷ cs) = p c ≡ false
