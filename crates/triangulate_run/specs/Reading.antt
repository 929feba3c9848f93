-- How the words of a line are read, from the front.
use Rattle.std.specs.Prelude.{◌&&◌, ◌==◌, if◌then◌else◌, [], ◌∷◌}
use Rattle.std.specs.Prelude.{ℕ, nat_lt, nat_le, ℤ, pos, neg_ℤ, List, length, drop, codes, Option}
use Rattle.std.specs.Prelude.{Some, None, option_and_then}
use Rattle.std.specs.Option.{option_map}
use Rattle.std.specs.Str.{all_ascii_digits, bytes_eq}
use Rattle.std.specs.Str.Parse.{digits_value}
use Rattle.triangulate_run.specs.declared.command.Command.{Command}
use Rattle.triangulate_run.specs.declared.command.Command.TheVariants.{Constrain, Counts, Faces}
use Rattle.triangulate_run.specs.declared.command.Command.TheVariants.{Insert, Line, Locate}
use Rattle.triangulate_run.specs.declared.command.Command.TheVariants.{Nearest, Release, Remove}
use Rattle.triangulate_run.specs.declared.command.Coordinates.{Coordinates}

infixl 10 ◌>>=◌
-- what f makes of a value, where there is one
abbrev pub ◌>>=◌ : {A B : Type 0} → Option A → (A → Option B) → Option B
o >>= f = option_and_then f o

-- the number that a word writes, if the word is 1 to 18 digits
unfoldable pub index_value : List ℕ → Option ℕ
index_value word = if nat_lt 0 (length word) && nat_le
    (length word) 18 && all_ascii_digits word then Some (digits_value 10 word) else None

-- the number that a word writes, if the word is an index, or byte 45, the minus, and an index
unfoldable pub number_value : List ℕ → Option ℤ
number_value [] = None
number_value (c ∷ digits) = if c == 45 then option_map (λ n. neg_ℤ (pos n))
    (index_value digits) else option_map pos (index_value (c ∷ digits))

-- of the first of the words
abbrev pub first_index : List (List ℕ) → Option ℕ
first_index [] = None
first_index (word ∷ words) = index_value word

-- the number that the first of the words writes
abbrev pub first_number : List (List ℕ) → Option ℤ
first_number [] = None
first_number (word ∷ words) = number_value word

-- the coordinates that the first two words write
unfoldable pub coordinates_of : List (List ℕ) → Option Coordinates
coordinates_of words = do
  x ← first_number words
  y ← first_number (drop 1 words)
  Some (record { x = x; y = y })

-- the two indexes that the first two words write
unfoldable pub pair_of : List (List ℕ) → Option (ℕ × ℕ)
pair_of words = do
  i ← first_index words
  j ← first_index (drop 1 words)
  Some (i, j)

-- how many words stand behind the name
abbrev pub arity : Command → ℕ
arity (Insert p) = 2
arity (Remove i) = 1
arity (Constrain i j) = 2
arity (Release i j) = 2
arity (Locate p) = 2
arity (Nearest p) = 2
arity (Line p q) = 4
arity Counts = 0
arity Faces = 0

-- the command of this name, with the first of the words
unfoldable pub command_named : List ℕ → List (List ℕ) → Option Command
command_named name args =
    if bytes_eq name (codes "insert") then (coordinates_of args >>= λ p. Some (Insert p)) else
    (if bytes_eq name (codes "remove") then (first_index args >>= λ i. Some (Remove i)) else
    (if bytes_eq name (codes "constrain") then (pair_of args >>= λ p. Some (Constrain p.0 p.1)) else
    (if bytes_eq name (codes "release") then (pair_of args >>= λ p. Some (Release p.0 p.1)) else
    (if bytes_eq name (codes "locate") then (coordinates_of args >>= λ p. Some (Locate p)) else
    (if bytes_eq name (codes "nearest") then (coordinates_of args >>= λ p. Some (Nearest p)) else
    (if bytes_eq name (codes "line") then (coordinates_of args >>= λ p. coordinates_of
    (drop 2 args) >>= λ q. Some (Line p q)) else
    (if bytes_eq name (codes "counts") then Some Counts else
    (if bytes_eq name (codes "faces") then Some Faces else None))))))))

-- the command, if no word is left
abbrev pub ended : List (List ℕ) → Command → Option Command
ended [] command = Some command
ended (word ∷ words) command = None

-- the command that the words spell: its name, its values, and no word more
unfoldable pub command_of : List (List ℕ) → Option Command
command_of [] = None
command_of (name ∷ args) = do
  command ← command_named name args
  ended (drop (arity command) args) command
