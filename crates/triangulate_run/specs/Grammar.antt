-- How numbers and commands are spelled.
use Rattle.std.specs.Prelude.{◌≡◌, ◌<◌, ◌≤◌, ◌⊎◌, ◌==◌, [], ◌∷◌}
use Rattle.std.specs.Prelude.{ℕ, ℤ, pos, neg_ℤ, List, length, codes}
use Rattle.std.specs.List.{AllZip, slice_split}
use Rattle.std.specs.Str.Parse.{AllDigits, digits_value}
use Rattle.triangulate_run.specs.declared.command.Command.{Command}
use Rattle.triangulate_run.specs.declared.command.Command.TheVariants.{Constrain, Counts, Faces}
use Rattle.triangulate_run.specs.declared.command.Command.TheVariants.{Insert, Line, Locate}
use Rattle.triangulate_run.specs.declared.command.Command.TheVariants.{Nearest, Release, Remove}

-- the word is 1 to 18 digits, which write n
pub record IsDigits (word : List ℕ) (n : ℕ) : Type 0 where
  pub some : 0 < length word
  pub few : length word ≤ 18
  pub digits : AllDigits 10 word
  pub value : n ≡ digits_value 10 word

-- the word is an index, or byte 45, the minus, and an index
abbrev pub IsNumber : List ℕ → ℤ → Type 0
IsNumber word z = ((n : ℕ) × IsDigits word n × (z ≡ pos n))
    ⊎ ((digits : List ℕ) × (n : ℕ) × (word ≡ 45 ∷ digits) × IsDigits digits n × (z ≡ neg_ℤ (pos n)))

-- the parts of a line that single spaces, byte 32, stand between
abbrev pub words_of : List ℕ → List (List ℕ)
words_of line = slice_split (λ b. b == 32) line

-- the name, and then a word for each of the values
abbrev pub Has : {X : Type 0} → (List ℕ → X → Type 0) → List ℕ → List X → List (List ℕ) → Type 0
Has Spells name values words =
    (args : List (List ℕ)) × (words ≡ name ∷ args) × AllZip Spells args values

-- the words spell the command
abbrev pub AreWordsOf : Command → List (List ℕ) → Type 0
AreWordsOf (Insert p) words = Has IsNumber (codes "insert") (p.x ∷ p.y ∷ []) words
AreWordsOf (Remove i) words = Has IsDigits (codes "remove") (i ∷ []) words
AreWordsOf (Constrain i j) words = Has IsDigits (codes "constrain") (i ∷ j ∷ []) words
AreWordsOf (Release i j) words = Has IsDigits (codes "release") (i ∷ j ∷ []) words
AreWordsOf (Locate p) words = Has IsNumber (codes "locate") (p.x ∷ p.y ∷ []) words
AreWordsOf (Nearest p) words = Has IsNumber (codes "nearest") (p.x ∷ p.y ∷ []) words
AreWordsOf (Line p q) words = Has IsNumber (codes "line") (p.x ∷ p.y ∷ q.x ∷ q.y ∷ []) words
AreWordsOf Counts words = words ≡ codes "counts" ∷ []
AreWordsOf Faces words = words ≡ codes "faces" ∷ []

-- a line of at most 120 bytes, which spells the command
abbrev pub Spells : List ℕ → Command → Type 0
Spells line command = (length line ≤ 120) × AreWordsOf command (words_of line)

-- the line spells no command
abbrev pub SpellsNone : List ℕ → Type 0
SpellsNone line = (command : Command) → ¬ Spells line command

-- no line spells two different commands
abbrev pub SpellsAtMostOne : Type 0
SpellsAtMostOne = (line : List ℕ) (one other : Command) → Spells line one
    → Spells line other → one ≡ other
