-- What a run reads and writes.
use Rattle.std.specs.Prelude.{◌≡◌, ◌≢◌, ◌⊎◌, [], ◌∷◌, ◌++◌}
use Rattle.std.specs.Prelude.{ℕ, true, false, List, codes, Option, Result, Ok, Err, All}
use Rattle.std.specs.List.{flat_map}
use Rattle.std.specs.Io.KnownBytes.{Consumes, Appends, IsAtEnd}
use Rattle.triangulate_run.specs.{Answer.MayAnswer, declared.points.SheetPoint.SheetPoint}
use Rattle.triangulate_run.specs.Grammar.{Spells, SpellsAtMostOne, SpellsNone}
use Rattle.triangulate_run.specs.{Output.AppendsPart, Stage.first_stage, Stage.Fits, Stage.Stage}
use Rattle.triangulate_run.specs.Watched.{has_failed, inner_of}
use Rattle.triangulate_run.specs.declared.command.Command.{Command}
use Rattle.triangulate_run.specs.declared.fault.RunError.{RunError}
use Rattle.triangulate_run.specs.declared.fault.RunError.TheVariants.{Read, Write}
use Rattle.triangulate_run.specs.declared.watched.Watched.{Watched}

-- what a line that spells no command is answered
abbrev pub bad_line : List ℕ
bad_line = codes "bad line\n"

-- the line has no newline, which is byte 10
abbrev pub IsOneLine : List ℕ → Type 0
IsOneLine line = All (λ b. b ≢ 10) line

-- the input is these lines, each with a newline behind it, and then this rest without one
pub record Cut (input : List ℕ) (lines : List (List ℕ)) (rest : List ℕ) : Type 0 where
  pub whole : input ≡ flat_map (λ line. line ++ 10 ∷ []) lines ++ rest
  pub each : All IsOneLine lines
  pub last : IsOneLine rest

-- there is at most one way to cut an input into lines and a rest
abbrev pub IsCutInOneWay : Type 0
IsCutInOneWay = (input : List ℕ) (lines others : List (List ℕ)) (rest end : List ℕ)
    → Cut input lines rest → Cut input others end → (lines ≡ others) × (rest ≡ end)

-- the laws of what a run reads
pub record HasOneReading : Type 0 where
  pub one_cut : IsCutInOneWay
  pub one_command : SpellsAtMostOne

-- what is written at the end of the input, with what stands behind the last newline
abbrev pub end_text : List ℕ → List ℕ
end_text [] = []
end_text (byte ∷ rest) = bad_line

module _ (points : List SheetPoint) where
  -- the line, which spells a command or none, may be answered so
  abbrev pub Answers : Stage → List ℕ → List ℕ → Stage → Type 0
  Answers old line text new =
      ((command : Command) × Spells line command × MayAnswer points old command text new)
      ⊎ (SpellsNone line × (text ≡ bad_line) × (new ≡ old))

  -- the lines may be answered so, one after another
  abbrev pub AnswersAll : Stage → List (List ℕ) → List ℕ → Stage → Type 0
  AnswersAll old [] text new = (text ≡ []) × (new ≡ old)
  AnswersAll old (line ∷ lines) text new = (first : List ℕ) × (others : List ℕ) × (mid : Stage)
      × (text ≡ first ++ others) × Answers old line first mid × Fits mid
      × AnswersAll mid lines others new

  -- the text is allowed for the complete lines of the input
  pub record IsAllowedSoFar (input text : List ℕ) : Type 0 where
    pub lines : List (List ℕ)
    pub rest : List ℕ
    pub stage : Stage
    pub cut : Cut input lines rest
    pub answered : AnswersAll first_stage lines text stage

  -- the text is allowed for the whole input
  pub record IsAllowed (input text : List ℕ) : Type 0 where
    pub lines : List (List ℕ)
    pub rest : List ℕ
    pub before : List ℕ
    pub stage : Stage
    pub cut : Cut input lines rest
    pub answered : AnswersAll first_stage lines before stage
    pub whole : text ≡ before ++ end_text rest

-- the whole input was read, and answered
pub record RanToEnd {R W : Type 0} (points : List SheetPoint) (remaining : R → Option (List ℕ))
    (contents : W → Option (List ℕ)) (r0 r1 : Watched R) (w0 w1 : Watched W) : Type 0 where
  pub input : List ℕ
  pub text : List ℕ
  pub read : Consumes (remaining (inner_of r0)) (remaining (inner_of r1)) input
  pub at_end : IsAtEnd (remaining (inner_of r1))
  pub written : Appends (contents (inner_of w0)) (contents (inner_of w1)) text
  pub allowed : IsAllowed points input text
  pub reader_works : has_failed r1 ≡ false
  pub writer_works : has_failed w1 ≡ false

-- the reader failed, and each complete line was answered
pub record RanToFault {R W : Type 0} (points : List SheetPoint) (remaining : R → Option (List ℕ))
    (contents : W → Option (List ℕ)) (r0 r1 : Watched R) (w0 w1 : Watched W) : Type 0 where
  pub input : List ℕ
  pub text : List ℕ
  pub read : Consumes (remaining (inner_of r0)) (remaining (inner_of r1)) input
  pub written : Appends (contents (inner_of w0)) (contents (inner_of w1)) text
  pub allowed : IsAllowedSoFar points input text
  pub reader_failed : has_failed r1 ≡ true
  pub writer_works : has_failed w1 ≡ false

-- the writer failed within the answers to what was read
pub record RanInPart {R W : Type 0} (points : List SheetPoint) (remaining : R → Option (List ℕ))
    (contents : W → Option (List ℕ)) (r0 r1 : Watched R) (w0 w1 : Watched W) : Type 0 where
  pub input : List ℕ
  pub text : List ℕ
  pub read : Consumes (remaining (inner_of r0)) (remaining (inner_of r1)) input
  pub written : AppendsPart (contents (inner_of w0)) (contents (inner_of w1)) text
  pub allowed : IsAllowed points input text
  pub reader_works : has_failed r1 ≡ false
  pub writer_failed : has_failed w1 ≡ true

-- what a run that ended so has read and written
abbrev pub Ran : {R W T : Type 0} → List SheetPoint → (R → Option (List ℕ)) → (W → Option (List ℕ))
    → Watched R → Watched R → Watched W → Watched W → Result T RunError → Type 0
Ran points remaining contents r0 r1 w0 w1 (Ok x) = RanToEnd points remaining contents r0 r1 w0 w1
Ran points remaining contents r0 r1 w0 w1 (Err Read) =
    RanToFault points remaining contents r0 r1 w0 w1
Ran points remaining contents r0 r1 w0 w1 (Err Write) =
    RanInPart points remaining contents r0 r1 w0 w1
