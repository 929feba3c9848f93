-- What is read of GeoJSON, token by token.
use Rattle.std.specs.Prelude.{◌≡◌, ◌⊎◌, ◌++◌, ◌∷◌, ℕ, List, ⊤}
use Rattle.std.specs.Str.{IsTrimAsciiEnd}
use Rattle.json.specs.Lex.{tokens}
use Rattle.json.specs.Token.{Token}
use Rattle.mesh_files.specs.Runs.{DrawsRuns, HasPositions, IsFirstNumber, IsOpenPosition, IsRun}
use Rattle.mesh_files.specs.Runs.{numbers_first}
use Rattle.mesh_files.specs.{declared.drawing.Drawing.Drawing, declared.geojson.GeoState.GeoState}
use Rattle.mesh_files.specs.{declared.geojson.Step.Step, declared.geojson.Wanted.Wanted}
use Rattle.mesh_files.specs.declared.geojson.Step.TheVariants as step
use Rattle.mesh_files.specs.declared.geojson.Wanted.TheVariants as wanted

-- the numbers of a position that is begun are a run, which goes on in these tokens
abbrev pub IsWanted : List Token → List Token → Wanted → Type 0
IsWanted tokens rest (wanted.SecondNumber x file_line) = IsFirstNumber tokens rest x
IsWanted tokens rest (wanted.MoreNumbers p) = IsOpenPosition tokens rest p
IsWanted tokens rest wanted.Whole = ⊤
IsWanted tokens rest wanted.Inner = ⊤
IsWanted tokens rest wanted.Type = ⊤
IsWanted tokens rest wanted.Properties = ⊤
IsWanted tokens rest wanted.Property = ⊤
IsWanted tokens rest wanted.Geometry = ⊤
IsWanted tokens rest wanted.List = ⊤
IsWanted tokens rest wanted.Coordinates = ⊤
IsWanted tokens rest wanted.PropertyValue = ⊤
IsWanted tokens rest wanted.MemberValue = ⊤

-- no position is begun
abbrev pub IsBetween : Wanted → Type 0
IsBetween w = (tokens rest : List Token) → IsWanted tokens rest w

abbrev pub IsStepBetween : Step → Type 0
IsStepBetween (step.Next w) = IsBetween w
IsStepBetween (step.Kind kind) = ⊤
IsStepBetween step.Property = ⊤
IsStepBetween step.List = ⊤
IsStepBetween step.Object = ⊤

-- what was read, up to these tokens, is positions
pub record HasReadRuns (tokens rest : List Token) (state : GeoState) (d : Drawing) : Type 0 where
  pub wanted_is : IsWanted tokens rest state.wanted
  pub shape_is : HasPositions tokens state.shape
  pub drawn : DrawsRuns tokens d

-- no number is read, and no position is begun afterwards
pub record GoesOn (old new : GeoState) : Type 0 where
  pub between : IsBetween new.wanted
  pub shape : (tokens : List Token) → HasPositions tokens old.shape
      → HasPositions tokens new.shape

-- the same, where positions may be drawn
abbrev pub DrawsOn : GeoState → GeoState → Drawing → Drawing → Type 0
DrawsOn old new d d' = (tokens rest : List Token) → HasPositions tokens old.shape
    → DrawsRuns tokens d → HasReadRuns tokens rest new d'

-- a token is read
abbrev pub ReadsToken : Token → GeoState → GeoState → Drawing → Drawing → Type 0
ReadsToken token old new d d' = (tokens rest : List Token)
    → IsRun tokens (numbers_first (token ∷ rest)) → HasReadRuns tokens (token ∷ rest) old d
    → HasReadRuns tokens rest new d'

-- the tokens behind some others are left, and what was read is positions
abbrev pub HasReadTokens : List Token → List Token → GeoState → Drawing → Type 0
HasReadTokens all rest state d = (before : List Token) × (all ≡ before ++ rest)
    × HasReadRuns all rest state d

-- a text without the mark that it may begin with: the bytes 239, 187 and 191
abbrev pub IsWithoutMark : List ℕ → List ℕ → Type 0
IsWithoutMark text rest = (text ≡ 239 ∷ 187 ∷ 191 ∷ rest) ⊎ (text ≡ rest)

-- each point is a run of numbers in a text without its mark and the blanks at its end
pub record IsGeoJson (text : List ℕ) (d : Drawing) : Type 0 where
  pub unmarked : List ℕ
  pub json : List ℕ
  pub unmarked_is : IsWithoutMark text unmarked
  pub json_is : IsTrimAsciiEnd unmarked json
  pub drawn : DrawsRuns (tokens json) d
