-- What is read of GeoJSON.
use Rattle.std.specs.Prelude.{◌≡◌, ◌++◌, ℕ, List, [], ◌∷◌, All, IfSome, MatchOption, Some}
use Rattle.std.specs.List.{AllByRecursion}
use Rattle.json.specs.Token.{Token, begin_object, end_object, begin_array, end_array, key}
use Rattle.json.specs.Token.{string, number, boolean, null, bad}
use Rattle.mesh_files.specs.{Drawn.Draws, Drawn.IsHeightAt, Drawn.IsSpotAt, Written.IsAsWritten}
use Rattle.mesh_files.specs.{declared.drawing.Drawing.Drawing, declared.drawing.Number.Number}
use Rattle.mesh_files.specs.declared.drawing.Spot.{Spot}
use Rattle.mesh_files.specs.{declared.shapes.GeoPosition.GeoPosition, declared.shapes.Shape.Shape}

-- the numbers that tokens begin with, as they are written
abbrev pub numbers_first : List Token → List (List ℕ)
numbers_first [] = []
numbers_first (number s ∷ ts) = s ∷ numbers_first ts
numbers_first (begin_object ∷ ts) = []
numbers_first (end_object ∷ ts) = []
numbers_first (begin_array ∷ ts) = []
numbers_first (end_array ∷ ts) = []
numbers_first (key s ∷ ts) = []
numbers_first (string s ∷ ts) = []
numbers_first (boolean b ∷ ts) = []
numbers_first (null ∷ ts) = []
numbers_first (bad ∷ ts) = []

-- the row is numbers next to one another among the tokens, as they are written
pub record IsRun (tokens : List Token) (row : List (List ℕ)) : Type 0 where
  pub before : List Token
  pub rest : List Token
  pub tokens_are : tokens ≡ before ++ rest
  pub row_is : row ≡ numbers_first rest

-- each point is a run of numbers: x, y and, if it has one, its height
pub record DrawsRuns (tokens : List Token) (d : Drawing) : Type 0 where
  pub rows : List (List (List ℕ))
  pub runs : AllByRecursion (IsRun tokens) rows
  pub drawn : Draws rows 0 1 (Some 2) d

-- a position is a run of numbers
pub record IsPosition (tokens : List Token) (p : GeoPosition) : Type 0 where
  pub row : List (List ℕ)
  pub run : IsRun tokens row
  pub spot_is : IsSpotAt 0 1 row p.spot
  pub height_is : IsHeightAt (Some 2) row p.height

-- the numbers that a shape has are positions
pub record HasPositions (tokens : List Token) (shape : Shape) : Type 0 where
  pub open_is : IfSome shape.open (λ line. IsPosition tokens line.first
      × IfSome line.last (IsPosition tokens))
  pub lines_are : All (λ line. IfSome line.closing (IsPosition tokens)) shape.lines.items

-- a position may be added to a drawing
abbrev pub AddsRun : GeoPosition → Drawing → Drawing → Type 0
AddsRun p old new = (tokens : List Token) → IsPosition tokens p → DrawsRuns tokens old
    → DrawsRuns tokens new

-- what has positions, and draws runs, goes on to do so
abbrev pub KeepsRuns : Shape → Shape → Drawing → Drawing → Type 0
KeepsRuns shape shape' old new = (tokens : List Token) → HasPositions tokens shape
    → DrawsRuns tokens old → HasPositions tokens shape' × DrawsRuns tokens new

-- the first number of a position, behind which these tokens come
abbrev pub IsFirstNumber : List Token → List Token → Number → Type 0
IsFirstNumber tokens rest x = (s : List ℕ) × IsRun tokens (s ∷ numbers_first rest)
    × IsAsWritten s x.decimal

-- a position whose end is not read yet
pub record IsBegunPosition (tokens rest : List Token) (spot : Spot) : Type 0 where
  pub first : List ℕ
  pub second : List ℕ
  pub run : IsRun tokens (first ∷ second ∷ numbers_first rest)
  pub x_is : IsAsWritten first spot.x.decimal
  pub y_is : IsAsWritten second spot.y.decimal

-- a position with no height goes on in these tokens, and one with a height is read
abbrev pub IsOpenPosition : List Token → List Token → GeoPosition → Type 0
IsOpenPosition tokens rest p =
    MatchOption p.height (IsBegunPosition tokens rest p.spot) (λ height. IsPosition tokens p)
