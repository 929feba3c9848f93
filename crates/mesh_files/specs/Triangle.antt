-- What is read of the files of the program Triangle.
use Rattle.std.specs.Prelude.{◌≡◌, ◌++◌, ℕ, List, [], ◌∷◌, Bool, true, false, Option, None}
use Rattle.std.specs.Prelude.{Some}
use Rattle.mesh_files.specs.{Drawn.Draws, Drawn.DrawsHoles, Drawn.IsSpotAt, Written.IsAsWritten}
use Rattle.mesh_files.specs.{declared.drawing.Number.Number, Rows.rows_of, Rows.words_of}
use Rattle.mesh_files.specs.{declared.drawing.Drawing.Drawing, declared.words.WordLines.WordLines}
use Rattle.mesh_files.specs.declared.drawing.Spot.{Spot}

-- these words of the line were read
pub record TakesWords (words : List (List ℕ)) (old new : WordLines) : Type 0 where
  pub taken : words_of old.words.now ≡ words ++ words_of new.words.now
  pub rest : new.rest.now ≡ old.rest.now

-- some word was read
abbrev pub TakesWord : WordLines → WordLines → Type 0
TakesWord old new = (word : List ℕ) × TakesWords (word ∷ []) old new

-- the word that was read is this number
abbrev pub TakesNumber : Number → WordLines → WordLines → Type 0
TakesNumber n old new = (word : List ℕ) × TakesWords (word ∷ []) old new
    × IsAsWritten word n.decimal

-- the word that was read is the height, where points have heights
abbrev pub TakesHeight : Bool → Option Number → WordLines → WordLines → Type 0
TakesHeight true (Some n) old new = TakesNumber n old new
TakesHeight true None old new = ⊥
TakesHeight false height old new = height ≡ None

-- the two words that were read are the coordinates of a point
abbrev pub TakesSpot : Spot → WordLines → WordLines → Type 0
TakesSpot spot old new = (x y : List ℕ) × TakesWords (x ∷ y ∷ []) old new
    × IsAsWritten x spot.x.decimal × IsAsWritten y spot.y.decimal

-- the next row begins with these words, and is read up to behind them
pub record BeginsRow (words : List (List ℕ)) (old new : WordLines) : Type 0 where
  pub row : List (List ℕ)
  pub taken : rows_of old.rest.now ≡ row ∷ rows_of new.rest.now
  pub row_is : row ≡ words ++ words_of new.words.now

-- the place of the height in a row, where points have heights
abbrev pub height_place : Bool → Option ℕ
height_place true = Some 3
height_place false = None

-- rows are points: after the first word x, y and, where points have one, the height
abbrev pub DrawsPoints : List (List (List ℕ)) → Bool → Drawing → Type 0
DrawsPoints rows has_heights d = Draws rows 1 2 (height_place has_heights) d

-- the rest of a row whose first word is read is a point
abbrev pub DrawsRow : Bool → WordLines → Drawing → Drawing → Type 0
DrawsRow has_height source old new = (rows : List (List (List ℕ))) (number : List ℕ)
    → DrawsPoints rows has_height old
    → DrawsPoints (rows ++ (number ∷ words_of source.words.now) ∷ []) has_height new

-- these rows were read
abbrev pub TakesRows : List (List (List ℕ)) → WordLines → WordLines → Type 0
TakesRows rows old new = rows_of old.rest.now ≡ rows ++ rows_of new.rest.now

-- a row was read, and then rows that are points
pub record TakesPoints (old new : WordLines) (d : Drawing) : Type 0 where
  pub head : List (List ℕ)
  pub points : List (List (List ℕ))
  pub has_heights : Bool
  pub taken : TakesRows (head ∷ points) old new
  pub drawn : DrawsPoints points has_heights d

-- a row was read, and is a point in a hole that is added
pub record AddsHole (source source' : WordLines) (old new : Drawing) : Type 0 where
  pub row : List (List ℕ)
  pub spot : Spot
  pub taken : TakesRows (row ∷ []) source source'
  pub row_is : IsSpotAt 1 2 row spot
  pub holes_are : new.holes.items ≡ old.holes.items ++ spot ∷ []
  pub spots_are : new.spots.items ≡ old.spots.items
  pub heights_are : new.heights.items ≡ old.heights.items

-- some of the rows that are left are the points in holes
pub record HasHoles (source : WordLines) (d : Drawing) : Type 0 where
  pub before : List (List (List ℕ))
  pub holes : List (List (List ℕ))
  pub rest : List (List (List ℕ))
  pub rows_are : rows_of source.rest.now ≡ before ++ (holes ++ rest)
  pub drawn : DrawsHoles holes d

-- rows of a text are points
pub record IsNode (text : List ℕ) (d : Drawing) : Type 0 where
  pub head : List (List ℕ)
  pub points : List (List (List ℕ))
  pub rest : List (List (List ℕ))
  pub has_heights : Bool
  pub rows_are : rows_of text ≡ head ∷ (points ++ rest)
  pub drawn : DrawsPoints points has_heights d

-- and further ones are points in holes: after the first word x and y
pub record IsPoly (text : List ℕ) (d : Drawing) : Type 0 where
  pub head : List (List ℕ)
  pub points : List (List (List ℕ))
  pub others : List (List (List ℕ))
  pub holes : List (List (List ℕ))
  pub rest : List (List (List ℕ))
  pub has_heights : Bool
  pub rows_are : rows_of text ≡ head ∷ (points ++ (others ++ (holes ++ rest)))
  pub drawn : DrawsPoints points has_heights d
  pub holes_drawn : DrawsHoles holes d
