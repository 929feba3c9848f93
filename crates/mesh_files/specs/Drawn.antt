-- Which words of a text are the numbers of points.
use Rattle.std.specs.Prelude.{◌≡◌, ◌++◌, ℕ, List, [], ◌∷◌, length, replicate, slice_index_or}
use Rattle.std.specs.Prelude.{Option, None, Some}
use Rattle.std.specs.Char.{is_ascii_whitespace}
use Rattle.std.specs.{List.AllPass, List.AllZip, Str.IsTrimAscii}
use Rattle.decimal_numbers.specs.{Decimal}
use Rattle.mesh_files.specs.{declared.drawing.Spot.Spot, Written.IsAsWritten}
use Rattle.mesh_files.specs.{declared.drawing.Drawing.Drawing, declared.drawing.Number.Number}

-- the text is this number, with blanks before and behind it or none
pub record Writes (text : List ℕ) (d : Decimal) : Type 0 where
  pub before : List ℕ
  pub word : List ℕ
  pub behind : List ℕ
  pub text_is : text ≡ before ++ (word ++ behind)
  pub blank_before : AllPass is_ascii_whitespace before
  pub blank_behind : AllPass is_ascii_whitespace behind
  pub written : IsAsWritten word d

-- what stands in this column of a row is this number
abbrev pub IsNumberAt : ℕ → List (List ℕ) → Number → Type 0
IsNumberAt column row n = Writes (slice_index_or row column []) n.decimal

-- what stands in these columns are the coordinates of a point
abbrev pub IsSpotAt : ℕ → ℕ → List (List ℕ) → Spot → Type 0
IsSpotAt x y row spot = IsNumberAt x row spot.x × IsNumberAt y row spot.y

-- what stands in the column of heights is this height, and nothing but blanks where there is none.
-- With no such column there is none
abbrev pub IsHeightAt : Option ℕ → List (List ℕ) → Option Number → Type 0
IsHeightAt None row height = height ≡ None
IsHeightAt (Some z) row None = IsTrimAscii (slice_index_or row z []) []
IsHeightAt (Some z) row (Some n) = IsNumberAt z row n

-- the heights of so many points in a list that is empty where none has one
abbrev pub filled : ℕ → List (Option Number) → List (Option Number)
filled count [] = replicate count None
filled count (h ∷ hs) = h ∷ hs

-- the height of each point, if it has one
abbrev pub heights_of : Drawing → List (Option Number)
heights_of d = filled (length d.spots.items) d.heights.items

-- each row is a point, in order, with its height if it has one
pub record Draws (rows : List (List (List ℕ))) (x y : ℕ) (z : Option ℕ) (d : Drawing) :
    Type 0 where
  pub spots_are : AllZip (IsSpotAt x y) rows d.spots.items
  pub heights_are : AllZip (IsHeightAt z) rows (heights_of d)

-- each row is a point in a hole, in order
abbrev pub DrawsHoles : List (List (List ℕ)) → Drawing → Type 0
DrawsHoles rows d = AllZip (IsSpotAt 1 2) rows d.holes.items

-- there is no point yet
pub record HasNoNumbers (d : Drawing) : Type 0 where
  pub spots_are : d.spots.items ≡ []
  pub heights_are : d.heights.items ≡ []
  pub holes_are : d.holes.items ≡ []

-- points and points in holes stay, with their numbers
pub record SameNumbers (old new : Drawing) : Type 0 where
  pub spots_are : new.spots.items ≡ old.spots.items
  pub heights_are : new.heights.items ≡ old.heights.items
  pub holes_are : new.holes.items ≡ old.holes.items

-- points stay, with their numbers
pub record SamePoints (old new : Drawing) : Type 0 where
  pub spots_are : new.spots.items ≡ old.spots.items
  pub heights_are : new.heights.items ≡ old.heights.items

-- points stay, and each has a place for its height
pub record FillsHeights (old new : Drawing) : Type 0 where
  pub spots_are : new.spots.items ≡ old.spots.items
  pub heights_are : new.heights.items ≡ heights_of old
  pub holes_are : new.holes.items ≡ old.holes.items

-- a point is added, with its height if it has one
pub record AddsSpot (spot : Spot) (height : Option Number) (old new : Drawing) : Type 0 where
  pub spots_are : new.spots.items ≡ old.spots.items ++ spot ∷ []
  pub heights_are : heights_of new ≡ heights_of old ++ height ∷ []
  pub holes_are : new.holes.items ≡ old.holes.items
