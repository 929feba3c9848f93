-- How the rows of a text become points.
use Rattle.std.proofs.Common.{◌≡◌, ◌∙◌, ℕ, List, [], ◌∷◌, ◌++◌, refl, sym, ap, append_assoc}
use Rattle.std.specs.Prelude.{Bool, true, false, Option, None, Some}
use Rattle.mesh_files.specs.{AddsSpot, Drawing, Drawn.IsHeightAt, Number, rows_of, SameNumbers}
use Rattle.mesh_files.specs.{declared.words.WordLines.WordLines, Spot, TakesRows, words_of}
use Rattle.mesh_files.specs.Drawn.{DrawsHoles, IsSpotAt, SamePoints}
use Rattle.mesh_files.specs.Triangle.{AddsHole, BeginsRow, DrawsPoints, DrawsRow, HasHoles}
use Rattle.mesh_files.specs.Triangle.{height_place, IsPoly, TakesHeight}
use Rattle.mesh_files.specs.Triangle.{TakesPoints, TakesSpot, TakesWord}
use Rattle.mesh_files.proofs.PointRows.{draws_more, draws_same, word_writes, zip_more}

Row : Type 0
Row = List (List ℕ)

-- a point behind the first word of a row
spot_at : (number x y : List ℕ) (ws row : List (List ℕ)) (s0 s1 : WordLines) (spot : Spot)
    → row ≡ number ∷ words_of s0.words.now → TakesSpot spot s0 s1 → IsSpotAt 1 2 row spot
spot_at number x y ws row s0 s1 spot e t =
    let line : row ≡ number ∷ t.0 ∷ t.1 ∷ words_of s1.words.now =
    e ∙ ap (λ (r : List (List ℕ)). number ∷ r) t.2.taken in
    rw line (word_writes t.0 spot.x.decimal t.3, word_writes t.1 spot.y.decimal t.4)

-- and the height behind it
height_at : (number : List ℕ) (row : List (List ℕ)) (s0 s1 s2 : WordLines) (spot : Spot)
    (has_height : Bool) (height : Option Number) → row ≡ number ∷ words_of s0.words.now
    → TakesSpot spot s0 s1 → TakesHeight has_height height s1 s2
    → IsHeightAt (height_place has_height) row height
height_at number row s0 s1 s2 spot false height e t h = h
height_at number row s0 s1 s2 spot true None e t h = absurd h
height_at number row s0 s1 s2 spot true (Some n) e t h =
    let line : row ≡ number ∷ t.0 ∷ t.1 ∷ h.0 ∷ words_of s2.words.now =
    e ∙ ap (λ (r : List (List ℕ)). number ∷ r) t.2.taken
    ∙ ap (λ (r : List (List ℕ)). number ∷ t.0 ∷ t.1 ∷ r) h.1.taken in
    rw line (word_writes h.0 n.decimal h.2)

-- a row whose first word was read becomes a point
pub row_drawn : (s0 s1 s2 : WordLines) (spot : Spot) (has_height : Bool) (height : Option Number)
    (d0 d1 d2 d3 : Drawing) → TakesSpot spot s0 s1 → SameNumbers d0 d1
    → TakesHeight has_height height s1 s2 → SameNumbers d1 d2
    → AddsSpot spot height d2 d3 → DrawsRow has_height s0 d0 d3
row_drawn s0 s1 s2 spot has height d0 d1 d2 d3 t same1 h same2 adds = λ rows number drawn.
    let row : List (List ℕ) = number ∷ words_of s0.words.now in
    draws_more rows row 1 2 (height_place has) spot height d2 d3
    (draws_same rows 1 2 (height_place has) d0 d2 drawn (same2.spots_are ∙ same1.spots_are)
    (same2.heights_are ∙ same1.heights_are)) adds
    (spot_at number t.0 t.1 [] row s0 s1 spot refl t)
    (height_at number row s0 s1 s2 spot has height refl t h)

-- rows, and one more
pub rows_more : (rows : List (List (List ℕ))) (row : List (List ℕ)) (s0 s1 s2 : WordLines)
    → TakesRows rows s0 s1 → rows_of s1.rest.now ≡ row ∷ rows_of s2.rest.now
    → TakesRows (rows ++ row ∷ []) s0 s2
rows_more rows row s0 s1 s2 before e = before ∙ ap (λ (r : List (List (List ℕ))). rows ++ r) e
    ∙ sym (append_assoc rows (row ∷ []) (rows_of s2.rest.now))

-- one more row, which was begun and then read, is one more point
pub points_more : (points : List (List (List ℕ))) (s0 s1 s2 s3 : WordLines) (has_height : Bool)
    (d1 d3 : Drawing) → TakesRows points s0 s1 → DrawsPoints points has_height d1
    → ((number : List ℕ) × BeginsRow (number ∷ []) s1 s2) → s3.rest.now ≡ s2.rest.now
    → DrawsRow has_height s2 d1 d3
    → (more : List (List (List ℕ))) × TakesRows more s0 s3 × DrawsPoints more has_height d3
points_more points s0 s1 s2 s3 has d1 d3 before drawn begun rest row_is =
    let row : List (List ℕ) = begun.0 ∷ words_of s2.words.now in
    let e : rows_of s1.rest.now ≡ row ∷ rows_of s3.rest.now =
    begun.1.taken ∙ ap (λ (r : List (List ℕ)). r ∷ rows_of s2.rest.now) begun.1.row_is
    ∙ ap (λ (r : List ℕ). row ∷ rows_of r) (sym rest) in
    (points ++ row ∷ [], rows_more points row s0 s1 s3 before e, row_is points begun.0 drawn)

-- a row that is a point in a hole
pub hole_row : (s0 s1 s2 s3 : WordLines) (spot : Spot) → BeginsRow [] s0 s1 → TakesWord s1 s2
    → TakesSpot spot s2 s3
    → (row : List (List ℕ)) × TakesRows (row ∷ []) s0 s3 × IsSpotAt 1 2 row spot
hole_row s0 s1 s2 s3 spot begun word t =
    let e : rows_of s0.rest.now ≡ begun.row ∷ rows_of s3.rest.now =
    begun.taken ∙ ap (λ (r : List ℕ). begun.row ∷ rows_of r)
    (sym (t.2.rest ∙ word.1.rest)) in (
      begun.row,
      e,
      spot_at word.0 t.0 t.1 [] begun.row s2 s3 spot
          (begun.row_is ∙ word.1.taken) t,
    )

-- rows of points in holes, and one more
pub holes_more : (rows : List (List (List ℕ))) (s0 s1 s2 : WordLines) (d0 d1 d2 : Drawing)
    → TakesRows rows s0 s1 → DrawsHoles rows d1 → SamePoints d0 d1 → AddsHole s1 s2 d1 d2
    → (more : List (List (List ℕ))) × TakesRows more s0 s2 × DrawsHoles more d2
    × SamePoints d0 d2
holes_more rows s0 s1 s2 d0 d1 d2 before drawn same adds = (
  rows ++ adds.row ∷ [],
  rows_more rows adds.row s0 s1 s2 before adds.taken,
  rw adds.holes_are
      (zip_more (IsSpotAt 1 2) rows d1.holes.items adds.row adds.spot drawn adds.row_is),
  record {
    spots_are = adds.spots_are ∙ same.spots_are;
    heights_are = adds.heights_are ∙ same.heights_are;
  },
)

-- the parts of a file, one behind the other
pub parts_drawn : (text : List ℕ) (s0 s1 s2 : WordLines) (d1 d2 d3 d4 : Drawing)
    → s0.rest.now ≡ text → TakesPoints s0 s1 d1
    → ((rows : List (List (List ℕ))) × TakesRows rows s1 s2) → SameNumbers d1 d2
    → HasHoles s2 d3 → SamePoints d2 d3 → SameNumbers d3 d4 → IsPoly text d4
parts_drawn text s0 s1 s2 d1 d2 d3 d4 e points between same12 holes same23 same34 = record {
  head = points.head;
  points = points.points;
  others = between.0 ++ holes.before;
  holes = holes.holes;
  rest = holes.rest;
  has_heights = points.has_heights;
  rows_are = ap rows_of (sym e) ∙ points.taken
      ∙ ap (λ (r : List (List (List ℕ))). points.head ∷ (points.points ++ r)) (between.1
      ∙ ap (λ (r : List (List (List ℕ))). between.0 ++ r) holes.rows_are
      ∙ sym (append_assoc between.0 holes.before (holes.holes ++ holes.rest)));
  drawn = draws_same points.points 1 2 (height_place points.has_heights) d1 d4 points.drawn
      (same34.spots_are ∙ same23.spots_are ∙ same12.spots_are)
      (same34.heights_are ∙ same23.heights_are ∙ same12.heights_are);
  holes_drawn = rw same34.holes_are holes.drawn;
}
