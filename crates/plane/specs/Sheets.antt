-- Tables of answers, read off printed sheets: of a grid of nine points, at unit size and at the
-- greatest coordinates, and of five points with two more.
use Rattle.std.specs.Prelude.{◌≡◌, [], ◌∷◌, ◌*ℤ◌, ◌||◌}
use Rattle.std.specs.Prelude.{ℕ, suc, List, ℤ, pos, negsuc, Bool, true, false, slice_index_or}
use lib.Dec.{eqb}
use Rattle.plane.specs.{Circle.InsideCircle, Circle.OnCircle, Sides.on, Sides.side, Sides.TurnsLeft}
use Rattle.plane.specs.Fractions.{Point, whole}

-- a point by its coordinates
abbrev pub point : ℤ → ℤ → Point
point x y = record { x = x; y = y }

-- ---- a table, and what it says
-- left-turning triples of sites with one circle, by index, and the sites inside it
abbrev pub Line : Type 0
Line = List (ℕ × ℕ × ℕ) × List ℕ

-- the point of index k in the list; (0, 0) past its end
abbrev pub site : List Point → ℕ → Point
site sites k = slice_index_or sites k (record { x = pos 0; y = pos 0 })

-- whether the list has k
abbrev pub member : ℕ → List ℕ → Bool
member k [] = false
member k (j ∷ js) = eqb k j || member k js

-- whether k is one of the indexes of a triple in the list
abbrev pub is_corner : ℕ → List (ℕ × ℕ × ℕ) → Bool
is_corner k [] = false
is_corner k (t ∷ ts) = (eqb k t.0 || (eqb k t.1 || eqb k t.2)) || is_corner k ts

-- what an answer says of a claim: that it holds, or that it fails
abbrev pub Answer : Bool → Type 0 → Type 0
Answer true X = X
Answer false X = ¬ X

-- each of the sites, k the first of them, is inside the circle exactly if it is listed, and carried
-- exactly if it is a corner of one of the triples
abbrev pub SitesHold : Line → Point → Point → Point → ℕ → List Point → Type 0
SitesHold l u v p k [] = Unit {0}
SitesHold l u v p k (q ∷ qs) =
    Answer (member k l.1) (InsideCircle (whole u) (whole v) (whole p) (whole q)) ×
    Answer (is_corner k l.0) (OnCircle (whole u) (whole v) (whole p) (whole q))
    × SitesHold l u v p (suc k) qs

-- each of the triples turns left, and its circle contains and carries the sites that the line says
abbrev pub TriplesHold : List Point → Line → List (ℕ × ℕ × ℕ) → Type 0
TriplesHold sites l [] = Unit {0}
TriplesHold sites l (t ∷ ts) =
    TurnsLeft (whole (site sites t.0)) (whole (site sites t.1)) (whole (site sites t.2)) ×
    SitesHold l (site sites t.0) (site sites t.1) (site sites t.2) 0 sites × TriplesHold sites l ts

-- each line of the table holds for all of its triples
abbrev pub TableHolds : List Point → List Line → Type 0
TableHolds sites [] = Unit {0}
TableHolds sites (l ∷ ls) = TriplesHold sites l l.0 × TableHolds sites ls

-- triples that turn left, and triples on one line
abbrev pub TurnLeft : List Point → List (ℕ × ℕ × ℕ) → Type 0
TurnLeft points [] = Unit {0}
TurnLeft points (t ∷ ts) =
    TurnsLeft (whole (site points t.0)) (whole (site points t.1)) (whole (site points t.2))
    × TurnLeft points ts

-- in each of the triples, the third point is on the line through the first two
abbrev pub AreOn : List Point → List (ℕ × ℕ × ℕ) → Type 0
AreOn points [] = Unit {0}
AreOn points (t ∷ ts) =
    (side (whole (site points t.0)) (whole (site points t.1)) (whole (site points t.2)) ≡ on)
    × AreOn points ts

-- ---- nine points of a grid of the given unit, row by row from below, named a to i
-- the nine points of the grid of this unit
abbrev pub grid : ℤ → List Point
grid n = let m = negsuc 0 *ℤ n in
    point m m ∷ point (pos 0) m ∷ point n m ∷ point m (pos 0) ∷ point (pos 0) (pos 0)
    ∷ point n (pos 0) ∷ point m n ∷
    point (pos 0) n ∷ point n n ∷ []

-- a line with four triples is a circle that carries four points. All 76 left-turning triples, each
-- in one rotation
unfoldable pub grid_table : List Line
grid_table =
    ((0, 1, 4) ∷ (0, 1, 3) ∷ (0, 4, 3) ∷ (1, 4, 3) ∷ [], [])
    ∷ ((1, 2, 5) ∷ (1, 2, 4) ∷ (1, 5, 4) ∷ (2, 5, 4) ∷ [], [])
    ∷ ((3, 4, 7) ∷ (3, 4, 6) ∷ (3, 7, 6) ∷ (4, 7, 6) ∷ [], [])
    ∷ ((4, 5, 8) ∷ (4, 5, 7) ∷ (4, 8, 7) ∷ (5, 8, 7) ∷ [], [])
    ∷ ((0, 1, 7) ∷ (0, 1, 6) ∷ (0, 7, 6) ∷ (1, 7, 6) ∷ [], 3 ∷ 4 ∷ [])
    ∷ ((1, 2, 8) ∷ (1, 2, 7) ∷ (1, 8, 7) ∷ (2, 8, 7) ∷ [], 4 ∷ 5 ∷ [])
    ∷ ((0, 2, 5) ∷ (0, 2, 3) ∷ (0, 5, 3) ∷ (2, 5, 3) ∷ [], 1 ∷ 4 ∷ [])
    ∷ ((3, 5, 8) ∷ (3, 5, 6) ∷ (3, 8, 6) ∷ (5, 8, 6) ∷ [], 4 ∷ 7 ∷ [])
    ∷ ((0, 2, 8) ∷ (0, 2, 6) ∷ (0, 8, 6) ∷ (2, 8, 6) ∷ [], 1 ∷ 3 ∷ 4 ∷ 5 ∷ 7 ∷ [])
    ∷ ((1, 5, 7) ∷ (1, 5, 3) ∷ (1, 7, 3) ∷ (5, 7, 3) ∷ [], 4 ∷ [])
    ∷ ((0, 2, 4) ∷ [], 1 ∷ [])
    ∷ ((2, 8, 4) ∷ [], 5 ∷ [])
    ∷ ((8, 6, 4) ∷ [], 7 ∷ [])
    ∷ ((6, 0, 4) ∷ [], 3 ∷ [])
    ∷ ((0, 2, 7) ∷ [], 1 ∷ 3 ∷ 4 ∷ 5 ∷ [])
    ∷ ((2, 8, 3) ∷ [], 1 ∷ 4 ∷ 5 ∷ 7 ∷ [])
    ∷ ((8, 6, 1) ∷ [], 3 ∷ 4 ∷ 5 ∷ 7 ∷ [])
    ∷ ((6, 0, 5) ∷ [], 1 ∷ 3 ∷ 4 ∷ 7 ∷ [])
    ∷ ((0, 1, 5) ∷ (0, 1, 8) ∷ (0, 5, 8) ∷ (1, 5, 8) ∷ [], 3 ∷ 4 ∷ 6 ∷ 7 ∷ [])
    ∷ ((2, 5, 7) ∷ (2, 5, 6) ∷ (2, 7, 6) ∷ (5, 7, 6) ∷ [], 0 ∷ 1 ∷ 3 ∷ 4 ∷ [])
    ∷ ((8, 7, 3) ∷ (8, 7, 0) ∷ (8, 3, 0) ∷ (7, 3, 0) ∷ [], 1 ∷ 2 ∷ 4 ∷ 5 ∷ [])
    ∷ ((6, 3, 1) ∷ (6, 3, 2) ∷ (6, 1, 2) ∷ (3, 1, 2) ∷ [], 4 ∷ 5 ∷ 7 ∷ 8 ∷ [])
    ∷ ((3, 4, 8) ∷ [], 6 ∷ 7 ∷ [])
    ∷ ((1, 4, 6) ∷ [], 0 ∷ 3 ∷ [])
    ∷ ((5, 4, 0) ∷ [], 1 ∷ 2 ∷ [])
    ∷ ((7, 4, 2) ∷ [], 5 ∷ 8 ∷ [])
    ∷ ((6, 4, 5) ∷ [], 7 ∷ 8 ∷ [])
    ∷ ((0, 4, 7) ∷ [], 3 ∷ 6 ∷ [])
    ∷ ((2, 4, 3) ∷ [], 0 ∷ 1 ∷ [])
    ∷ ((8, 4, 1) ∷ [], 2 ∷ 5 ∷ [])
    ∷ ((0, 5, 7) ∷ [], 1 ∷ 3 ∷ 4 ∷ [])
    ∷ ((2, 7, 3) ∷ [], 1 ∷ 4 ∷ 5 ∷ [])
    ∷ ((8, 3, 1) ∷ [], 4 ∷ 5 ∷ 7 ∷ [])
    ∷ ((6, 1, 5) ∷ [], 3 ∷ 4 ∷ 7 ∷ [])
    ∷ []

-- the eight triples of the grid that are on one line: rows, columns and diagonals
unfoldable pub grid_lines : List (ℕ × ℕ × ℕ)
grid_lines = (0, 1, 2) ∷ (3, 4, 5) ∷ (6, 7, 8) ∷ (0, 3, 6) ∷ (1, 4, 7) ∷ (2, 5, 8) ∷ (0, 4, 8)
    ∷ (2, 4, 6) ∷ []

-- ---- five sites, and with two more points s and t, numbered 5 and 6
-- the five sites
abbrev pub five : List Point
five = point (negsuc 29) (pos 20) ∷ point (pos 0) (negsuc 19) ∷ point (pos 0) (pos 20)
    ∷ point (pos 14) (pos 0) ∷
    point (pos 30) (pos 0) ∷ []

-- the five sites, then s and t
abbrev pub seven : List Point
seven = point (negsuc 29) (pos 20) ∷ point (pos 0) (negsuc 19) ∷ point (pos 0) (pos 20)
    ∷ point (pos 14) (pos 0) ∷
    point (pos 30) (pos 0) ∷ point (negsuc 29) (pos 0) ∷ point (pos 40) (pos 0) ∷ []

-- all ten triples of the five sites, each in an order that turns left, with the sites inside its
-- circle
unfoldable pub five_table : List Line
five_table =
    ((0, 1, 2) ∷ [], [])
    ∷ ((0, 1, 3) ∷ [], 2 ∷ [])
    ∷ ((0, 1, 4) ∷ [], 2 ∷ 3 ∷ [])
    ∷ ((0, 3, 2) ∷ [], 1 ∷ [])
    ∷ ((0, 3, 4) ∷ [], 2 ∷ [])
    ∷ ((0, 4, 2) ∷ [], 1 ∷ 3 ∷ [])
    ∷ ((1, 3, 2) ∷ [], [])
    ∷ ((1, 4, 2) ∷ [], 3 ∷ [])
    ∷ ((1, 4, 3) ∷ [], [])
    ∷ ((2, 3, 4) ∷ [], [])
    ∷ []

-- the triples of the seven points with s or t among them, off one line, in an order that turns left
unfoldable pub left_of_seven : List (ℕ × ℕ × ℕ)
left_of_seven = (0, 5, 1) ∷ (0, 5, 2) ∷ (0, 5, 3) ∷ (0, 5, 4) ∷ (1, 2, 5) ∷ (1, 3, 5)
    ∷ (1, 4, 5) ∷ (2, 5, 3) ∷
    (2, 5, 4) ∷ (0, 1, 6) ∷ (0, 6, 2) ∷ (0, 3, 6) ∷ (0, 4, 6) ∷ (1, 6, 2) ∷ (1, 6, 3)
    ∷ (1, 6, 4) ∷ (2, 3, 6) ∷
    (2, 4, 6) ∷ (0, 5, 6) ∷ (1, 6, 5) ∷ (2, 5, 6) ∷ []

-- the four triples of the seven points that are on one line
unfoldable pub lines_of_seven : List (ℕ × ℕ × ℕ)
lines_of_seven = (3, 4, 5) ∷ (3, 4, 6) ∷ (3, 5, 6) ∷ (4, 5, 6) ∷ []
