-- Answers of the definitions, read off printed tables: of a grid of nine points, at unit size and
-- at the greatest coordinates, and of five points with two more.
-- Lemmas: grid_holds, large_grid_holds, grid_lines_hold, large_grid_lines_hold, five_hold,
-- seven_turn_left, seven_lines_hold.
use Rattle.std.proofs.Common.{◌≡◌, ◌↔◌, ℕ, zero, suc, List, [], ◌∷◌, sym, subst, refl}
use mathlib.Core.Bool.{Bool, true, false, not, ◌&&◌}
use lib.Dec.{T}
use lib.Signed.{lt_z}
use Rattle.std.specs.Prelude.{ℤ, pos, negsuc, ◌<ℤ◌}
use Rattle.plane.specs.{lifted_determinant, on, Point, side, turn_at, TurnsLeft, whole}
use Rattle.plane.specs.Sheets.{Answer, AreOn, five, five_table, grid, grid_lines, grid_table}
use Rattle.plane.specs.Sheets.{is_corner, left_of_seven, Line, lines_of_seven, member, seven, site}
use Rattle.plane.specs.Sheets.{SitesHold, TableHolds, TriplesHold, TurnLeft}
use Rattle.plane.proofs.{BracketIdentities.bracket-affine, Sides.left_if, Sides.on_if}
use Rattle.plane.proofs.Circles.{inside_is_determinant, on_is_determinant}
use Rattle.plane.proofs.Solver.{and_l, and_r}

-- ---- the same, computed
abbrev same : Bool → Bool → Bool
same true b = b
same false b = not b

abbrev is_zero : ℤ → Bool
is_zero (pos zero) = true
is_zero (pos (suc n)) = false
is_zero (negsuc n) = false

abbrev sites_hold : Line → Point → Point → Point → ℕ → List Point → Bool
sites_hold l u v p k [] = true
sites_hold l u v p k (q ∷ qs) = same (member k l.1) (lt_z (pos 0) (lifted_determinant u v p q)) &&
    (same (is_corner k l.0) (is_zero (lifted_determinant u v p q)) && sites_hold l u v p (suc k) qs)

abbrev triples_hold : List Point → Line → List (ℕ × ℕ × ℕ) → Bool
triples_hold sites l [] = true
triples_hold sites l (t ∷ ts) =
    lt_z (pos 0) (turn_at (site sites t.0) (site sites t.1) (site sites t.2)) && (sites_hold l
    (site sites t.0) (site sites t.1) (site sites t.2) 0 sites && triples_hold sites l ts)

abbrev table_holds : List Point → List Line → Bool
table_holds sites [] = true
table_holds sites (l ∷ ls) = triples_hold sites l l.0 && table_holds sites ls

abbrev turn_left : List Point → List (ℕ × ℕ × ℕ) → Bool
turn_left points [] = true
turn_left points (t ∷ ts) = lt_z (pos 0)
    (turn_at (site points t.0) (site points t.1) (site points t.2)) && turn_left points ts

abbrev are_on : List Point → List (ℕ × ℕ × ℕ) → Bool
are_on points [] = true
are_on points (t ∷ ts) =
    is_zero (turn_at (site points t.0) (site points t.1) (site points t.2)) && are_on points ts

not_both : (b : Bool) → T (not b) → T b → ⊥
not_both true n t = n
not_both false n t = t

if_zero : (z : ℤ) → T (is_zero z) → z ≡ pos 0
if_zero (pos zero) t = refl
if_zero (pos (suc n)) t = absurd t
if_zero (negsuc n) t = absurd t

above_answer : {X : Type 0} (b : Bool) (z : ℤ) → X ↔ (pos 0 <ℤ z)
    → T (same b (lt_z (pos 0) z)) → Answer b X
above_answer true z e t = e.1 (record { lt = t })
above_answer false z e t = λ x. not_both (lt_z (pos 0) z) t (e.0 x).lt

zero_answer : {X : Type 0} (b : Bool) (z : ℤ) → X ↔ (z ≡ pos 0)
    → T (same b (is_zero z)) → Answer b X
zero_answer true z e t = e.1 (if_zero z t)
zero_answer false z e t = λ x. not_both (is_zero z) t (subst (λ y. T (is_zero y)) (sym (e.0 x)) tt)

left_by : (u v p : Point) → T (lt_z (pos 0) (turn_at u v p))
    → TurnsLeft (whole u) (whole v) (whole p)
left_by u v p t = left_if (whole u) (whole v) (whole p)
    (subst (λ z. pos 0 <ℤ z) (sym (bracket-affine u v p)) (record { lt = t }))

-- where the test computes a turn of 0, the third point is on the line
on_by : (u v p : Point) → T (is_zero (turn_at u v p)) → side (whole u) (whole v) (whole p) ≡ on
on_by u v p t = on_if (whole u) (whole v) (whole p)
    (subst (λ z. z ≡ pos 0) (sym (bracket-affine u v p)) (if_zero (turn_at u v p) t))

sites_by : (l : Line) (u v p : Point) (k : ℕ) (qs : List Point)
    → TurnsLeft (whole u) (whole v) (whole p) → T (sites_hold l u v p k qs) → SitesHold l u v p k qs
sites_by l u v p k [] turns t = tt
sites_by l u v p k (q ∷ qs) turns t =
    let d = lifted_determinant u v p q in
    let rest = and_r (same (member k l.1) (lt_z (pos 0) d))
    (same (is_corner k l.0) (is_zero d) && sites_hold l u v p (suc k) qs) t in (
      above_answer (member k l.1) d (inside_is_determinant u v p q turns)
          (and_l (same (member k l.1) (lt_z (pos 0) d))
          (same (is_corner k l.0) (is_zero d) && sites_hold l u v p (suc k) qs) t),
      zero_answer (is_corner k l.0) d (on_is_determinant u v p q turns)
          (and_l (same (is_corner k l.0) (is_zero d)) (sites_hold l u v p (suc k) qs) rest),
      sites_by l u v p (suc k) qs turns
          (and_r (same (is_corner k l.0) (is_zero d)) (sites_hold l u v p (suc k) qs) rest),
    )

triples_by : (sites : List Point) (l : Line) (ts : List (ℕ × ℕ × ℕ)) → T (triples_hold sites l ts)
    → TriplesHold sites l ts
triples_by sites l [] t = tt
triples_by sites l (c ∷ ts) t =
    let u = site sites c.0 in
    let v = site sites c.1 in
    let p = site sites c.2 in
    let turns = left_by u v p (and_l (lt_z (pos 0) (turn_at u v p))
    (sites_hold l u v p 0 sites && triples_hold sites l ts) t) in
    let rest = and_r (lt_z (pos 0) (turn_at u v p))
    (sites_hold l u v p 0 sites && triples_hold sites l ts) t in (
      turns,
      sites_by l u v p 0 sites turns
          (and_l (sites_hold l u v p 0 sites) (triples_hold sites l ts) rest),
      triples_by sites l ts (and_r (sites_hold l u v p 0 sites) (triples_hold sites l ts) rest),
    )

table_by : (sites : List Point) (ls : List Line) → T (table_holds sites ls) → TableHolds sites ls
table_by sites [] t = tt
table_by sites (l ∷ ls) t = (
  triples_by sites l l.0 (and_l (triples_hold sites l l.0) (table_holds sites ls) t),
  table_by sites ls (and_r (triples_hold sites l l.0) (table_holds sites ls) t),
)

turn_left_by : (points : List Point) (ts : List (ℕ × ℕ × ℕ)) → T (turn_left points ts)
    → TurnLeft points ts
turn_left_by points [] t = tt
turn_left_by points (c ∷ ts) t =
    let first = lt_z (pos 0) (turn_at (site points c.0) (site points c.1) (site points c.2)) in (
      left_by (site points c.0) (site points c.1) (site points c.2) (and_l first
          (turn_left points ts) t),
      turn_left_by points ts (and_r first (turn_left points ts) t),
    )

are_on_by : (points : List Point) (ts : List (ℕ × ℕ × ℕ)) → T (are_on points ts) → AreOn points ts
are_on_by points [] t = tt
are_on_by points (c ∷ ts) t =
    let first = is_zero (turn_at (site points c.0) (site points c.1) (site points c.2)) in (
      on_by (site points c.0) (site points c.1) (site points c.2)
          (and_l first (are_on points ts) t),
      are_on_by points ts (and_r first (are_on points ts) t),
    )

-- at unit size, the circles of the grid contain and carry what its table says
pub grid_holds : TableHolds (grid (pos 1)) grid_table
unfolding grid_table
grid_holds = table_by (grid (pos 1)) grid_table tt

-- at the greatest coordinates, the circles of the grid contain and carry what its table says
pub large_grid_holds : TableHolds (grid (pos 536870912)) grid_table
unfolding grid_table
large_grid_holds = table_by (grid (pos 536870912)) grid_table tt

-- at unit size, the rows, columns and diagonals of the grid are each on one line
pub grid_lines_hold : AreOn (grid (pos 1)) grid_lines
unfolding grid_lines
grid_lines_hold = are_on_by (grid (pos 1)) grid_lines tt

-- at the greatest coordinates, the rows, columns and diagonals of the grid are each on one line
pub large_grid_lines_hold : AreOn (grid (pos 536870912)) grid_lines
unfolding grid_lines
large_grid_lines_hold = are_on_by (grid (pos 536870912)) grid_lines tt

-- the circles of the five sites contain and carry what their table says
pub five_hold : TableHolds five five_table
unfolding five_table
five_hold = table_by five five_table tt

-- the listed triples of the seven points have their third point on the left
pub seven_turn_left : TurnLeft seven left_of_seven
unfolding left_of_seven
seven_turn_left = turn_left_by seven left_of_seven tt

-- the listed triples of the seven points are each on one line
pub seven_lines_hold : AreOn seven lines_of_seven
unfolding lines_of_seven
seven_lines_hold = are_on_by seven lines_of_seven tt
