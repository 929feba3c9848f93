-- How many edges the hull has.
use Rattle.std.specs.Prelude.{◌≡◌, ◌≢◌, ◌↔◌, ◌+◌, ◌-◌, ◌*◌, ◌<◌}
use Rattle.std.specs.Prelude.{ℕ, List, length, Contains, AllPairs}
use Rattle.plane.specs.{IsOuter, Point, Triangulation}
use Rattle.{delaunay_legalization.specs.State.State, delaunay_legalization.specs.triangulation_of}

-- so many directed edges have the outer face on their left: a list has each of them, once, and no
-- other
pub record HasHullSize (t : Triangulation) (size : ℕ) : Type 0 where
  pub hull : List (ℕ × ℕ)
  pub count : length hull ≡ size
  pub once : AllPairs (λ d e. d ≢ e) hull
  pub outer : (i j : ℕ) → Contains hull (i, j) ↔ IsOuter t i j

-- the hull has this size, which goes with the numbers of vertices, edges and faces. On one line
-- each edge counts twice
pub record CountsHullEdges {V D U F : Type 0} (place : V → Point) (s : State V D U F)
    (size : ℕ) : Type 0 where
  pub hull : HasHullSize (triangulation_of place s) size
  pub spread : 0 < length s.faces → length s.undirected + size + 3 ≡ 3 * length s.vertices
  pub spread_faces : 0 < length s.faces → length s.faces + size + 2 ≡ 2 * length s.vertices
  pub line : length s.faces ≡ 0 → size ≡ 2 * (length s.vertices - 1)
  pub line_edges : length s.faces ≡ 0 → length s.undirected ≡ length s.vertices - 1
