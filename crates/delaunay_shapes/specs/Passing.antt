-- A segment over a mesh with free faces.
use Rattle.std.specs.Prelude.{◌↔◌, ℕ, Bool, List, map, Contains, IsTrue}
use Rattle.plane.specs.{Fraction, IsLineList, Item, Point, Triangulation, whole}
use Rattle.{half_edge_dcel.specs.Contents, plane_theorems.specs.PassesFree}
use Rattle.{delaunay_legalization.specs.drawn, delaunay_shapes.specs.Beside.by_place}

-- what a contract sees of it: the mesh, the free faces, its ends and the tests
pub record Looking (V D U F G P : Type 0) : Type 0 where
  pub dcel : Contents V D U F
  pub free : G
  pub from : Point
  pub to : Point
  pub tests : P

module _ {V D U F G P : Type 0} (at : V → Point) (free : G → ℕ → Bool)
    (s : Looking V D U F G P) where
  -- it passes free faces at an item that it meets
  abbrev pub Passes : Item → Type 0
  Passes = PassesFree (drawn (map at s.dcel.vertices) s.dcel.mesh) (by_place (free s.free))
      (whole s.from) (whole s.to)

  -- and at each of these
  abbrev pub PassesEach : List Item → Type 0
  PassesEach items = (k : Item) → Contains items k → Passes k

-- the answer says whether the segment from p to q passes free faces at each item of its line list
abbrev pub GoesFree : Triangulation → (ℕ → Bool) → Fraction → Fraction → Bool → Type 0
GoesFree t free p q answer = (items : List Item) × IsLineList t p q items
    × (IsTrue answer ↔ ((k : Item) → Contains items k → PassesFree t free p q k))
