-- What is left of the walk along a segment over a mesh.
use Rattle.std.specs.Prelude.{◌≡◌, ◌+◌, ◌≤◌, [], ◌∷◌}
use Rattle.std.specs.Prelude.{ℕ, List, ℤ, length, map, Option, Some, None, IfNone, MatchOption}
use Rattle.plane.specs.{IsLineList, Item, Meets, Point, Triangulation, whole}
use Rattle.{delaunay_core.specs.place_of, plane_theorems.specs.GoesOn}
use Rattle.delaunay_legalization.specs.{drawn, IsEmbedding, point_at, state_of, triangulation_of}
use Rattle.{delaunay_legalization.specs.State.State, half_edge_dcel.specs.Contents}
use Rattle.delaunay_location.specs.Items.{IsHandleOf, item_in, item_of, mesh_of}
use Rattle.delaunay_location.specs.declared.intersection.FixedIntersection.{FixedIntersection}
use Rattle.delaunay_location.specs.declared.intersection.Intersection.{Intersection}
use Rattle.delaunay_location.specs.declared.iterator.LineIntersectionIterator.{LineIntersectionIterator}

-- of the line list from p to q these items come after item k; from a point to itself none does
pub record ComeAfter (t : Triangulation) (p q : Point) (k : Item)
    (others : List Item) : Type 0 where
  pub met : ¬ (p ≡ q) → Meets t (whole p) (whole q) k
  pub goes_on : ¬ (p ≡ q) → GoesOn t (whole p) (whole q) k others
  pub alone : p ≡ q → others ≡ []

-- these items are the one that the handle names and those after it; without a handle, none
abbrev pub AreFrom : {V D U F : Type 0} → (V → Point) → Contents V D U F → Point → Point
    → Option FixedIntersection →
    List Item → Type 0
AreFrom at c p q None items = items ≡ []
AreFrom at c p q (Some i) items = IsHandleOf c i ×
    ((others : List Item) × (items ≡ item_of c.mesh i ∷ others) ×
    ComeAfter (drawn (map at c.vertices) c.mesh) p q (item_of c.mesh i) others)

-- the line list from p to q is this first item and those after it; without a first one it has none
pub record Starts {V D U F : Type 0} (at : V → Point) (c : Contents V D U F) (p q : Point)
    (first : Option FixedIntersection) : Type 0 where
  pub items : List Item
  pub line_list : IsLineList (drawn (map at c.vertices) c.mesh) (whole p) (whole q) items
  pub are_from : AreFrom at c p q first items
  pub few : length items ≤ length c.vertices + length c.undirected

-- these items are left of an iterator
abbrev pub AreLeft : {V D U F P S : Type 0} → (V → Point) → (S → ℤ)
    → LineIntersectionIterator V D U F P S → List Item →
    Type 0
AreLeft at number it items =
    AreFrom at it.dcel.now (place_of number it.from) (place_of number it.to) it.current items

-- a call gives the first of the items that are left, as a part of the same mesh, and leaves the
-- others; or nothing is left, and then it changes nothing, so that it may be made again
pub record GivesNext {V D U F P S : Type 0} (at : V → Point) (number : S → ℤ)
    (it : LineIntersectionIterator V D U F P S) (r : Option (Intersection V D U F))
    (after : LineIntersectionIterator V D U F P S) : Type 0 where
  pub same_mesh : after.dcel ≡ it.dcel
  pub gives : (items : List Item) → AreLeft at number it items →
      MatchOption r ((items ≡ []) × AreLeft at number after [])
      (λ x. (mesh_of x ≡ it.dcel) × ((others : List Item) × (items ≡ item_in x ∷ others) ×
      AreLeft at number after others))
  pub stays : IfNone r (after ≡ it)

-- the mesh of a triangulation whose vertices are sites of the tests, which cover both points
pub record IsOverMesh {V D U F P : Type 0} (at : V → Point) (IsSite IsCovered : P → Point → Type 0)
    (c : Contents V D U F) (tests : P) (p q : Point) : Type 0 where
  pub embedding : IsEmbedding at IsSite c tests
  pub from_covered : IsCovered tests p
  pub to_covered : IsCovered tests q

-- an iterator over such a mesh, between such points; some items are left, no more than it counts
pub record IsReady {V D U F P S : Type 0} (at : V → Point) (number : S → ℤ) (IsSite IsCovered : P
    → Point → Type 0) (it : LineIntersectionIterator V D U F P S) : Type 0 where
  pub over : IsOverMesh at IsSite IsCovered it.dcel.now it.tests.now (place_of number it.from)
      (place_of number it.to)
  pub items : List Item
  pub are_left : AreLeft at number it items
  pub few : length items ≤ it.left

-- the line list from p to q in a triangulation is left of the iterator, which is over its mesh
pub record WalksLine {V D U F P S : Type 0} (at : V → Point) (number : S → ℤ) (s : State V D U F)
    (p q : Point) (it : LineIntersectionIterator V D U F P S) : Type 0 where
  pub state : state_of it.dcel.now ≡ s
  pub items : List Item
  pub line_list : IsLineList (triangulation_of at s) (whole p) (whole q) items
  pub are_left : AreLeft at number it items

-- the same from vertex i to vertex j
abbrev pub WalksBetween : {V D U F P S : Type 0} → (V → Point) → (S → ℤ)
    → State V D U F → (i j : ℕ) →
    LineIntersectionIterator V D U F P S → Type 0
WalksBetween at number s i j it =
    WalksLine at number s (point_at (map at s.vertices) i) (point_at (map at s.vertices) j) it
