-- The constraints that a segment crosses.
use Rattle.std.specs.Prelude.{◌≡◌, ◌≢◌, ◌/◌, ◌<◌, [], ◌∷◌, ◌++◌}
use Rattle.std.specs.Prelude.{ℕ, List, length, ℤ, Option, Some, MatchOption, Contains}
use Rattle.plane.specs.{across, Item, Joins, MeetsWithin, Point, Triangulation, vertex, whole}
use Rattle.half_edge_links.specs.{origin, rev}
use Rattle.half_edge_dcel.specs.{Contents, DirectedEdgeHandle}
use Rattle.delaunay_location.specs.Items.{crossed_edge}
use Rattle.delaunay_location.specs.{declared.intersection.Intersection.Intersection, Walk.AreLeft}
use Rattle.delaunay_location.specs.declared.iterator.LineIntersectionIterator.{LineIntersectionIterator}

-- item k of the line list is an edge that is crossed, and a constraint
abbrev pub IsConflict : {V D U F : Type 0} → (List U → List ℕ) → Contents V D U F → Item → Type 0
IsConflict constraints c k = (h : ℕ) × (h < length c.directed) ×
    (k ≡ across (origin c.mesh h) (origin c.mesh (rev h)))
    × Contains (constraints c.undirected) (h / 2)

-- the edge that is a conflict, if this intersection is one
abbrev pub IsConflictOf : {V D U F : Type 0} → (List U → List ℕ) → Intersection V D U F →
    Option (DirectedEdgeHandle V D U F) → Type 0
IsConflictOf {V = V} {D = D} {U = U} {F = F} constraints x r =
    MatchOption r ((e : DirectedEdgeHandle V D U F) → crossed_edge x ≡ Some e →
    ¬ Contains (constraints e.dcel.now.undirected) (e.index / 2))
    (λ e. (crossed_edge x ≡ Some e) × Contains (constraints e.dcel.now.undirected) (e.index / 2))

-- no item of the list is one
abbrev pub HasNoConflict : {V D U F : Type 0} → (List U → List ℕ) → Contents V D U F
    → List Item → Type 0
HasNoConflict constraints c items = (k : Item) → Contains items k → ¬ IsConflict constraints c k

-- the first conflict among these items comes after those that were passed, and the others are left
pub record FindsConflict {V D U F P S : Type 0} (at : V → Point) (number : S → ℤ) (constraints :
    List U → List ℕ) (c : Contents V D U F) (items : List Item) (edge : DirectedEdgeHandle V D U F)
    (after : LineIntersectionIterator V D U F P S) : Type 0 where
  pub passed : List Item
  pub others : List Item
  pub all : items ≡ passed
      ++ across (origin c.mesh edge.index) (origin c.mesh (rev edge.index)) ∷ others
  pub none_passed : HasNoConflict constraints c passed
  pub constraint : Contains (constraints c.undirected) (edge.index / 2)
  pub are_left : AreLeft at number after others

-- a call finds the first conflict that is left, as a part of the same mesh; or there is none
pub record GivesConflict {V D U F P S : Type 0} (at : V → Point) (number : S → ℤ)
    (constraints : List U → List ℕ) (it : LineIntersectionIterator V D U F P S) (r : Option
    (DirectedEdgeHandle V D U F)) (after : LineIntersectionIterator V D U F P S) : Type 0 where
  pub same_mesh : after.dcel ≡ it.dcel
  pub gives : (items : List Item) → AreLeft at number it items →
      MatchOption r (HasNoConflict constraints it.dcel.now items × AreLeft at number after [])
      (λ e. (e.dcel ≡ it.dcel) × FindsConflict at number constraints it.dcel.now items e after)

-- p and q differ, and the segment between them meets a constraint in one point, strictly within the
-- constraint
pub record IntersectsConstraint (t : Triangulation) (constraints : List (ℕ × ℕ))
    (p q : Point) : Type 0 where
  pub apart : p ≢ q
  pub from : ℕ
  pub to : ℕ
  pub constraint : Joins constraints from to
  pub met : MeetsWithin (whole p) (whole q) (vertex t from) (vertex t to)
