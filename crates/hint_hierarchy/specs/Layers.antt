-- What the layers of a hierarchy hold.
use Rattle.std.specs.Prelude.{◌≡◌, ◌⊎◌, ℤ, List, map, Contains, Option, Some}
use Rattle.{delaunay_core.specs.place_of, delaunay_core.specs.Point2, plane.specs.Point}

-- the positions of a layer's vertices
abbrev pub positions : {S : Type 0} → (S → ℤ) → List (Point2 S) → List Point
positions number vertices = map (place_of number) vertices

-- p is the position of one of them
abbrev pub IsPositionOf : {S : Type 0} → (S → ℤ) → List (Point2 S) → Point → Type 0
IsPositionOf number vertices p = Contains (positions number vertices) p

-- p is one of the positions of some layer
pub record IsInSome {L : Type 0} (positions_of : L → List Point) (layers : List L)
    (p : Point) : Type 0 where
  pub layer : L
  pub among : Contains layers layer
  pub vertex : Contains (positions_of layer) p

-- p is the position of a vertex of some layer
abbrev pub IsHeld : {S : Type 0} → (S → ℤ) → List (List (Point2 S)) → Point → Type 0
IsHeld number layers p = IsInSome (positions number) layers p

-- each position of the new set is one of the old, or that of the vertex that is swapped in, if any
abbrev pub IsAtMostOr : (old new : Point → Type 0) → Option Point → Type 0
IsAtMostOr old new swapped = (p : Point) → new p → old p ⊎ (swapped ≡ Some p)
