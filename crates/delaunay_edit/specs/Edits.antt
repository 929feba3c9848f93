-- What each edit makes of a triangulation.
use Rattle.std.specs.Prelude.{◌≡◌, ◌↔◌, ◌+◌, ◌*◌, ◌<◌, ◌++◌, ◌∷◌, []}
use Rattle.std.specs.Prelude.{ℕ, Bool, List, length, map, All, IsTrue, Option, None, Some, Result}
use Rattle.std.specs.Prelude.{Ok, IsOk, IsErrOf, IfOk, OnOk, OnErr, MatchOption}
use Rattle.std.specs.Prelude.{slice_get, slice_set}
use Rattle.plane.specs.{InRange, Inserts, Point, Removes}
use Rattle.half_edge_links.specs.{MAX_ELEMENTS}
use Rattle.delaunay_core.specs.{InsertionError, OutOfIndexes, TooLarge}
use Rattle.delaunay_legalization.specs.{constraints_by, IsApart, IsDelaunayTriangulation, IsKnown}
use Rattle.delaunay_legalization.specs.{points_and_constraints_by, State.State}
use Rattle.delaunay_location.specs.{Locates, PositionInTriangulation}
use Rattle.delaunay_vertices.specs.{KeepsData, KeepsDataOfOthers, SplitsConstraints}
use Rattle.delaunay_edit.specs.{Counting.IsCounted, Headline.AreSites, Removal.RemovesAt}

module _ {V : Type 0} (place : V → Point) (IsSite : Point → Type 0) where
  -- all vertices are sites of the tests, and so is the position of a value, where it is in range
  pub record AreSitesWith (vertices : List V) (value : V) : Type 0 where
    pub sites : AreSites place IsSite vertices
    pub new_site : InRange (place value) → IsSite (place value)

module _ {V D U F : Type 0} (place : V → Point) (constraints : List U → List ℕ) where
  -- a value whose position, a site at this location, no vertex has can be appended to a legal
  -- triangulation, which has no constraint where is_free says so
  pub record CanAppend (IsSite : Point → Type 0) (value : V) (location : PositionInTriangulation)
      (is_free : Bool) (s : State V D U F) : Type 0 where
    pub legal : IsDelaunayTriangulation place constraints s
    pub sites : All IsSite (map place s.vertices)
    pub new_site : IsSite (place value)
    pub in_range : InRange (place value)
    pub apart : IsApart (map place s.vertices) (place value)
    pub located : Locates (map place s.vertices) s.mesh (place value) location
    pub free : IsTrue is_free → constraints_by constraints s ≡ []

  -- the value is the new last vertex, at this index, and what is there before and after keeps its
  -- data. The constraint that it is strictly within becomes two, so that there are so many more
  pub record AppendsVertex (value : V) (index more : ℕ) (old new : State V D U F) : Type 0 where
    pub is : index ≡ length old.vertices
    pub vertices : new.vertices ≡ old.vertices ++ value ∷ []
    pub «data» : KeepsData old new
    pub splits : SplitsConstraints place constraints old new value
    pub counted : (number : ℕ) → IsCounted place constraints old number
        → IsCounted place constraints new (number + more)

  -- an insertion of a value gave this result. A vertex of its position is overwritten, and all else
  -- stays; other edits of the plain state are as in `Inserts`. What is there before and after keeps
  -- its data
  pub record InsertsVertex (value : V) (result : Result ℕ InsertionError)
      (old new : State V D U F) : Type 0 where
    pub too_large : IsErrOf result TooLarge ↔ ¬ InRange (place value)
    pub known : InRange (place value) → IsKnown (map place old.vertices) (place value) → IsOk result
    pub full : IsErrOf result OutOfIndexes
        ↔ (InRange (place value) × (¬ IsKnown (map place old.vertices) (place value))
        × (MAX_ELEMENTS < 6 * (length old.vertices + 1)))
    pub ok : IfOk result (λ i. Inserts place (points_and_constraints_by constraints old)
        (points_and_constraints_by constraints new) value i)
    pub replaced : IsKnown (map place old.vertices) (place value) →
        IfOk result (λ i. new ≡ record old { vertices = slice_set old.vertices i value })
    pub outer : new.outer ≡ old.outer
    pub «data» : OnOk result (KeepsData old new)
    pub err : OnErr result (new ≡ old)

  -- a removal of a vertex gave this result
  pub record RemovesVertex {E : Type 0} (vertex : ℕ) (result : Result V E)
      (old new : State V D U F) : Type 0 where
    pub value : IfOk result (λ v. slice_get old.vertices vertex ≡ Some v)
    pub plain : OnOk result (Removes place (points_and_constraints_by constraints old)
        (points_and_constraints_by constraints new) vertex)
    pub outer : new.outer ≡ old.outer
    pub «data» : OnOk result (KeepsDataOfOthers old new vertex)
    pub err : OnErr result (new ≡ old)

  -- a removal of the vertex at p gave this result
  pub record LocatesAndRemoves {E : Type 0} (p : Point) (result : Result (Option V) E)
      (old new : State V D U F) : Type 0 where
    pub apart : ¬ IsKnown (map place old.vertices) p → (result ≡ Ok None) × (new ≡ old)
    pub ok : IfOk result (λ r. MatchOption r (¬ IsKnown (map place old.vertices) p)
        (RemovesAt place constraints old new p))
    pub outer : new.outer ≡ old.outer
    pub err : OnErr result (new ≡ old)
