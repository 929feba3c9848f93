-- A segment over the mesh of a triangulation, by its ends.
use Rattle.std.specs.Prelude.{◌≢◌, ℕ, ℤ, Option, map}
use Rattle.plane.specs.{Meets, Point, whole}
use Rattle.delaunay_core.specs.{place_of, Point2}
use Rattle.delaunay_legalization.specs.{drawn, Reading}
use Rattle.delaunay_location.specs.{Items.IsHandleOf, Items.item_of, Walk.Starts}
use Rattle.delaunay_location.specs.{Starts.StartsInside, Starts.StartsOutside, Steps.IsNext}
use Rattle.delaunay_location.specs.declared.intersection.FixedIntersection.{FixedIntersection}

-- its ends are two different points that the tests cover
pub record AreEnds {P S : Type 0} (number : S → ℤ) (IsCovered : P → Point → Type 0) (tests : P)
    (from to : Point2 S) : Type 0 where
  pub from_covered : IsCovered tests (place_of number from)
  pub to_covered : IsCovered tests (place_of number to)
  pub apart : place_of number from ≢ place_of number to

module _ {V D U F P S : Type 0} (at : V → Point) (number : S → ℤ) (s : Reading V D U F P)
    (from : Point2 S) where
  -- it starts outside the mesh
  abbrev pub IsFromOutside : Type 0
  IsFromOutside = StartsOutside (drawn (map at s.dcel.vertices) s.dcel.mesh) (place_of number from)

  -- it starts strictly inside the face on the left of this directed edge
  abbrev pub IsFromInside : ℕ → Type 0
  IsFromInside = StartsInside (map at s.dcel.vertices) s.dcel.mesh (place_of number from)

  module _ (to : Point2 S) where
    -- it has such ends, and meets the item that this handle of the mesh names
    pub record IsAtItem (IsCovered : P → Point → Type 0) (i : FixedIntersection) : Type 0 where
      pub within : IsHandleOf s.dcel i
      pub ends : AreEnds number IsCovered s.tests from to
      pub met : Meets (drawn (map at s.dcel.vertices) s.dcel.mesh) (whole (place_of number from))
          (whole (place_of number to)) (item_of s.dcel.mesh i)

    -- of the items that it meets, this comes first
    abbrev pub BeginsWith : Option FixedIntersection → Type 0
    BeginsWith = Starts at s.dcel (place_of number from) (place_of number to)

    -- this comes next after that of handle i, or that is the last
    abbrev pub GoesOnTo : FixedIntersection → Option FixedIntersection → Type 0
    GoesOnTo i r =
        IsNext at s.dcel (place_of number from) (place_of number to) (item_of s.dcel.mesh i) r
