-- Where segments were led that crossed constraints.
use Rattle.std.specs.Prelude.{◌≡◌, ◌≢◌, ◌<◌, [], ℕ, ℤ, List, length, All, Contains, IfSome}
use Rattle.delaunay_core.specs.{Point2}
use Rattle.{delaunay_legalization.specs.State.State, drawing_faces.specs.declared.splits.Lead.Lead}
use Rattle.delaunay_journal.specs.Splits.{AreConnected, IsLink}
use Rattle.drawing_faces.specs.declared.splits.SegmentError.{SegmentError}
use Rattle.drawing_faces.specs.declared.splits.SegmentError.TheVariants.{NoVertex, Refused}
use Rattle.drawing_faces.specs.declared.splits.SegmentError.TheVariants.{TooManySteps}

-- a segment ends at vertices, of which there are so many
abbrev pub EndsAtVertices : ℕ → ℕ × ℕ → Type 0
EndsAtVertices count ends = (ends.0 < count) × (ends.1 < count)

-- a new vertex may be any point
abbrev pub IsAnyPoint : Point2 ℤ → Type 0
IsAnyPoint p = Unit {0}

-- the parts of a segment that goes by a vertex are in a list
pub record ListsParts (segments : List (ℕ × ℕ)) (ends : ℕ × ℕ) (by : ℕ) : Type 0 where
  pub first : Contains segments (ends.0, by)
  pub second : Contains segments (by, ends.1)

-- and those of a constraint that it crossed, if that was added out
pub record ListsLead (segments : List (ℕ × ℕ)) (lead : Lead) : Type 0 where
  pub ends : ListsParts segments lead.ends lead.by
  pub crossed : IfSome lead.crossed (λ ends. ListsParts segments ends lead.by)

-- paths of constraints, and of segments that are still to become such, lead from one end of a
-- segment to a vertex, and from there to the other end
pub record GoesBy (constraints segments : List (ℕ × ℕ)) (ends : ℕ × ℕ) (by : ℕ) : Type 0 where
  pub first : AreConnected (IsLink constraints segments) ends.0 by
  pub second : AreConnected (IsLink constraints segments) by ends.1

-- so do they for the constraint that it crossed, if that was added out
pub record IsLed (constraints segments : List (ℕ × ℕ)) (lead : Lead) : Type 0 where
  pub ends : GoesBy constraints segments lead.ends lead.by
  pub crossed : IfSome lead.crossed (λ ends. GoesBy constraints segments ends lead.by)

abbrev pub AreLed : List (ℕ × ℕ) → List (ℕ × ℕ) → List Lead → Type 0
AreLed constraints segments leads = All (IsLed constraints segments) leads

-- segments are refused for this: one of them ends at no vertex, and nothing was changed; or else
-- some are left after as many steps as were allowed, or a step was refused
abbrev pub RefusesSegments : {V D U F : Type 0} → State V D U F → State V D U F → List (ℕ × ℕ)
    → List (ℕ × ℕ) → SegmentError → Type 0
RefusesSegments old new before after NoVertex =
    (¬ All (EndsAtVertices (length old.vertices)) before) × (new ≡ old) × (after ≡ before)
RefusesSegments old new before after TooManySteps =
    All (EndsAtVertices (length old.vertices)) before × (after ≢ [])
RefusesSegments old new before after (Refused why) =
    All (EndsAtVertices (length old.vertices)) before
