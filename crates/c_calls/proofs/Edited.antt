-- How an edit of a triangulation that C keeps ended, by what the library's edit says.
-- Lemmas: edited_at, removal_ended, addition_ended, release_ended, removed_from_plain,
-- removed_from_constrained, not_added_to_plain, added_to_constrained, not_released_in_plain,
-- released_in_constrained, is_allowed, is_not_allowed, is_constrained, still_plain,
-- still_constrained.
use Rattle.std.proofs.Common.{◌≡◌, ℕ, List, refl, sym, subst, ap, arith}
use Rattle.std.specs.Prelude.{Option, Some, Result, Ok, Err, IfErr, IfOk}
use Rattle.delaunay_legalization.specs.{declared.cdt_edge.CdtEdge.CdtEdge, points_and_constraints}
use Rattle.delaunay_legalization.specs.State.{State}
use Rattle.delaunay_edit.specs.{constrained, constraint_edges, HasOtherEdgeData, none}
use Rattle.delaunay_journal.specs.{AddConstraint, Added, Gives, Outcome, Refused}
use Rattle.delaunay_journal.specs.Marking.{flag_marking, Marking}
use Rattle.delaunay_journal.specs.declared.edit.Edit.TheVariants.{ReleaseConstraint, Remove}
use Rattle.delaunay_journal.specs.declared.edit.Outcome.TheVariants.{Released, Removed}
use Rattle.c_calls.specs.{AnyTriangulation, Constrained, kept_place, NumberedPoint, OUT_OF_MEMORY}
use Rattle.{c_calls.specs.Plain, c_calls.specs.WELL, plane.specs.Point, plane.specs.Unconstrains}
use Rattle.c_calls.specs.{Answers.status_of_outcome, Edits.RemovesKept, Kept.IsKeptDelaunay}
use Rattle.c_calls.specs.Edits.{added, Addition, addition_crossing, addition_of_none}
use Rattle.c_calls.specs.Edits.{addition_refused, AddsKept, AllowsConstraints, AreThere, EditsAt}
use Rattle.c_calls.specs.Edits.{IsSameKind, Release, release_of_free, release_refused, released}
use Rattle.c_calls.specs.Edits.{ReleasesKept, Removal, removal_of_none, removal_refused, removed}
use Rattle.c_calls.specs.declared.statuses.TheConstants.{IS_CONSTRAINED, IS_PLAIN}
use Rattle.delaunay_journal.specs.declared.edit.Refusal.TheVariants as reason

-- what an open handle has afterwards
pub edited_at : (Edits : AnyTriangulation → AnyTriangulation → Type 0) (old new : AnyTriangulation)
    (kept : Option AnyTriangulation) → kept ≡ Some new → Edits old new → IsKeptDelaunay new
    → EditsAt Edits old kept
edited_at Edits old new kept is edits headline =
    record { new = new; is_kept = is; edits = edits; headline = headline }

-- ---- edits, by what the journal's step gave
module _ {V D U F : Type 0} (place : V → Point) (constraints : List U → List ℕ)
    (marking : Marking U) (old new : State V D U F) where
  -- a removal
  pub removal_ended : (vertex status : ℕ) (o : Outcome V) → status ≡ status_of_outcome o
      → Gives place constraints marking (Remove vertex) o old new
      → Removal place constraints vertex status old new
  removal_ended vertex status (Removed v) told gives = removed told gives.plain
  removal_ended vertex status (Refused reason.NoVertex) told (past, same) =
      removal_of_none told (λ there. let beyond = past in omega (arith, there, beyond)) same
  removal_ended vertex status (Refused reason.OutOfMemory) told (there, same) =
      removal_refused told there same
  removal_ended vertex status (Refused r) told gives = absurd gives.0
  removal_ended vertex status o told gives = absurd gives

module _ {V D U F : Type 0} (place : V → Point) (from to status : ℕ)
    (old new : State V D (CdtEdge U) F) where
  -- an addition of constraints
  pub addition_ended : (o : Outcome V) → status ≡ status_of_outcome o
      → Gives place constraint_edges flag_marking (AddConstraint from to) o old new
      → Addition place from to status old new
  addition_ended (Added made) told gives = added told gives.plain
  addition_ended (Refused reason.NoVertex) told (gone, same) = addition_of_none told gone.1 same
  addition_ended (Refused reason.Conflict) told (crosses, same) =
      addition_crossing told (crosses.0.1, crosses.0.2) crosses.1 same
  addition_ended (Refused reason.OutOfMemory) told (free, same) =
      addition_refused told free.1 same
  addition_ended (Refused reason.NoConstraints) told (plain, same) = absurd (cc)
  addition_ended (Refused r) told gives = absurd gives.0
  addition_ended o told gives = absurd gives

  -- a release of the constraint between two vertices that are there
  pub release_ended : AreThere old from to → (o : Outcome V) → status ≡ status_of_outcome o
      → Gives place constraint_edges flag_marking (ReleaseConstraint from to) o old new
      → Release place from to status old new
  release_ended there Released told gives = released told gives.plain
  release_ended there (Refused reason.NotConstrained) told (free, same) =
      release_of_free told there free.1 same
  release_ended there (Refused reason.OutOfMemory) told (joined, same) =
      release_refused told joined.1 same
  release_ended there (Refused reason.NoConstraints) told (plain, same) = absurd (cc)
  release_ended there (Refused r) told gives = absurd gives.0
  release_ended there o told gives = absurd gives

-- ---- an edit of either type
-- of a plain triangulation
pub removed_from_plain : (vertex status : ℕ) (k : AnyTriangulation)
    (a b : State NumberedPoint (Unit {0}) (Unit {0}) (Unit {0})) → k ≡ Plain a
    → Removal kept_place none vertex status a b → RemovesKept vertex status k (Plain b)
removed_from_plain vertex status k a b is h =
    subst (λ (w : AnyTriangulation). RemovesKept vertex status w (Plain b)) (sym is) h

-- of a constrained one
pub removed_from_constrained : (vertex status : ℕ) (k : AnyTriangulation)
    (a b : State NumberedPoint (Unit {0}) (CdtEdge (Unit {0})) (Unit {0})) → k ≡ Constrained a
    → Removal kept_place constraint_edges vertex status a b
    → RemovesKept vertex status k (Constrained b)
removed_from_constrained vertex status k a b is h =
    subst (λ (w : AnyTriangulation). RemovesKept vertex status w (Constrained b)) (sym is) h

-- ---- an addition of constraints
-- to a plain triangulation
pub not_added_to_plain : (from to : ℕ) (k new : AnyTriangulation)
    (a : State NumberedPoint (Unit {0}) (Unit {0}) (Unit {0})) → k ≡ Plain a → new ≡ Plain a
    → AddsKept from to IS_PLAIN k new
not_added_to_plain from to k new a is stays =
    subst (λ (w : AnyTriangulation). AddsKept from to IS_PLAIN w new) (sym is) (refl, stays)

-- to a constrained one
pub added_to_constrained : (from to status : ℕ) (k : AnyTriangulation)
    (a b : State NumberedPoint (Unit {0}) (CdtEdge (Unit {0})) (Unit {0})) → k ≡ Constrained a
    → Addition kept_place from to status a b → AddsKept from to status k (Constrained b)
added_to_constrained from to status k a b is h =
    subst (λ (w : AnyTriangulation). AddsKept from to status w (Constrained b)) (sym is) h

-- ---- a release
-- in a plain triangulation
pub not_released_in_plain : (from to : ℕ) (k new : AnyTriangulation)
    (a : State NumberedPoint (Unit {0}) (Unit {0}) (Unit {0})) → k ≡ Plain a → new ≡ Plain a
    → ReleasesKept from to IS_PLAIN k new
not_released_in_plain from to k new a is stays =
    subst (λ (w : AnyTriangulation). ReleasesKept from to IS_PLAIN w new) (sym is) (refl, stays)

-- in a constrained one
pub released_in_constrained : (from to status : ℕ) (k : AnyTriangulation)
    (a b : State NumberedPoint (Unit {0}) (CdtEdge (Unit {0})) (Unit {0})) → k ≡ Constrained a
    → Release kept_place from to status a b → ReleasesKept from to status k (Constrained b)
released_in_constrained from to status k a b is h =
    subst (λ (w : AnyTriangulation). ReleasesKept from to status w (Constrained b)) (sym is) h

-- ---- a plain triangulation that was to become a constrained one
module _ (k : AnyTriangulation) (a : State NumberedPoint (Unit {0}) (Unit {0}) (Unit {0}))
    (is : k ≡ Plain a) where
  -- it did
  pub is_allowed : {E : Type 0} (R : Unit {0} → CdtEdge (Unit {0}) → Type 0)
      (r : Result (State NumberedPoint (Unit {0}) (CdtEdge (Unit {0})) (Unit {0})) E)
      (b : State NumberedPoint (Unit {0}) (CdtEdge (Unit {0})) (Unit {0})) → r ≡ Ok b
      → IfOk r (λ c. Unconstrains kept_place (points_and_constraints a) (constrained c))
      → IfOk r (HasOtherEdgeData R a) → AllowsConstraints WELL k (Constrained b)
  is_allowed R r b ok h others =
      let rest = (subst (λ (q : Result _ _). IfOk q (HasOtherEdgeData R a)) ok others).rest in
      subst (λ (w : AnyTriangulation). AllowsConstraints WELL w (Constrained b)) (sym is) (
        refl,
        subst (λ (q : Result _ _). IfOk q (λ c. Unconstrains kept_place
            (points_and_constraints a) (constrained c))) ok h,
        record {
          vertices = ap (λ (s : State _ _ _ _). s.vertices) rest;
          mesh = ap (λ (s : State _ _ _ _). s.mesh) rest;
        },
      )

  -- memory was refused
  pub is_not_allowed : {B : Type 0}
      (r : Result B (State NumberedPoint (Unit {0}) (Unit {0}) (Unit {0})))
      (b : State NumberedPoint (Unit {0}) (Unit {0}) (Unit {0})) → r ≡ Err b
      → IfErr r (λ d. d ≡ a) → AllowsConstraints OUT_OF_MEMORY k (Plain b)
  is_not_allowed r b err h = subst (λ (w : AnyTriangulation). AllowsConstraints OUT_OF_MEMORY w
      (Plain b))
      (sym is) (refl, subst (λ (q : Result _ _). IfErr q (λ d. d ≡ a)) err h)

-- a constrained one stays
pub is_constrained : (k : AnyTriangulation)
    (a : State NumberedPoint (Unit {0}) (CdtEdge (Unit {0})) (Unit {0})) → k ≡ Constrained a
    → AllowsConstraints IS_CONSTRAINED k (Constrained a)
is_constrained k a is =
    subst (λ (w : AnyTriangulation). AllowsConstraints IS_CONSTRAINED w (Constrained a)) (sym is)
    (refl, refl)

-- ---- a triangulation whose vertices are forgotten stays plain
pub still_plain : (k : AnyTriangulation) (a b : State NumberedPoint (Unit {0}) (Unit {0})
    (Unit {0}))
    → k ≡ Plain a → IsSameKind k (Plain b)
still_plain k a b is = subst (λ (w : AnyTriangulation). IsSameKind w (Plain b)) (sym is) refl

-- or constrained
pub still_constrained : (k : AnyTriangulation)
    (a b : State NumberedPoint (Unit {0}) (CdtEdge (Unit {0})) (Unit {0})) → k ≡ Constrained a
    → IsSameKind k (Constrained b)
still_constrained k a b is = subst (λ (w : AnyTriangulation). IsSameKind w (Constrained b)) (sym is)
    refl

-- ---- for the functions that make the edits
pub ruleset removals_kept = (removed_from_plain, removed_from_constrained)

pub ruleset additions_kept = (not_added_to_plain, added_to_constrained)

pub ruleset releases_kept = (not_released_in_plain, released_in_constrained)

pub ruleset allowances = (is_allowed, is_not_allowed, is_constrained)

pub ruleset clearances = (still_plain, still_constrained)
