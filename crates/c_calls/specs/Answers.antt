-- What calls on a handle say.
use Rattle.std.specs.Prelude.{◌≡◌, ◌≢◌, ℕ, nat_eq, [], Option, None, Some, Result, Ok, Err}
use Rattle.std.specs.Prelude.{◌↔◌, ◌<◌, IfOk, IfSome}
use Rattle.delaunay_core.specs.{InsertionError, OutOfIndexes, OutOfMemory, TooLarge}
use Rattle.delaunay_journal.specs.{declared.edit.Refusal.Refusal, Outcome, Refused}
use Rattle.c_calls.specs.Kept.{InsertsKept, IsKeptDelaunay, IsOfKind, kept_vertices}
use Rattle.c_calls.specs.declared.kept.AnyTriangulation.{AnyTriangulation}
use Rattle.c_calls.specs.declared.raw.NumberedPoint.{NumberedPoint}
use Rattle.c_calls.specs.declared.statuses.TheConstants.{ALREADY_OPEN, CROSSING, IS_PLAIN}
use Rattle.c_calls.specs.declared.statuses.TheConstants.{NO_CONSTRAINT, NO_SUCH_KIND}
use Rattle.c_calls.specs.declared.statuses.TheConstants.{NO_SUCH_VERTEX, OUT_OF_INDEXES}
use Rattle.c_calls.specs.declared.statuses.TheConstants.{OUT_OF_MEMORY, TOO_LARGE, WELL}
use Rattle.delaunay_journal.specs.declared.edit.Refusal.TheVariants as refusal

-- the status of a refused insertion
abbrev pub status_of_error : InsertionError → ℕ
status_of_error TooLarge = TOO_LARGE
status_of_error OutOfIndexes = OUT_OF_INDEXES
status_of_error OutOfMemory = OUT_OF_MEMORY

-- the status of a refused edit
abbrev pub status_of_reason : Refusal → ℕ
status_of_reason (refusal.Insertion e) = status_of_error e
status_of_reason refusal.NoVertex = NO_SUCH_VERTEX
status_of_reason refusal.OtherPosition = NO_SUCH_VERTEX
status_of_reason refusal.NoConstraints = IS_PLAIN
status_of_reason refusal.Conflict = CROSSING
status_of_reason refusal.NotConstrained = NO_CONSTRAINT
status_of_reason refusal.OutOfMemory = OUT_OF_MEMORY

-- the status of an edit
abbrev pub status_of_outcome : {V : Type 0} → Outcome V → ℕ
status_of_outcome (Refused r) = status_of_reason r
status_of_outcome o = WELL

-- the status of an insertion
abbrev pub status_of_insertion : Result ℕ InsertionError → ℕ
status_of_insertion (Ok i) = WELL
status_of_insertion (Err e) = status_of_error e

-- an open handle had a triangulation, into which a value was inserted: the handle has what the
-- library's insertion made of it, and the status says how that ended
pub record InsertsAt (v : NumberedPoint) (status vertex : ℕ) (old : AnyTriangulation)
    (kept : Option AnyTriangulation) : Type 0 where
  pub new : AnyTriangulation
  pub is_kept : kept ≡ Some new
  pub inserted : Result ℕ InsertionError
  pub inserts : InsertsKept v inserted old new
  pub headline : IsKeptDelaunay new
  pub told : status ≡ status_of_insertion inserted
  pub index : IfOk inserted (λ i. vertex ≡ i)

-- a closed handle was to be opened, with a triangulation of this kind. Any other status says that
-- memory was refused
pub record OpensAt (kind status : ℕ) (kept : Option AnyTriangulation) : Type 0 where
  pub opened : status ≡ WELL → IfSome kept (λ k.
      IsOfKind (nat_eq kind 1) k × (kept_vertices k ≡ []) × IsKeptDelaunay k)
  pub refused : status ≢ WELL → kept ≡ None
  pub no_such_kind : status ≡ NO_SUCH_KIND ↔ (1 < kind)
  pub others : status ≢ WELL → status ≢ NO_SUCH_KIND → status ≡ OUT_OF_MEMORY

-- how it ended that a handle was to be opened with a copy of this triangulation
pub data OpensCopy (k : AnyTriangulation) (status : ℕ) (old new : Option AnyTriangulation) : Type 0
  where
    copied : status ≡ WELL → old ≡ None → new ≡ Some k → IsKeptDelaunay k
        → OpensCopy k status old new
    copy_to_open : status ≡ ALREADY_OPEN → old ≢ None → new ≡ old → OpensCopy k status old new
    copy_refused : status ≡ OUT_OF_MEMORY → old ≡ None → new ≡ None → OpensCopy k status old new
