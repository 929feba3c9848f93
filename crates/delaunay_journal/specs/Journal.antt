-- What lists of edits make of a triangulation.
use Rattle.std.specs.Prelude.{◌≡◌, ◌≢◌, ◌↔◌, ◌<◌, ◌≤◌, [], ◌∷◌, ◌++◌}
use Rattle.std.specs.Prelude.{ℕ, Bool, true, false, List, length, map, Some, Ok}
use Rattle.std.specs.Prelude.{Err, IsTrue, slice_get, slice_set}
use Rattle.plane.specs.{Adds, CanAdd, insert, Joins, Plain, Point, Releases, Replaces, SamePairs}
use Rattle.plane.specs.PlainEdits.{add, clear, Edit as PlainEdit, IsCleared, release, remove}
use Rattle.half_edge_links.specs.{empty}
use Rattle.delaunay_legalization.specs.{constraints_by, KeepsIndexes, point_at}
use Rattle.delaunay_legalization.specs.{points_and_constraints_by, State.State}
use Rattle.delaunay_edit.specs.{InsertsVertex, MarksSome, RemovesVertex}
use Rattle.delaunay_journal.specs.{declared.edit.Refusal.TheVariants.OutOfMemory, Marking.Marking}
use Rattle.delaunay_journal.specs.{declared.edit.Edit.Edit, declared.edit.Edit.TheVariants.Replace}
use Rattle.delaunay_journal.specs.declared.edit.Edit.TheVariants.{AddConstraint, Clear, Insert}
use Rattle.delaunay_journal.specs.declared.edit.Edit.TheVariants.{ReleaseConstraint, Remove}
use Rattle.delaunay_journal.specs.{declared.edit.Outcome.Outcome, declared.edit.PairEdit.PairEdit}
use Rattle.delaunay_journal.specs.declared.edit.Outcome.TheVariants.{Added, Cleared, Inserted}
use Rattle.delaunay_journal.specs.declared.edit.Outcome.TheVariants.{Refused, Released, Removed}
use Rattle.delaunay_journal.specs.declared.edit.Outcome.TheVariants.{Replaced}
use Rattle.delaunay_journal.specs.declared.edit.PairEdit.TheVariants.{Join, Release}
use Rattle.{delaunay_journal.specs.declared.edit.Refusal.Refusal, plane.specs.PlainEdits.replace}
use Rattle.delaunay_journal.specs.declared.edit.Refusal.TheVariants.{Conflict, Insertion}
use Rattle.delaunay_journal.specs.declared.edit.Refusal.TheVariants.{NoConstraints, NotConstrained}
use Rattle.delaunay_journal.specs.declared.edit.Refusal.TheVariants.{NoVertex, OtherPosition}

module _ {V : Type 0} where
  -- an edit of the constraints between two vertices, as an edit
  abbrev pub edit_of : PairEdit → Edit V
  edit_of (Join i j) = AddConstraint i j
  edit_of (Release i j) = ReleaseConstraint i j

  -- the edit that was made, if one was
  abbrev pub edit_made : Edit V → Outcome V → List (PlainEdit V)
  edit_made e (Refused r) = []
  edit_made (Insert v) o = insert v ∷ []
  edit_made (Remove i) o = remove i ∷ []
  edit_made (Replace i v) o = replace i v ∷ []
  edit_made Clear o = clear ∷ []
  edit_made (AddConstraint i j) o = add i j ∷ []
  edit_made (ReleaseConstraint i j) o = release i j ∷ []

  -- those that were made, in order
  abbrev pub edits_made : List (Edit V) → List (Outcome V) → List (PlainEdit V)
  edits_made (e ∷ es) (o ∷ os) = edit_made e o ++ edits_made es os
  edits_made es os = []

-- of a triangulation whose constraints these are, by the data of all edges
module _ {V D U F : Type 0} (place : V → Point) (constraints : List U → List ℕ)
    (marking : Marking U) where
  abbrev plain_of : State V D U F → Plain V
  plain_of s = points_and_constraints_by constraints s

  -- the reason holds of the edit in this state
  abbrev pub IsRefusedFor : Edit V → Refusal → State V D U F → Type 0
  IsRefusedFor (Insert v) (Insertion e) s = InsertsVertex place constraints v (Err e) s s
  IsRefusedFor (Remove i) NoVertex s = length s.vertices ≤ i
  IsRefusedFor (Remove i) OutOfMemory s = i < length s.vertices
  IsRefusedFor (Replace i v) NoVertex s = length s.vertices ≤ i
  IsRefusedFor (Replace i v) OtherPosition s =
      (i < length s.vertices) × (point_at (map place s.vertices) i ≢ place v)
  IsRefusedFor (AddConstraint i j) NoConstraints s = marking.possible ≡ false
  IsRefusedFor (AddConstraint i j) NoVertex s =
      (marking.possible ≡ true) × ¬ ((i < length s.vertices) × (j < length s.vertices))
  IsRefusedFor (AddConstraint i j) Conflict s =
      ((marking.possible ≡ true) × (i < length s.vertices) × (j < length s.vertices))
      × ¬ CanAdd place (plain_of s) i j
  IsRefusedFor (AddConstraint i j) OutOfMemory s =
      (marking.possible ≡ true) × CanAdd place (plain_of s) i j
  IsRefusedFor (ReleaseConstraint i j) NoConstraints s = marking.possible ≡ false
  IsRefusedFor (ReleaseConstraint i j) NotConstrained s =
      (marking.possible ≡ true) × ¬ Joins (constraints_by constraints s) i j
  IsRefusedFor (ReleaseConstraint i j) OutOfMemory s =
      (marking.possible ≡ true) × Joins (constraints_by constraints s) i j
  IsRefusedFor e r s = ⊥

  -- a vertex was exchanged for another of its position
  pub record Exchanges (i : ℕ) (v w : V) (old new : State V D U F) : Type 0 where
    pub had : slice_get old.vertices i ≡ Some w
    pub plain : Replaces place (plain_of old) (plain_of new) i v
    pub rest : new ≡ record old { vertices = slice_set old.vertices i v }

  -- no vertex is left
  pub record Empties (old new : State V D U F) : Type 0 where
    pub plain : IsCleared place (plain_of new)
    pub rest : new
        ≡ record old { vertices = []; mesh = empty; directed = []; undirected = []; faces = [] }

  -- two vertices are joined by constraints, and it is told whether that made one. Edges may have
  -- been flipped, and some that were none have the mark; all other data stay, each at its index
  pub record JoinsPair (i j : ℕ) (made : Bool) (old new : State V D U F) : Type 0 where
    pub possible : marking.possible ≡ true
    pub plain : Adds place (plain_of old) (plain_of new) i j
    pub told : IsTrue made
        ↔ (¬ SamePairs (constraints_by constraints old) (constraints_by constraints new))
    pub rest : new ≡ record old { mesh = new.mesh; undirected = new.undirected }
    pub each : MarksSome marking.marks marking.marked old.undirected new.undirected

  -- two vertices are joined by a constraint no more. Edges may have been flipped, and one has lost
  -- the mark; all other data stay, each at its index, and an edge or an inner face that is there
  -- before and after keeps its index
  pub record ReleasesPair (i j : ℕ) (old new : State V D U F) : Type 0 where
    pub possible : marking.possible ≡ true
    pub plain : Releases place (plain_of old) (plain_of new) i j
    pub edge : ℕ
    pub value : U
    pub was : slice_get old.undirected edge ≡ Some value
    pub rest : new ≡ record old
        { mesh = new.mesh; undirected = slice_set old.undirected edge (marking.unmarked value) }
    pub indexes : KeepsIndexes old.mesh new.mesh

  -- an edit gave this outcome
  abbrev pub Gives : Edit V → Outcome V → State V D U F → State V D U F → Type 0
  Gives e (Refused r) old new = IsRefusedFor e r old × (new ≡ old)
  Gives (Insert v) (Inserted i) old new = InsertsVertex place constraints v (Ok i) old new
  Gives (Remove i) (Removed v) old new =
      RemovesVertex place constraints {E = Unit {0}} i (Ok v) old new
  Gives (Replace i v) (Replaced w) old new = Exchanges i v w old new
  Gives Clear Cleared old new = Empties old new
  Gives (AddConstraint i j) (Added made) old new = JoinsPair i j made old new
  Gives (ReleaseConstraint i j) Released old new = ReleasesPair i j old new
  Gives e o old new = ⊥

  -- edits gave these outcomes, one after another
  abbrev pub Replays : List (Edit V) → List (Outcome V) → State V D U F → State V D U F → Type 0
  Replays [] [] old new = new ≡ old
  Replays (e ∷ es) (o ∷ os) old new =
      (middle : State V D U F) × Gives e o old middle × Replays es os middle new
  Replays es os old new = ⊥
