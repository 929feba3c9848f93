-- What the edits that insert vertices and join them by constraints make of a triangulation, step by
-- step. Each finished step stays, and a refused step changes nothing.
use Rattle.std.specs.Prelude.{◌≡◌, ◌≢◌, ◌⊎◌, ◌↔◌, ◌≤◌, [], ◌∷◌}
use Rattle.std.specs.Prelude.{ℕ, length, Bool, Option, Some, List, Result, Ok, Err}
use Rattle.std.specs.Prelude.{IsTrue, IsErrOf, IfErr, MatchResult}
use Rattle.std.specs.Iterator.{Drains, Yields, YieldsThen}
use Rattle.plane.specs.{CanAdd, Point}
use Rattle.delaunay_core.specs.{InsertionError, OutOfMemory}
use Rattle.delaunay_legalization.specs.{declared.cdt_edge.CdtEdge.CdtEdge, State.State}
use Rattle.delaunay_edit.specs.{AddsConstraint, AreSites, constrained, constraint_edges}
use Rattle.delaunay_edit.specs.{InsertsVertex, IsDelaunay}
use Rattle.delaunay_interface.specs.declared.constraint_error.ConstraintError.{ConstraintError}
use Rattle.delaunay_interface.specs.declared.constraint_error.ConstraintError.TheVariants.{Conflict}
use Rattle.delaunay_interface.specs.declared.constraint_error.ConstraintError.TheVariants.{Insertion}

-- calls from s may give v
abbrev pub MayGive : {S V : Type 0} → (S → Option V → S → Type 0) → S → V → Type 0
MayGive {S} {V} steps s v = (xs : List V) × (t : S) × YieldsThen steps s xs (Some v) t

-- calls from s gave xs, and after a success nothing more
abbrev pub Takes : {S V R E : Type 0} → (S → Option V → S → Type 0) → S → List V
    → Result R E → Type 0
Takes {S} steps s xs result =
    MatchResult result (λ _. Drains steps s xs) (λ _. (t : S) × Yields steps s xs t)

module _ {V D U F : Type 0} (place : V → Point) where
  -- to join two vertices by constraints gave this result: it is `Conflict` exactly where a
  -- constraint crosses their segment, and another error is want of memory
  pub record JoinsVertices (from to : ℕ) (result : Result Bool ConstraintError)
      (old new : State V D (CdtEdge U) F) : Type 0 where
    pub conflict : IsErrOf result Conflict ↔ ¬ CanAdd place (constrained old) from to
    pub memory : IfErr result (λ e. (e ≡ Conflict) ⊎ (e ≡ Insertion OutOfMemory))
    pub adds : AddsConstraint place from to result old new

  -- a vertex was refused, for this reason
  pub record RefusesEnd (v : V) (error : ConstraintError)
      (old new : State V D (CdtEdge U) F) : Type 0 where
    pub reason : InsertionError
    pub refused : InsertsVertex place constraint_edges v (Err reason) old new
    pub told : error ≡ Insertion reason

  -- an insertion of a vertex gave this result
  abbrev pub InsertsEnd : V → Result ℕ ConstraintError → State V D (CdtEdge U) F
      → State V D (CdtEdge U) F → Type 0
  InsertsEnd v result old new =
      MatchResult result (λ i. InsertsVertex place constraint_edges v (Ok i) old new)
      (λ e. RefusesEnd v e old new)

  -- a vertex was refused, and that was the result
  pub record RefusesVertex {R : Type 0} (v : V) (result : Result R ConstraintError)
      (old new : State V D (CdtEdge U) F) : Type 0 where
    pub error : ConstraintError
    pub refused : RefusesEnd v error old new
    pub told : result ≡ Err error

  -- a vertex was inserted, and then this was done, at its index
  pub record InsertsAndThen (v : V) (after : ℕ → State V D (CdtEdge U) F → Type 0)
      (old : State V D (CdtEdge U) F) : Type 0 where
    pub index : ℕ
    pub middle : State V D (CdtEdge U) F
    pub inserts : InsertsVertex place constraint_edges v (Ok index) old middle
    pub then : after index middle

  -- a vertex was refused, and that was the result, or it was inserted, and then this was done
  abbrev pub InsertsThen : {R : Type 0} → V → (ℕ → State V D (CdtEdge U) F → Type 0)
      → Result R ConstraintError →
      State V D (CdtEdge U) F → State V D (CdtEdge U) F → Type 0
  InsertsThen v after result old new = RefusesVertex v result old new ⊎ InsertsAndThen v after old

  -- two vertices were not joined
  pub record RefusesToJoin {R : Type 0} (from to : ℕ) (result : Result R ConstraintError)
      (old new : State V D (CdtEdge U) F) : Type 0 where
    pub error : ConstraintError
    pub refused : JoinsVertices from to (Err error) old new
    pub told : result ≡ Err error

  -- they were joined, and then this was done
  pub record JoinsAndThen (from to : ℕ) (after : State V D (CdtEdge U) F → Type 0)
      (old : State V D (CdtEdge U) F) : Type 0 where
    pub made : Bool
    pub middle : State V D (CdtEdge U) F
    pub joins : JoinsVertices from to (Ok made) old middle
    pub then : after middle

  -- two vertices were not joined, and that was the result, or they were, and then this was done
  abbrev pub JoinsThen : {R : Type 0} → ℕ → ℕ → (State V D (CdtEdge U) F → Type 0)
      → Result R ConstraintError →
      State V D (CdtEdge U) F → State V D (CdtEdge U) F → Type 0
  JoinsThen from to after result old new =
      RefusesToJoin from to result old new ⊎ JoinsAndThen from to after old

  -- handles stay handles, all vertices are sites, and the triangulation is constrained Delaunay
  pub record StaysReady (IsSite : Point → Type 0) (old new : State V D (CdtEdge U) F) : Type 0 where
    pub grows : length old.vertices ≤ length new.vertices
    pub sites : AreSites place IsSite new.vertices
    pub headline : IsDelaunay place constraint_edges new

  -- two vertices were inserted and joined, up to the first refusal
  abbrev pub AddsConstraintEdge : V → V → Result Bool ConstraintError → State V D (CdtEdge U) F →
      State V D (CdtEdge U) F → Type 0
  AddsConstraintEdge from to result old new =
      InsertsThen from (λ i first. InsertsThen to
      (λ j second. JoinsVertices i j result second new) result first new)
      result old new

  -- vertices were inserted, each joined to the one before it, the first of them to the vertex at
  -- last, up to the first refusal. The result is the index of the last one
  abbrev pub ExtendsPath : List V → ℕ → Result ℕ ConstraintError → State V D (CdtEdge U) F
      → State V D (CdtEdge U) F →
      Type 0
  ExtendsPath [] last result old new = (result ≡ Ok last) × (new ≡ old)
  ExtendsPath (v ∷ vs) last result old new =
      InsertsThen v (λ next inserted. JoinsThen last next
      (λ joined. ExtendsPath vs next result joined new) result
      inserted new) result old new

  -- the path so far ended at last. It is closed, where that is asked and the ends are not one
  pub record ClosesPath (closed : Bool) (first last : ℕ) (result :
      Result (Unit {0}) ConstraintError) (old new : State V D (CdtEdge U) F) : Type 0 where
    pub joins : IsTrue closed → last ≢ first
        → JoinsThen last first (λ joined. (result ≡ Ok tt) × (new ≡ joined)) result old new
    pub stays : ¬ (IsTrue closed × (last ≢ first)) → (result ≡ Ok tt) × (new ≡ old)

  -- the path was made up to its last vertex, or up to a refusal
  pub record MakesPath (vs : List V) (closed : Bool) (first : ℕ) (result :
      Result (Unit {0}) ConstraintError) (old new : State V D (CdtEdge U) F) : Type 0 where
    pub path : Result ℕ ConstraintError
    pub middle : State V D (CdtEdge U) F
    pub extends : ExtendsPath vs first path old middle
    pub closes : MatchResult path (λ last. ClosesPath closed first last result middle new)
        (λ e. (result ≡ Err e) × (new ≡ middle))

  -- vertices were inserted, each joined to the one before it, and the last to the first where that
  -- is asked, up to the first refusal
  abbrev pub AddsConstraintEdges : List V → Bool → Result (Unit {0}) ConstraintError
      → State V D (CdtEdge U) F →
      State V D (CdtEdge U) F → Type 0
  AddsConstraintEdges [] closed result old new = (result ≡ Ok tt) × (new ≡ old)
  AddsConstraintEdges (v ∷ vs) closed result old new =
      InsertsThen v (λ first middle. MakesPath vs closed first result middle new) result old new
