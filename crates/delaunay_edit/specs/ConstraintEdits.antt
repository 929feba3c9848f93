-- What the edits of constraints make of a triangulation.
use Rattle.std.specs.Prelude.{◌≡◌, ◌≢◌, ◌⊎◌, ◌↔◌, ◌*◌, ◌<◌, []}
use Rattle.std.specs.Prelude.{ℕ, Bool, true, false, List, length, map, Some, Result}
use Rattle.std.specs.Prelude.{Ok, Option, Contains, IsTrue, IfOk, OnOk, OnErr, slice_get, slice_set}
use Rattle.std.specs.Prelude.{MatchOption, MatchResult}
use Rattle.plane.specs.{Adds, CanAdd, Point, Releases, SamePairs}
use Rattle.half_edge_links.specs.{origin, rev}
use Rattle.delaunay_legalization.specs.{is_constraint, KeepsIndexes, State.State, with_mark}
use Rattle.delaunay_legalization.specs.declared.cdt_edge.CdtEdge.{CdtEdge}
use Rattle.delaunay_edit.specs.{Adding.MarksSome, Headline.AreSites, PathEdges.LeadAlong}
use Rattle.delaunay_edit.specs.Constrained.{constrained, constraint_edges, constraints_of}

-- edges may have been flipped, and some that were no constraints have become such. All other data
-- stay, each at its index
pub record MarksEdges {V D U F : Type 0} (old new : State V D (CdtEdge U) F) : Type 0 where
  pub rest : new ≡ record old { mesh = new.mesh; undirected = new.undirected }
  pub each : MarksSome is_constraint (with_mark true) old.undirected new.undirected

-- undirected edge k has ceased to be a constraint, and edges may have been flipped. All other data
-- stay, each at its index, and an edge or an inner face that is there before and after keeps its
-- index
pub record FreesEdge {V D U F : Type 0} (old new : State V D (CdtEdge U) F) (k : ℕ) : Type 0 where
  pub value : CdtEdge U
  pub was : slice_get old.undirected k ≡ Some value
  pub rest : new ≡ record old
      { mesh = new.mesh; undirected = slice_set old.undirected k (with_mark false value) }
  pub indexes : KeepsIndexes old.mesh new.mesh

module _ {V D U F : Type 0} (place : V → Point) (IsSite : Point → Type 0) where
  -- the path between two vertices may be asked for: both are there, and the vertices are sites
  pub record MayJoin (s : State V D U F) (from to : ℕ) : Type 0 where
    pub from_in : from < length s.vertices
    pub to_in : to < length s.vertices
    pub sites : AreSites place IsSite s.vertices

module _ {V D U F : Type 0} (place : V → Point) where
  -- to add the path between two vertices gave this result, which tells whether that made a
  -- constraint
  pub record AddsConstraint {E : Type 0} (from to : ℕ) (result : Result Bool E)
      (old new : State V D (CdtEdge U) F) : Type 0 where
    pub plain : OnOk result (Adds place (constrained old) (constrained new) from to)
    pub told :
        IfOk result (λ made. IsTrue made ↔ (¬ SamePairs (constraints_of old) (constraints_of new)))
    pub none_made : IfOk result (λ made. (¬ IsTrue made) → new ≡ old)
    pub «data» : OnOk result (MarksEdges old new)
    pub err : OnErr result (new ≡ old)

  -- the same where a constraint may cross: where one does, the result is none, and nothing changed
  abbrev pub AddsIfFree : {E : Type 0} → ℕ → ℕ → Result (Option Bool) E
      → (old new : State V D (CdtEdge U) F) → Type 0
  AddsIfFree {E = E} from to result old new =
      MatchResult result (λ r. MatchOption r
      ((¬ CanAdd place (constrained old) from to) × (new ≡ old))
      (λ made. AddsConstraint {E = E} from to (Ok made) old new))
      (λ e. CanAdd place (constrained old) from to × (new ≡ old))

  -- a constraint may cross, and the edges of the path are told: none, and no change, where one does
  -- or where the two vertices are one
  pub record AddsPathIfFree (from to : ℕ) (edges : List ℕ)
      (old new : State V D (CdtEdge U) F) : Type 0 where
    pub refused : (from ≡ to) ⊎ (¬ CanAdd place (constrained old) from to)
        → (edges ≡ []) × (new ≡ old)
    pub plain : from ≢ to → CanAdd place (constrained old) from to →
        Adds place (constrained old) (constrained new) from to
    pub along : from ≢ to → CanAdd place (constrained old) from to →
        LeadAlong (map place new.vertices) new.mesh from to edges
    pub «data» : MarksEdges old new

  -- to release an edge gave this result, which tells whether it was a constraint. Where it was
  -- none, nothing changed
  pub record ReleasesConstraint {E : Type 0} (edge : ℕ) (result : Result Bool E)
      (old new : State V D (CdtEdge U) F) : Type 0 where
    pub none : (¬ Contains (constraint_edges old.undirected) edge)
        → (result ≡ Ok false) × (new ≡ old)
    pub told : IfOk result (λ was. IsTrue was ↔ Contains (constraint_edges old.undirected) edge)
    pub plain : Contains (constraint_edges old.undirected) edge →
        OnOk result (Releases place (constrained old) (constrained new) (origin old.mesh (2 * edge))
        (origin old.mesh (rev (2 * edge))))
    pub «data» : Contains (constraint_edges old.undirected) edge
        → OnOk result (FreesEdge old new edge)
    pub err : OnErr result (new ≡ old)
