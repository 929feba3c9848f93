-- What edits of a triangulation that C keeps make of it, by their statuses.
use Rattle.std.specs.Prelude.{◌≡◌, ◌<◌, [], ℕ, List, length, Option, Some, false, true}
use Rattle.plane.specs.{Adds, CanAdd, Joins, Point, Releases, Removes, Unconstrains}
use Rattle.delaunay_legalization.specs.{points_and_constraints_by}
use Rattle.delaunay_legalization.specs.{declared.cdt_edge.CdtEdge.CdtEdge, State.State}
use Rattle.delaunay_edit.specs.{constrained, constraint_edges, constraints_of, none}
use Rattle.c_calls.specs.Kept.{IsKeptDelaunay, IsOfKind, kept_place, kept_state, kept_vertices}
use Rattle.c_calls.specs.declared.kept.AnyTriangulation.{AnyTriangulation}
use Rattle.c_calls.specs.declared.kept.AnyTriangulation.TheVariants.{Constrained, Plain}
use Rattle.c_calls.specs.declared.statuses.TheConstants.{CROSSING, IS_CONSTRAINED, IS_PLAIN}
use Rattle.c_calls.specs.declared.statuses.TheConstants.{NO_CONSTRAINT, NO_SUCH_VERTEX}
use Rattle.c_calls.specs.declared.statuses.TheConstants.{OUT_OF_MEMORY, WELL}

-- an open handle had a triangulation: it has what this edit made of it
pub record EditsAt (Edits : AnyTriangulation → AnyTriangulation → Type 0) (old : AnyTriangulation)
    (kept : Option AnyTriangulation) : Type 0 where
  pub new : AnyTriangulation
  pub is_kept : kept ≡ Some new
  pub edits : Edits old new
  pub headline : IsKeptDelaunay new

-- two vertices are there
abbrev pub AreThere : {V D U F : Type 0} → State V D U F → ℕ → ℕ → Type 0
AreThere s from to = (from < length s.vertices) × (to < length s.vertices)

module _ {V D U F : Type 0} (place : V → Point) (constraints : List U → List ℕ) where
  -- how a removal of a vertex ended
  pub data Removal (vertex status : ℕ) (old new : State V D U F) : Type 0 where
    removed : status ≡ WELL → Removes place (points_and_constraints_by constraints old)
        (points_and_constraints_by constraints new) vertex → Removal vertex status old new
    removal_of_none : status ≡ NO_SUCH_VERTEX → ¬ (vertex < length old.vertices) → new ≡ old
        → Removal vertex status old new
    removal_refused : status ≡ OUT_OF_MEMORY → vertex < length old.vertices → new ≡ old
        → Removal vertex status old new

module _ {V D U F : Type 0} (place : V → Point) where
  -- how the addition of constraints between two vertices ended
  pub data Addition (from to status : ℕ) (old new : State V D (CdtEdge U) F) : Type 0 where
    added : status ≡ WELL → Adds place (constrained old) (constrained new) from to
        → Addition from to status old new
    addition_of_none : status ≡ NO_SUCH_VERTEX → ¬ AreThere old from to → new ≡ old
        → Addition from to status old new
    addition_crossing : status ≡ CROSSING → AreThere old from to
        → ¬ CanAdd place (constrained old) from to → new ≡ old → Addition from to status old new
    addition_refused : status ≡ OUT_OF_MEMORY → CanAdd place (constrained old) from to → new ≡ old
        → Addition from to status old new

  -- how the release of the constraint between two vertices ended
  pub data Release (from to status : ℕ) (old new : State V D (CdtEdge U) F) : Type 0 where
    released : status ≡ WELL → Releases place (constrained old) (constrained new) from to
        → Release from to status old new
    release_of_none : status ≡ NO_SUCH_VERTEX → ¬ AreThere old from to → new ≡ old
        → Release from to status old new
    release_of_free : status ≡ NO_CONSTRAINT → AreThere old from to
        → ¬ Joins (constraints_of old) from to → new ≡ old → Release from to status old new
    release_refused : status ≡ OUT_OF_MEMORY → Joins (constraints_of old) from to → new ≡ old
        → Release from to status old new

-- a removal of a vertex from either type, which stays
abbrev pub RemovesKept : ℕ → ℕ → AnyTriangulation → AnyTriangulation → Type 0
RemovesKept vertex status (Plain a) (Plain b) = Removal kept_place none vertex status a b
RemovesKept vertex status (Constrained a) (Constrained b) =
    Removal kept_place constraint_edges vertex status a b
RemovesKept vertex status (Plain a) (Constrained b) = ⊥
RemovesKept vertex status (Constrained a) (Plain b) = ⊥

-- an addition of constraints. A plain triangulation refuses it
abbrev pub AddsKept : ℕ → ℕ → ℕ → AnyTriangulation → AnyTriangulation → Type 0
AddsKept from to status (Plain a) new = (status ≡ IS_PLAIN) × (new ≡ Plain a)
AddsKept from to status (Constrained a) (Constrained b) = Addition kept_place from to status a b
AddsKept from to status (Constrained a) (Plain b) = ⊥

-- a release of a constraint. A plain triangulation refuses it
abbrev pub ReleasesKept : ℕ → ℕ → ℕ → AnyTriangulation → AnyTriangulation → Type 0
ReleasesKept from to status (Plain a) new = (status ≡ IS_PLAIN) × (new ≡ Plain a)
ReleasesKept from to status (Constrained a) (Constrained b) =
    Release kept_place from to status a b
ReleasesKept from to status (Constrained a) (Plain b) = ⊥

-- all is at the same index: the vertices, and how edges and faces are linked
pub record KeepsIndexes {V D U T F : Type 0} (old : State V D U F) (new : State V D T F) : Type 0
  where
    pub vertices : new.vertices ≡ old.vertices
    pub mesh : new.mesh ≡ old.mesh

-- a plain triangulation was to become a constrained one, and a constrained one refuses that
abbrev pub AllowsConstraints : ℕ → AnyTriangulation → AnyTriangulation → Type 0
AllowsConstraints status (Plain a) (Constrained b) =
    (status ≡ WELL) × Unconstrains kept_place (kept_state (Plain a)) (constrained b)
    × KeepsIndexes a b
AllowsConstraints status (Plain a) (Plain b) = (status ≡ OUT_OF_MEMORY) × (b ≡ a)
AllowsConstraints status (Constrained a) new =
    (status ≡ IS_CONSTRAINED) × (new ≡ Constrained a)

-- two triangulations are of one kind
abbrev pub IsSameKind : AnyTriangulation → AnyTriangulation → Type 0
IsSameKind (Plain a) new = IsOfKind false new
IsSameKind (Constrained a) new = IsOfKind true new

-- all was forgotten, and the kind stayed
abbrev pub ClearsKept : ℕ → AnyTriangulation → AnyTriangulation → Type 0
ClearsKept status old new =
    (status ≡ WELL) × (kept_vertices new ≡ []) × IsSameKind old new
