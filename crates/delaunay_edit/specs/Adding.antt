-- What becomes of a triangulation where the subconstraints of a path between two of its vertices
-- become constraints.
use Rattle.std.specs.Prelude.{◌≡◌, ◌⊎◌, ◌<◌}
use Rattle.std.specs.Prelude.{ℕ, Bool, true, false, List, length, map, Some, slice_get, slice_set}
use Rattle.plane.specs.{Adds, CanAdd, Cross, Joins, place, Point}
use Rattle.half_edge_dcel.specs.{Contents}
use Rattle.delaunay_legalization.specs.{IsTriangulated, points_and_constraints_by, state_of}
use Rattle.delaunay_edit.specs.Kept.{KeepsUncrossed, KeepsUncrossedFaces}

-- no pair crosses the segment of i and j
abbrev pub NoneCrosses : List Point → List (ℕ × ℕ) → ℕ → ℕ → Type 0
NoneCrosses points pairs i j =
    (a b : ℕ) → Joins pairs a b
    → ¬ Cross (place points i) (place points j) (place points a) (place points b)

-- the same of a mesh, in the words of plain states
abbrev pub CanAddPath : {V D U F : Type 0} → (V → Point) → (List U → List ℕ) → Contents V D U F
    → ℕ → ℕ → Type 0
CanAddPath at constraints c i j = CanAdd at (points_and_constraints_by constraints (state_of c)) i j

-- i and j are vertices, and no constraint crosses their segment
pub record HasFreeWay {V D U F : Type 0} (at : V → Point) (constraints : List U → List ℕ)
    (c : Contents V D U F) (i j : ℕ) : Type 0 where
  pub from : i < length c.vertices
  pub to : j < length c.vertices
  pub free : CanAddPath at constraints c i j

-- undirected edge k has the mark: its data are the old ones, or these with the mark where they had
-- none. All else is as it was
pub record MarksEdge {V D U F : Type 0} (marks : U → Bool) (marked : U → U)
    (old new : Contents V D U F) (k : ℕ) : Type 0 where
  pub value : U
  pub was : slice_get old.undirected k ≡ Some value
  pub after : U
  pub mark : marks after ≡ true
  pub same : (after ≡ value) ⊎ ((marks value ≡ false) × (after ≡ marked value))
  pub whole : new ≡ record old { undirected = slice_set old.undirected k after }

-- each edge has the data that it had, or these with the mark where they had none
abbrev pub MarksSome : {U : Type 0} → (U → Bool) → (U → U) → List U → List U → Type 0
MarksSome {U = U} marks marked old new =
    (k : ℕ) (d : U) → slice_get old k ≡ Some d → (slice_get new k ≡ Some d) ⊎
    ((marks d ≡ false) × (slice_get new k ≡ Some (marked d)))

-- the subconstraints of the path from i to j became constraints, and what does not cross it stays
pub record AddsPath {V D U F : Type 0} (at : V → Point) (marks : U → Bool) (marked : U → U)
    (constraints : List U → List ℕ) (old new : Contents V D U F) (i j : ℕ) : Type 0 where
  pub contents : new ≡ record old { mesh = new.mesh; undirected = new.undirected }
  pub marks_some : MarksSome marks marked old.undirected new.undirected
  pub plain : Adds at (points_and_constraints_by constraints (state_of old))
      (points_and_constraints_by constraints (state_of new)) i j
  pub kept : IsTriangulated at (state_of new)
  pub edges_kept : KeepsUncrossed (map at old.vertices) old.mesh new.mesh i j
  pub faces_kept : KeepsUncrossedFaces (map at old.vertices) old.mesh new.mesh i j
