-- What a path leaves to the circle test.
use Rattle.std.specs.Prelude.{◌≡◌, ◌⊎◌, ℕ, ◌<◌, ◌≤◌, List, length}
use Rattle.plane.specs.{Cross, Face, Joins, place, Point}
use Rattle.plane_theorems.specs.{AllPassBut, crossing_sum, IsFaceOf, IsMesh, Pass}
use Rattle.{half_edge_dcel.specs.Contents, half_edge_links.specs.Mesh}
use Rattle.delaunay_legalization.specs.{AreEdges, faces_of, outer_of, pairs_at}
use Rattle.delaunay_edit.specs.Kept.{KeepsUncrossed, KeepsUncrossedFaces}

-- the segment from i to j crosses a side of the face a b k
abbrev pub IsCrossedFace : List Point → ℕ → ℕ → ℕ → ℕ → ℕ → Type 0
IsCrossedFace points i j a b k =
    Cross (place points i) (place points j) (place points a) (place points b)
    ⊎ (Cross (place points i) (place points j) (place points b) (place points k)
    ⊎ Cross (place points i) (place points j) (place points k) (place points a))

-- each edge between two faces of which the segment from i to j crosses no side passes, but perhaps
-- constraints and those that are left to test
abbrev pub AllPassAway : List Point → List Face → List (ℕ × ℕ) → List (ℕ × ℕ) → ℕ → ℕ → Type 0
AllPassAway points faces constraints left i j =
    (a b k l : ℕ) → IsFaceOf faces a b k → IsFaceOf faces b a l → ¬ IsCrossedFace points i j a b k
    → ¬ IsCrossedFace points i j b a l → ¬ Joins constraints a b → ¬ Joins left a b
    → Pass points a b k l

-- the work list is one of edges of the mesh, each once, and has room for all
pub record IsWorkList {V D U F : Type 0} (c : Contents V D U F) (items : List ℕ)
    (capacity : ℕ) : Type 0 where
  pub edges : AreEdges c.mesh items
  pub room : length c.undirected ≤ capacity

-- a flip towards the segment from i to j: the sum over the edges that cross it falls, and each edge
-- that does not cross it and may fail is left to test, whatever the constraints are
pub record TurnsTowards {V D U F : Type 0} (points : List Point) (old new : Contents V D U F)
    (i j : ℕ) (was left : List ℕ) : Type 0 where
  pub contents : new ≡ record old { mesh = new.mesh }
  pub shape : IsMesh points (faces_of new.mesh) (outer_of new.mesh)
  pub kept : KeepsUncrossed points old.mesh new.mesh i j
  pub faces_kept : KeepsUncrossedFaces points old.mesh new.mesh i j
  pub lower : crossing_sum points (faces_of new.mesh) i j
      < crossing_sum points (faces_of old.mesh) i j
  pub edges : AreEdges new.mesh left
  pub leaves : (constraints : List (ℕ × ℕ))
      → AllPassAway points (faces_of old.mesh) constraints (pairs_at old.mesh was) i j
      → AllPassAway points (faces_of new.mesh) constraints (pairs_at new.mesh left) i j

-- each edge between two faces that may fail is left to test, whatever the constraints are
abbrev pub LeavesFailing : List Point → (old new : Mesh) → (was left : List ℕ) → Type 0
LeavesFailing points old new was left =
    (constraints : List (ℕ × ℕ)) → AllPassBut points (faces_of old) constraints (pairs_at old was)
    → AllPassBut points (faces_of new) constraints (pairs_at new left)

-- the edges that are left to test are edges of the mesh, each once, and each edge that may fail is
-- one of them
pub record LeavesToTest {V D U F : Type 0} (points : List Point) (old new : Contents V D U F)
    (was left : List ℕ) : Type 0 where
  pub edges : AreEdges new.mesh left
  pub leaves : LeavesFailing points old.mesh new.mesh was left
