-- The edges of a mesh that are still to be tested while it is legalised.
-- pair_at m k, pairs_at m ks: the ends of undirected edge k; of each edge of a list
-- AreEdges m ks: ks are undirected edges of the mesh, each once
-- IsFailing points m e: e lies between two inner faces and fails the circle test
-- Gains old new k: the list has its former entries, and k
-- GainsRound m e old new: it has its former entries, and the four edges around the two faces at e
-- IsPartlyLegal: each edge passes but constraints and those left to test, after so many flips
-- steps_left points m left: a number that falls with each step
use Rattle.std.specs.Prelude.{◌≡◌, ◌≢◌, ◌⊎◌, ◌+◌, ◌*◌, ◌/◌, ◌<◌}
use Rattle.std.specs.Prelude.{ℕ, List, length, map, Contains, AllPairs}
use Rattle.plane.specs.{InsideCircle, place, Point}
use Rattle.half_edge_links.specs.{face, Mesh, next, origin, prev, rev}
use Rattle.plane_theorems.specs.{AllPassBut, AreAway, IsMesh, lifted_volume}
use Rattle.delaunay_legalization.specs.{Drawn.faces_of, Drawn.outer_of, Stays.StaysBut}

-- the vertices that undirected edge k joins
abbrev pub pair_at : Mesh → ℕ → ℕ × ℕ
pair_at m k = (origin m (2 * k), origin m (rev (2 * k)))

-- the vertices that each of these undirected edges joins
abbrev pub pairs_at : Mesh → List ℕ → List (ℕ × ℕ)
pairs_at m ks = map (pair_at m) ks

-- directed edge e lies between two inner faces, and the corner opposite it on its right is inside
-- the circle of the face on its left
pub record IsFailing (points : List Point) (m : Mesh) (e : ℕ) : Type 0 where
  pub inner : 0 < face m e
  pub twin_inner : 0 < face m (rev e)
  pub inside : InsideCircle (place points (origin m e)) (place points (origin m (next m e)))
      (place points (origin m (prev m e))) (place points (origin m (prev m (rev e))))

-- undirected edges of the mesh, each once
pub record AreEdges (m : Mesh) (ks : List ℕ) : Type 0 where
  pub within : (k : ℕ) → Contains ks k → 2 * k < length m.half_edges
  pub once : AllPairs (λ i j. i ≢ j) ks

-- each edge passes the circle test but perhaps constraints and those left to test, after a mesh
-- became m by flips whose count went from start to flips
pub record IsPartlyLegal (points : List Point) (constraints : List (ℕ × ℕ)) (was m : Mesh)
    (left_to_test : List ℕ) (start flips : ℕ) : Type 0 where
  pub shape : IsMesh points (faces_of m) (outer_of m)
  pub edges : AreEdges m left_to_test
  pub passing : AllPassBut points (faces_of m) constraints (pairs_at m left_to_test)
  pub away : List (ℕ × ℕ)
  pub are_away : AreAway points (faces_of m) away
  pub count : start + length away ≡ flips
  pub stays : StaysBut away was m

-- a number that falls with each step
abbrev pub steps_left : List Point → Mesh → List ℕ → ℕ
steps_left points m left_to_test =
    lifted_volume points (faces_of m) * (length m.half_edges + 1) + length left_to_test

-- the entries of old, and k, each once if they were
pub record Gains (old new : List ℕ) (k : ℕ) : Type 0 where
  pub kept : (j : ℕ) → Contains old j → Contains new j
  pub there : Contains new k
  pub only : (j : ℕ) → Contains new j → (j ≡ k) ⊎ Contains old j
  pub once : AllPairs (λ i j. i ≢ j) old → AllPairs (λ i j. i ≢ j) new

-- the entries of old, and the four edges round directed edge e
pub record GainsRound (m : Mesh) (e : ℕ) (old new : List ℕ) : Type 0 where
  pub kept : (j : ℕ) → Contains old j → Contains new j
  pub next_there : Contains new (next m e / 2)
  pub prev_there : Contains new (prev m e / 2)
  pub twin_next_there : Contains new (next m (rev e) / 2)
  pub twin_prev_there : Contains new (prev m (rev e) / 2)
