-- How the data of a mesh change where it grows.
use Rattle.std.specs.Prelude.{◌≡◌, [], ◌∷◌, ◌++◌}
use Rattle.std.specs.Prelude.{ℕ, zero, suc, List, length, All, Some, slice_get, slice_set}
use Rattle.half_edge_links.specs.{Ends}
use Rattle.half_edge_dcel.specs.MeshContents.{Edge, edge_with, edges_of}

-- the old list, and so many new items, each of which is as P says
pub record Grows {X : Type 0} (P : X → Type 0) (old new : List X) (more : ℕ) : Type 0 where
  pub added : List X
  pub whole : new ≡ old ++ added
  pub count : length added ≡ more
  pub each : All P added

-- the ends of an edge from a to b
abbrev pub joins : ℕ → ℕ → Ends
joins a b = record { source = a; target = b }

-- the old edges, and new ones with these ends, whose data are as P says
pub record AddsEdges {U : Type 0} (P : U → Type 0) (old new : List (Edge U))
    (added : List Ends) : Type 0 where
  pub values : List U
  pub count : length values ≡ length added
  pub each : All P values
  pub whole : new ≡ old ++ edges_of added values

-- edge k gets other ends and keeps its data
abbrev pub with_ends : {U : Type 0} → List (Edge U) → ℕ → Ends → List (Edge U)
with_ends [] k e = []
with_ends (x ∷ xs) zero e = edge_with e x.value ∷ xs
with_ends (x ∷ xs) (suc k) e = x ∷ with_ends xs k e

-- edge k gets other ends and new data, one new edge has its former data, and others are added; all
-- new data are as P says
pub record SplitsEdge {U : Type 0} (P : U → Type 0) (old new : List (Edge U)) (k : ℕ)
    (turned kept : Ends) (others : List Ends) : Type 0 where
  pub edge : Edge U
  pub was : slice_get old k ≡ Some edge
  pub made : U
  pub is_new : P made
  pub values : List U
  pub count : length values ≡ length others
  pub each : All P values
  pub whole : new ≡ slice_set old k (edge_with turned made) ++ edge_with kept edge.value
      ∷ edges_of others values

-- item i gives way to a new one and comes first after the old ones, and so many new ones follow;
-- all new ones are as P says
pub record MovesItem {X : Type 0} (P : X → Type 0) (old new : List X) (i more : ℕ) : Type 0 where
  pub kept : X
  pub was : slice_get old i ≡ Some kept
  pub made : X
  pub is_new : P made
  pub added : List X
  pub count : length added ≡ more
  pub each : All P added
  pub whole : new ≡ slice_set old i made ++ kept ∷ added

-- items i and j give way to new ones and come first after the old ones, and so many new ones
-- follow; all new ones are as P says
pub record MovesTwoItems {X : Type 0} (P : X → Type 0) (old new : List X)
    (i j more : ℕ) : Type 0 where
  pub kept : X
  pub was : slice_get old i ≡ Some kept
  pub also_kept : X
  pub also_was : slice_get old j ≡ Some also_kept
  pub made : X
  pub is_new : P made
  pub also_made : X
  pub also_new : P also_made
  pub added : List X
  pub count : length added ≡ more
  pub each : All P added
  pub whole : new ≡ slice_set (slice_set old i made) j also_made ++ kept ∷ also_kept ∷ added
