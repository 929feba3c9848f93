-- What becomes of the edges of a mesh, with their data, where it grows.
use Rattle.std.specs.Prelude.{◌≡◌, ◌≢◌, ◌⊎◌, ℕ, ◌≤◌, List, length, Some, slice_get}
use Rattle.{half_edge_dcel.specs.Edge, plane.specs.IsSamePair}

-- each edge stays, and the data of those that are added are as P says
pub record AddsOnly {U : Type 0} (P : U → Type 0) (old new : List (Edge U)) : Type 0 where
  pub kept : (l : ℕ) (e : Edge U) → slice_get old l ≡ Some e → slice_get new l ≡ Some e
  pub added : (l : ℕ) (e : Edge U) → slice_get new l ≡ Some e
      → (slice_get old l ≡ Some e) ⊎ P e.value

-- edge k, between near and far, is split at vertex v: the first half joins near and v and has its
-- data, and the second, at an index of its own, joins far and v. Each other edge stays, and the
-- data of all that is new are as P says
pub record SplitsAt {U : Type 0} (P : U → Type 0) (old new : List (Edge U))
    (k v second : ℕ) : Type 0 where
  pub edge : Edge U
  pub was : slice_get old k ≡ Some edge
  pub near : ℕ
  pub far : ℕ
  pub ends : IsSamePair edge.source edge.target near far
  pub first : ℕ
  pub first_half : Edge U
  pub first_is : slice_get new first ≡ Some first_half
  pub first_ends : IsSamePair first_half.source first_half.target near v
  pub first_value : first_half.value ≡ edge.value
  pub second_half : Edge U
  pub second_is : slice_get new second ≡ Some second_half
  pub second_ends : IsSamePair second_half.source second_half.target far v
  pub second_value : P second_half.value
  pub late : length old ≤ second
  pub kept : (l : ℕ) (e : Edge U) → l ≢ k → slice_get old l ≡ Some e → slice_get new l ≡ Some e
  pub added : (l : ℕ) (e : Edge U) → slice_get new l ≡ Some e
      → ((l ≢ k) × (slice_get old l ≡ Some e)) ⊎ ((l ≡ first) ⊎ P e.value)
