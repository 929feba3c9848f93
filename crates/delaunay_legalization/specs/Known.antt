-- Positions by index.
-- point_at points i: the point with index i; (0, 0) past the end of the list
-- IsKnown points p: p is one of the points
-- IsVertexSite IsSite points v p: p is the position of vertex v, and a site
use Rattle.std.specs.Prelude.{◌≡◌, ℕ, ◌<◌, List, length, pos, slice_index_or}
use Rattle.plane.specs.{Point}

-- the point of an index (at an index past the end, (0, 0))
abbrev pub point_at : List Point → ℕ → Point
point_at points i = slice_index_or points i (record { x = pos 0; y = pos 0 })

-- one of the points is p
pub record IsKnown (points : List Point) (p : Point) : Type 0 where
  pub index : ℕ
  pub below : index < length points
  pub here : point_at points index ≡ p

-- p is the position of vertex v, and a site
pub record IsVertexSite (IsSite : Point → Type 0) (points : List Point) (v : ℕ)
    (p : Point) : Type 0 where
  pub place : p ≡ point_at points v
  pub site : IsSite p
