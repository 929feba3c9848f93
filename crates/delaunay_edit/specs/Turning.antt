-- The corners round an edge that is to be turned towards a segment, by their positions.
use Rattle.plane.specs.{Point}

-- what a contract sees of a segment and of the corners round an edge: their positions, and the
-- tests
pub record Corners (P : Type 0) : Type 0 where
  pub from : Point
  pub to : Point
  pub start : Point
  pub behind : Point
  pub end : Point
  pub ahead : Point
  pub tests : P

-- the ends of the segment and the corners are covered
pub record AreCovered (IsCovered : Point → Type 0) (p q v x y z : Point) : Type 0 where
  pub from : IsCovered p
  pub to : IsCovered q
  pub start : IsCovered v
  pub behind : IsCovered x
  pub end : IsCovered y
  pub ahead : IsCovered z
