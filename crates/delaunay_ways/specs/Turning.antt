-- Where a chain of positions over vertices turns.
use Rattle.std.specs.Prelude.{ℕ, ℤ, List, [], ◌∷◌}
use Rattle.plane.specs.{Point, Triangulation}
use Rattle.delaunay_core.specs.{place_of}
use Rattle.delaunay_ways.specs.{declared.turns.Turn.Turn, Ways.point_at}

-- each of its positions is covered
pub record IsTurnOf {S : Type 0} (IsCovered : Point → Type 0) (number : S → ℤ) (turn : Turn S) :
    Type 0 where
  pub first : IsCovered (place_of number turn.first)
  pub at : IsCovered (place_of number turn.at)
  pub last : IsCovered (place_of number turn.last)

-- where a chain from p over these vertices is at the last one
abbrev pub end_place : Triangulation → Point → List ℕ → Point
end_place t p [] = p
end_place t p (v ∷ vs) = end_place t (point_at t.points v) vs
