-- Where a point falls on the line of an edge.
use Rattle.std.specs.Prelude.{ℤ, ◌+ℤ◌, ◌-ℤ◌, ◌*ℤ◌}
use Rattle.plane.specs.{Point}

-- how far q falls along the way from p1 to p2, times the length of that way
abbrev pub along : Point → Point → Point → ℤ
along p1 p2 q = (p2.x -ℤ p1.x) *ℤ (q.x -ℤ p1.x) +ℤ (p2.y -ℤ p1.y) *ℤ (q.y -ℤ p1.y)
