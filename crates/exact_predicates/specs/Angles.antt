-- The angle between the ways from a point to two others.
use Rattle.std.specs.Prelude.{ℤ, ◌+ℤ◌, ◌-ℤ◌, ◌*ℤ◌}
use Rattle.plane.specs.{Point}

-- the scalar product of the ways from q to u and from q to v
abbrev pub dot_at : Point → Point → Point → ℤ
dot_at q u v = (u.x -ℤ q.x) *ℤ (v.x -ℤ q.x) +ℤ (u.y -ℤ q.y) *ℤ (v.y -ℤ q.y)
