-- Points by index.
use Rattle.std.specs.Prelude.{ℕ, List, pos, slice_index_or}
use Rattle.plane.specs.{Point}

-- the point of an index (at an index past the end, (0, 0))
abbrev pub point_at : List Point → ℕ → Point
point_at points i = slice_index_or points i (record { x = pos 0; y = pos 0 })
