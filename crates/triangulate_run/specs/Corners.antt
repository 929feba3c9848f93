-- The corners of faces: from the least on, and their order.
use Rattle.std.specs.Prelude.{◌≡◌, ◌⊎◌, ℕ, ◌<◌, nat_lt, ◌&&◌, if◌then◌else◌}
use Rattle.triangulate_run.specs.declared.corners.Corners.{Corners}

-- three corners in this order
abbrev pub corners : ℕ → ℕ → ℕ → Corners
corners a b c = record { first = a; second = b; third = c }

-- three different corners from the least on, in the same turning order
abbrev pub least_first : ℕ → ℕ → ℕ → Corners
least_first a b c = if nat_lt a b && nat_lt a c then corners a b c else
    (if nat_lt b c then corners b c a else corners c a b)

-- c comes before d by the three numbers
abbrev pub ComesFirst : Corners → Corners → Type 0
ComesFirst c d = (c.first < d.first) ⊎ ((c.first ≡ d.first)
    × ((c.second < d.second) ⊎ ((c.second ≡ d.second) × (c.third < d.third))))
