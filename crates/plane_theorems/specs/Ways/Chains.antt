-- Chains of positions, each in sight of the next over free faces.
use Rattle.std.specs.Prelude.{ℕ, Bool, List, [], ◌∷◌}
use Rattle.plane.specs.{Fraction, Triangulation}
use Rattle.plane_theorems.specs.Sight.Sight.{IsInSight}

-- from p over these positions to q, each is in sight of the next
abbrev pub IsChain : Triangulation → (ℕ → Bool) → Fraction → List Fraction → Fraction → Type 0
IsChain t free p [] q = IsInSight t free p q
IsChain t free p (r ∷ rs) q = IsInSight t free p r × IsChain t free r rs q

-- some chain of positions leads from p to q
abbrev pub IsJoined : Triangulation → (ℕ → Bool) → Fraction → Fraction → Type 0
IsJoined t free p q = (inner : List Fraction) × IsChain t free p inner q
