-- How many vertices are nearer to a point than a vertex is.
use Rattle.std.specs.Prelude.{ℕ, Bool, ◌*ℤ◌, count_by, int_lt}
use Rattle.plane.specs.{Fraction, gap, Triangulation, vertex, whole}

-- whether p is strictly nearer to c than q is
abbrev pub is_nearer : Fraction → Fraction → Fraction → Bool
is_nearer c p q = int_lt (gap c p *ℤ (q.w *ℤ q.w)) (gap c q *ℤ (p.w *ℤ p.w))

-- the number of vertices that are strictly nearer to p than vertex i is
abbrev pub nearer_count : Triangulation → Fraction → ℕ → ℕ
nearer_count t p i = count_by (λ q. is_nearer p (whole q) (vertex t i)) t.points
