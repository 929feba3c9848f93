-- The number of nearer vertices falls from a vertex to a nearer one.
-- Lemmas: nearer_count_falls.
use Rattle.std.proofs.Common.{◌≡◌, ℕ, ◌<◌, ◌≤◌, List, [], ◌∷◌, length, arith, ap, subst}
use mathlib.Core.Logic.{◌⊎◌, inl, inr}
use Rattle.std.specs.Prelude.{ℤ, pos, ◌<ℤ◌, ◌*ℤ◌, sum_by, ◌≤ℤ◌, cond, slice_index_or, int_lt}
use Rattle.std.proofs.lemmas.Int.{ints}
use Rattle.std.proofs.lemmas.List.Sums.{sum_by-cons}
use Rattle.std.proofs.lemmas.List.{get_or_default}
use Rattle.plane.specs.{Fraction, gap, IsNearer, IsVertex, Point, Triangulation, vertex, whole}
use Rattle.plane.proofs.{lt_or_ge_ℤ, test_false, test_true}
use Rattle.plane_theorems.specs.{nearer_count}
use Rattle.plane_theorems.proofs.Delaunay.Points.Members.{Member, member, sum_by-lt}

-- a sum of ones is the number of entries
ones : {X : Type 0} (xs : List X) → sum_by (λ _. 1) xs ≡ length xs
ones [] = λ _. 0
ones (x ∷ xs) = omega (arith, sum_by-cons (λ _. 1) x xs, ones xs)

-- 1 where a is below b
abbrev flag : ℤ → ℤ → ℕ
flag a b = cond (int_lt a b) 1 0

below : (a b : ℤ) → a <ℤ b → flag a b ≡ 1
below a b h = ap (λ t. cond t 1 0) (test_true a b h)

not_below : (a b : ℤ) → b ≤ℤ a → flag a b ≡ 0
not_below a b h = ap (λ t. cond t 1 0) (test_false a b h)

flag-le : (a b c : ℤ) → b <ℤ c → flag a b ≤ flag a c
flag-le a b c h = go (lt_or_ge_ℤ a b)
  where
    go : (a <ℤ b) ⊎ (b ≤ℤ a) → flag a b ≤ flag a c
    go (inl k) = omega (arith, below a b k, below a c (omega (arith, ints)))
    go (inr k) = omega (arith, not_below a b k)

flag-most : (a b : ℤ) → flag a b ≤ 1
flag-most a b = go (lt_or_ge_ℤ a b)
  where
    go : (a <ℤ b) ⊎ (b ≤ℤ a) → flag a b ≤ 1
    go (inl k) = omega (arith, below a b k)
    go (inr k) = omega (arith, not_below a b k)

flag-none : (b : ℤ) → flag b b < 1
flag-none b = omega (arith, not_below b b (omega (arith, ints)))

flag-lt : (b c : ℤ) → b <ℤ c → flag b b < flag b c
flag-lt b c h = omega (arith, not_below b b (omega (arith, ints)), below b c h)

-- from a vertex to a nearer one the number of nearer vertices falls, and it is below that of all
pub nearer_count_falls : (t : Triangulation) (p : Fraction) (i k : ℕ) → IsVertex t i → IsVertex t k
    → IsNearer p (vertex t k) (vertex t i)
    → (nearer_count t p k < nearer_count t p i) × (nearer_count t p i < length t.points)
nearer_count_falls t p i k hi hk near = (
  sum_by-lt (counted k) (counted i) (spot k) t.points (λ q. flag-le (far q) (far (spot k))
      (far (spot i)) near.nearer) (listed k hk) (flag-lt (far (spot k)) (far (spot i)) near.nearer),
  subst (λ n. nearer_count t p i < n) (ones t.points) (sum_by-lt (counted i) (λ _. 1) (spot i)
      t.points (λ q. flag-most (far q) (far (spot i))) (listed i hi) (flag-none (far (spot i)))),
)
  where
    origin : Point
    origin = record { x = pos 0; y = pos 0 }

    spot : ℕ → Point
    spot n = slice_index_or t.points n (record { x = pos 0; y = pos 0 })

    listed : (n : ℕ) → n < length t.points → Member (spot n) t.points
    listed n h = member (spot n) t.points (n, h, get_or_default t.points n (spot n) origin h)

    far : Point → ℤ
    far q = gap p (whole q) *ℤ (pos 1 *ℤ pos 1)

    counted : ℕ → Point → ℕ
    counted n q = flag (far q) (far (spot n))
