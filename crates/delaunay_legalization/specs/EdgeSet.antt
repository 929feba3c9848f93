-- Sets of edges in which each edge has a flag while it is listed.
use Rattle.std.specs.Prelude.{◌≡◌, ◌≢◌, ◌≤◌, ◌*◌, ℕ, true, List, length, AllPairs, Contains}
use Rattle.delaunay_legalization.specs.Bits.{has_bit}

-- what a contract sees of one: the edges in the order in which they were put there, and how many
-- indexes of edges there is room for
pub record EdgesInSet : Type 0 where
  pub items : List ℕ
  pub room : ℕ

-- each edge is listed once, exactly those that are have their flag, which is a bit in words of 64,
-- and each edge with a flag fits in the list
pub record AreFlagged (items flags : List ℕ) (capacity : ℕ) : Type 0 where
  pub once : AllPairs (λ i j. i ≢ j) items
  pub flagged : (k : ℕ) → Contains items k → has_bit flags k ≡ true
  pub listed : (k : ℕ) → has_bit flags k ≡ true → Contains items k
  pub fits : 64 * length flags ≤ capacity
