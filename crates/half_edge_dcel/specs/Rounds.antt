-- The edges of a vertex and of the outer loop, and what iterators over them have left.
use Rattle.std.specs.Prelude.{◌≡◌, ◌≢◌, ◌<◌, []}
use Rattle.std.specs.Prelude.{ℕ, List, length, map, Some, None}
use Rattle.std.specs.List.{range_with_len}
use Rattle.std.specs.Borrow.{Bor}
use Rattle.half_edge_links.specs.{face, HasOneOutline, IsRound, iterate, Mesh, next, out_edge}
use Rattle.half_edge_links.specs.{spoke, turn}
use Rattle.half_edge_dcel.specs.Left.{each_in}
use Rattle.half_edge_dcel.specs.{declared.rounds.HullIterator.HullIterator, MeshContents.Contents}
use Rattle.half_edge_dcel.specs.{declared.rounds.CircularIterator.CircularIterator, Walks.walk_left}

-- the edges of a vertex that an iterator has still to give, against the clock
abbrev pub out_edges_left : {V D U F : Type 0} → CircularIterator V D U F
    → List (Bor (Contents V D U F) × ℕ)
out_edges_left it = walk_left turn it.walk

-- the outer edges that an iterator has still to give, along the outer loop
abbrev pub hull_left : {V D U F : Type 0} → HullIterator V D U F → List (Bor (Contents V D U F) × ℕ)
hull_left it = walk_left next it.walk

-- the edges that start at vertex v, against the clock, each once
pub record GivesRound {V D U F : Type 0} (dcel : Bor (Contents V D U F)) (v : ℕ)
    (given : List (Bor (Contents V D U F) × ℕ)) : Type 0 where
  pub alone : out_edge dcel.now.mesh v ≡ None → given ≡ []
  pub round : (first : ℕ) → out_edge dcel.now.mesh v ≡ Some first
      → (count : ℕ) × IsRound dcel.now.mesh v first count
      × (given ≡ each_in dcel (map (spoke dcel.now.mesh first) (range_with_len 0 count)))

-- so many edges follow each other from edge first on, each once and with the outer face on its
-- left, and then the first comes again; where the outer face has one loop, these are all its edges
pub record IsOuterLoop (m : Mesh) (first count : ℕ) : Type 0 where
  pub some : 0 < count
  pub back : iterate (next m) count first ≡ first
  pub within : (i : ℕ) → iterate (next m) i first < length m.half_edges
  pub outer : (i : ℕ) → face m (iterate (next m) i first) ≡ 0
  pub apart : (i j : ℕ) → i < j → j < count → iterate (next m) i first ≢ iterate (next m) j first
  pub all : HasOneOutline m → (h : ℕ) → h < length m.half_edges → face m h ≡ 0
      → (i : ℕ) × (i < count) × (h ≡ iterate (next m) i first)

-- the outer loop from the edge on that the outer face names
pub record GivesOuterLoop {V D U F : Type 0} (dcel : Bor (Contents V D U F))
    (given : List (Bor (Contents V D U F) × ℕ)) : Type 0 where
  pub empty : dcel.now.mesh.outer_edge ≡ None → given ≡ []
  pub loop : (first : ℕ) → dcel.now.mesh.outer_edge ≡ Some first
      → (count : ℕ) × IsOuterLoop dcel.now.mesh first count × (given
      ≡ each_in dcel (map (λ i. iterate (next dcel.now.mesh) i first) (range_with_len 0 count)))
