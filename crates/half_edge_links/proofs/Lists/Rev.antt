-- The reverse of a directed edge, by its index.
-- rev-rev: the reverse of the reverse is the edge
-- rev_differs: no edge is its own reverse
-- rev_within: below an even bound, the reverse is below it too
-- rev_same: edges with the same reverse are the same
use Rattle.std.proofs.Common.{◌≡◌, ◌≢◌, ℕ, ◌%◌, ◌<◌, sym, ap, ◌∙◌, arith}
use Rattle.std.proofs.lemmas.Grind.{common_steps}
use Rattle.half_edge_links.specs.{rev}

-- the reverse of the reverse of a directed edge is the edge
pub rev-rev : (h : ℕ) → rev (rev h) ≡ h
rev-rev h = grind (arith, common_steps)

-- no directed edge is its own reverse
pub rev_differs : (h : ℕ) → rev h ≢ h
rev_differs h = grind (arith, common_steps)

-- the reverse of an edge below an even bound is below it too
pub rev_within : (h n : ℕ) → n % 2 ≡ 0 → h < n → rev h < n
rev_within h n even within = grind (arith, common_steps)

-- directed edges with the same reverse are the same
pub rev_same : (h g : ℕ) → rev h ≡ rev g → h ≡ g
rev_same h g same = sym (rev-rev h) ∙ ap rev same ∙ rev-rev g
