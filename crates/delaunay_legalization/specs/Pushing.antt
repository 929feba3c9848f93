-- What is put into work lists of undirected edges.
use Rattle.std.specs.Prelude.{ℕ, ◌/◌, List, Contains}
use Rattle.half_edge_links.specs.{Mesh, next, prev, rev}

-- the entries of old are there
abbrev pub KeepsEntries : List ℕ → List ℕ → Type 0
KeepsEntries old new = (j : ℕ) → Contains old j → Contains new j

-- the entries of old, and the edge of directed edge h where it is among these
pub record GainsAmong (among : List ℕ) (h : ℕ) (old new : List ℕ) : Type 0 where
  pub kept : KeepsEntries old new
  pub there : Contains among (h / 2) → Contains new (h / 2)

-- so for the four edges round directed edge e
pub record GainsRoundAmong (m : Mesh) (among : List ℕ) (e : ℕ) (old new : List ℕ) : Type 0 where
  pub kept : KeepsEntries old new
  pub next_there : Contains among (next m e / 2) → Contains new (next m e / 2)
  pub prev_there : Contains among (prev m e / 2) → Contains new (prev m e / 2)
  pub twin_next_there : Contains among (next m (rev e) / 2) → Contains new (next m (rev e) / 2)
  pub twin_prev_there : Contains among (prev m (rev e) / 2) → Contains new (prev m (rev e) / 2)
