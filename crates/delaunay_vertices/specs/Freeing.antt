-- What becomes of a mesh where the edges of a vertex cease to be constraints.
use Rattle.std.specs.Prelude.{◌≡◌, ◌≢◌, ℕ, ◌*◌, ◌<◌, Bool, false, length, Some, slice_get}
use Rattle.{half_edge_dcel.specs.Contents, half_edge_links.specs.origin, half_edge_links.specs.rev}

-- undirected edge k has no mark
abbrev pub IsUnmarked : {V D U F : Type 0} → (U → Bool) → Contents V D U F → ℕ → Type 0
IsUnmarked {U = U} marks c k = (d : U) → slice_get c.undirected k ≡ Some d → marks d ≡ false

-- no edge that starts at vertex v has the mark, nor one that ends there. Each other edge has its
-- data, and all else stays
pub record FreesEdgesAt {V D U F : Type 0} (marks : U → Bool) (old new : Contents V D U F)
    (v : ℕ) : Type 0 where
  pub contents : new ≡ record old { undirected = new.undirected }
  pub count : length new.undirected ≡ length old.undirected
  pub starting : (k : ℕ) → k < length old.undirected → origin old.mesh (2 * k) ≡ v
      → IsUnmarked marks new k
  pub ending : (k : ℕ) → k < length old.undirected → origin old.mesh (rev (2 * k)) ≡ v
      → IsUnmarked marks new k
  pub others : (k : ℕ) → origin old.mesh (2 * k) ≢ v → origin old.mesh (rev (2 * k)) ≢ v →
      slice_get new.undirected k ≡ slice_get old.undirected k
