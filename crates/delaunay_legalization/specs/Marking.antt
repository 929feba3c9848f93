-- What becomes of a mesh where the data of one edge change.
use Rattle.std.specs.Prelude.{◌≡◌, ℕ, Some, slice_get, slice_set}
use Rattle.half_edge_dcel.specs.{Contents}

-- undirected edge k has the data that change makes of the old ones, and all else is as it was
pub record HasEdgeData {V D U F : Type 0} (change : U → U) (old new : Contents V D U F)
    (k : ℕ) : Type 0 where
  pub value : U
  pub was : slice_get old.undirected k ≡ Some value
  pub whole : new ≡ record old { undirected = slice_set old.undirected k (change value) }
