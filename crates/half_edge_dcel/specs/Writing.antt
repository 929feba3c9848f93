-- What a mesh ends as, where a reference for writing to its data is given out.
use Rattle.std.specs.Prelude.{ℕ, zero, suc, slice_set}
use Rattle.half_edge_dcel.specs.MeshContents.{Contents}

module _ {V D U F : Type 0} where
  -- the mesh with other data of a directed edge
  abbrev pub with_directed : Contents V D U F → ℕ → D → Contents V D U F
  with_directed c e w = record c { directed = slice_set c.directed e w }

  -- the mesh with other data of an undirected edge
  abbrev pub with_undirected : Contents V D U F → ℕ → U → Contents V D U F
  with_undirected c e w = record c { undirected = slice_set c.undirected e w }

  -- the mesh with other data of the outer face
  abbrev pub with_outer : Contents V D U F → F → Contents V D U F
  with_outer c w = record c { outer = w }

  -- the mesh with other data of a face, the outer one among them
  abbrev pub with_face : Contents V D U F → ℕ → F → Contents V D U F
  with_face c zero w = with_outer c w
  with_face c (suc f) w = record c { faces = slice_set c.faces f w }
