-- What a triangulation ends as, where a reference for writing to its data is given out.
use Rattle.std.specs.Prelude.{ℕ, zero, suc, List, slice_set}
use Rattle.delaunay_legalization.specs.State.{State}

module _ {V D U F : Type 0} where
  -- other data of a directed edge
  abbrev pub with_directed_data : State V D U F → ℕ → D → State V D U F
  with_directed_data s e w = record s { directed = slice_set s.directed e w }

  -- other data of the undirected edges
  abbrev pub with_undirected_data : State V D U F → List U → State V D U F
  with_undirected_data s us = record s { undirected = us }

  -- other data of a face, the outer one among them
  abbrev pub with_face_data : State V D U F → ℕ → F → State V D U F
  with_face_data s zero w = record s { outer = w }
  with_face_data s (suc f) w = record s { faces = slice_set s.faces f w }
