-- What is left of an iterator over inner faces.
use Rattle.std.specs.Prelude.{ℕ, List}
use Rattle.std.specs.Borrow.{Bor}
use Rattle.half_edge_dcel.specs.{Contents, each_in}
use Rattle.delaunay_interface.specs.declared.inner_faces.InnerFaceIterator.{InnerFaceIterator}

-- the inner faces that an iterator has still to give
abbrev pub inner_faces_left : {V D U F : Type 0} → InnerFaceIterator V D U F
    → List (Bor (Contents V D U F) × ℕ)
inner_faces_left it = each_in it.dcel it.rest
