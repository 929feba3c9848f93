use Rattle.delaunay_interface.proofs.Faces.{row_inner}
use Rattle.delaunay_interface.proofs.inner_faces.InnerFaceIterator.new.Goals as goal

pub invariant_of-result : goal.invariant_of-result
invariant_of-result g c = record { inner = row_inner _ _ c.fixed_inner_faces.ensures }
