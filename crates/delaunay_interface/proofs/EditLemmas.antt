-- Lemmas on edits of a mesh, for the crates above.
pub use Rattle.delaunay_edit.proofs.Copies.{same_image}
pub use Rattle.delaunay_edit.proofs.Overwriting.{same_places}
pub use Rattle.delaunay_edit.proofs.Removing.{sites_left}
