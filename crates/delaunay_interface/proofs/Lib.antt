pub use Rattle.plane.proofs as plane
pub use Rattle.plane_theorems.proofs as plane_theorems
pub use Rattle.half_edge_links.proofs as half_edge_links_lemmas
pub use Rattle.delaunay_core.proofs as delaunay_core_lemmas
pub use Rattle.delaunay_legalization.proofs as delaunay_legalization_lemmas
pub use Rattle.delaunay_location.proofs as delaunay_location_lemmas
pub use Rattle.delaunay_edit.proofs as delaunay_edit_lemmas
pub mod Held
pub mod EditLemmas
pub mod Locating
pub mod Stepping
pub mod Kept
pub mod Faces
pub mod Outlines
mod Taken
