pub use Rattle.delaunay_legalization.proofs as delaunay_legalization_lemmas
pub mod Edited
pub mod Filtered
pub mod Held
pub mod Told
pub mod Widths
