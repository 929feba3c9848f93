-- The flips of insertions fit in a count of 64 bits.
pub use Rattle.delaunay_legalization.proofs.Flips.{counted_flips}
