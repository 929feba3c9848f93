-- For callers of insert_counting: the flips of insertions fit in a count of 64 bits.
pub use Rattle.delaunay_legalization.proofs.Flips.{counted_flips}
pub use Rattle.delaunay_legalization.proofs.Flips.{first_count_is_small}
pub use Rattle.delaunay_legalization.proofs.Flips.{flips_fit}
