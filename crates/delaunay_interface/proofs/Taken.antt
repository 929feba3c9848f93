-- What an iterator that takes from both ends has left.
pub use Rattle.half_edge_dcel.proofs.Taken.{length_each}
