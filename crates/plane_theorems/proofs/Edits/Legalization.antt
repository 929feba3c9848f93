-- Flips of the edges that fail the circle test: what one does, and that they come to an end.
pub mod Flips
pub mod Heights
pub mod Legal
pub mod Flipping
pub mod EmptyRound
pub mod NewPoint
pub mod Away
pub mod FlipHistory
