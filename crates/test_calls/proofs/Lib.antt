mod Asked
mod FlipCounts
