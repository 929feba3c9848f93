-- Fraction points and their brackets, points of a segment in their order, and the hull of a list.
pub mod Numbers
pub mod Members
pub mod Bracket
pub mod Nudges
pub mod AlongSegment
pub mod Hull
