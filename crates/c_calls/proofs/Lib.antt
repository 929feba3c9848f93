-- Handles, and the machine values behind them.
pub mod Values
pub mod Handles
-- How edits ended.
pub mod Inserted
pub mod Edited
pub mod Listed
pub mod Chains
pub mod Numbers
pub mod Texts
-- What queries tell, place by place.
pub mod Writing
pub mod Telling
pub mod Marks
pub mod Sides
pub mod Corners
pub mod Disks
pub mod Found
pub mod Walked
pub mod Crossed
pub mod Seen
pub mod Guided
pub mod Labels
pub mod Widths
