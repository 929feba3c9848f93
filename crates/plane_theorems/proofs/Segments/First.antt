-- What a segment meets first, by where it starts.
pub mod Firsts
pub mod FaceStarts
pub mod EdgeStarts
pub mod OutsideStarts
pub mod OutlineStarts
pub mod LineStarts
