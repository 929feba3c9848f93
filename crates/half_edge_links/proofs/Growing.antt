-- New vertices, edges and faces at the hull and on a line, and edges of a line that move.
pub mod VertexLemmas
pub mod ConnectLemmas
pub mod Hang
pub mod CloseReads
pub mod Close
pub mod Grown
pub mod FaceBeside
pub mod HalfSplit
pub mod Slide
pub mod SplitLine
pub mod LineSound
pub mod Passing
