-- A vertex goes: its star, the flips that shrink it, and the mesh of the others, renumbered.
pub mod Star
pub mod StarFlips
pub mod Opposite
pub mod Inner
pub mod Merge
pub mod InnerVertex
pub mod HullStar
pub mod HullCut
pub mod HullLine
pub mod HullVertex
pub mod OnLine
pub mod Renumbering
