-- Edges, faces and vertices that go, and how a vertex loses its faces one by one.
pub mod Conditions
pub mod OpenSound
pub mod UnlinkSound
pub mod FillSound
pub mod RemoveSound
pub mod CloseSound
pub mod VertexSound
pub mod Track
pub mod TakenLists
pub mod ShrinkTriangles
pub mod PeelLemmas
pub mod StripLemmas
pub mod CollapseLemmas
pub mod WheelLemmas
pub mod WheelEnds
