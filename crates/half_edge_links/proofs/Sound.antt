-- What holds of each mesh, and what writes of single links and new indexes leave of it.
pub mod Parts
pub mod Valid
pub mod Relinks
pub mod FieldWrites
pub mod RenameSound
pub mod Apart
pub mod Triangles
pub mod Corners
pub mod Ends
pub mod EndsKept
pub mod Flow
