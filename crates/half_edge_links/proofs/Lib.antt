pub mod Views
pub mod Lists
pub mod Stored
pub mod Sound
pub mod Relinking
pub mod Faces
pub mod Growing
pub mod Removing
pub mod Stars
pub mod OuterLoop
pub mod Steps
pub use Faces.FlipLemmas.{flips, flips_is}
pub use Faces.FlipSound.{origin_kept}
pub use Lists.Orbits.{step_add}
pub use Lists.Rev.{rev-rev, rev_differs, rev_within}
pub use Removing.Conditions.{alone_at, between_faces, spoke_at, turn_in}
pub use Removing.OpenSound.{get_or-swap_remove_same, length-swap_remove, swap_remove_default}
pub use Removing.ShrinkTriangles.{map-swap_remove}
pub use Removing.TakenLists.{count_ends, ends_at}
pub use Sound.Ends.{get_or-ends, length-ends_twice}
pub use Sound.Parts.{rev_of_odd}
pub use Sound.Triangles.{IsTriangle, triangle_at}
