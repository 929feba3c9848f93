pub mod Angles
pub mod Disks
pub use Disks.{TellsDisk}
pub use declared.disks.Sides.{Sides}
