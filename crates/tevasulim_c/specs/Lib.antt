pub mod Whole
pub use Whole.{EndsAtPoints, FirstAre, IsNamedOf}
