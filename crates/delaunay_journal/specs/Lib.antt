pub mod Journal
pub mod Marking
pub mod Laws
pub mod Splits
pub use Journal.{Gives}
pub use declared.edit.Edit.{Edit}
pub use declared.edit.Edit.TheVariants.{AddConstraint, Insert}
pub use declared.edit.Outcome.{Outcome}
pub use declared.edit.Outcome.TheVariants.{Added, Refused}
