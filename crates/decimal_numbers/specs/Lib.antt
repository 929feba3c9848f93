pub mod Grammar
pub mod Long
pub mod Reading
pub mod Value
pub use Grammar.{IsPower, Spelling}
pub use Reading.{parts_of}
pub use Value.{IsTooLong, raised_by}
pub use declared.decimal.Decimal.{Decimal}
