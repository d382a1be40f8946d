-- The words of this crate's specs, from one place, for the crates above.
pub use Rattle.law_calls.specs.Backed.{AreBacked, IsBacked, IsServedAt, is_given_item}
pub use Rattle.spec_records.specs.Words.{is_calling}
