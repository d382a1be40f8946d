-- The words of this crate's specs, from one place, for the crates above.
unfoldable pub use Rattle.law_runs.specs.Laws.{Laws}
