-- The words of this crate's specs, from one place, for the crates above.
pub use Rattle.ncd_app.specs.Definition.{reply}
pub use Rattle.ncd_app.specs.Stands.{NcdValue, StandsFor, asked_lines}
