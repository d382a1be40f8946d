-- The words of this crate's specs, from one place, for the crates above.
pub use Rattle.timer_src.specs.Value.{CreatesOrWants, TimersValue}
