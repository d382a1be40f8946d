-- The words of this crate's specs, from one place, for the crates above.
pub use Rattle.proc_table.specs.Begins.{first_number}
pub use Rattle.proc_table.specs.Crews.{is_of}
pub use Rattle.proc_table.specs.Ends.{end_proc, ended_where_of}
pub use Rattle.proc_table.specs.Standing.{goes_on, is_awaiting, is_getting}
pub use Rattle.proc_table.specs.Walk.{IsNext, Walks}
