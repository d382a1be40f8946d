-- The words of this crate's specs, from one place, for the crates above.
pub use Rattle.sys_run.specs.Playing.{EndsIfTold, EndsPlay, told_events}
pub use Rattle.sys_run.specs.Schedules.{HasPlayed, IsBefore, IsPlay, IsRefused, refusal_at}
pub use Rattle.sys_run.specs.Sys.{LawsOf, SysValue, with_journal}
unfoldable pub use Rattle.sys_run.specs.Sys.{history}
