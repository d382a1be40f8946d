-- The words of this crate's specs, from one place, for the crates above.
pub use Rattle.history_text.specs.Types.{NamedProcedure, NamedProcess, NamedThread}
pub use Rattle.history_text.specs.Names.{Names, no_names, process_name, thread_name}
pub use Rattle.history_text.specs.Changes.{with_line}
pub use Rattle.history_text.specs.LineWords.{header, line_text}
pub use Rattle.history_text.specs.Kinds.{stage_after}
pub use Rattle.history_text.specs.Reading.{byte_fault, is_skipped}
unfoldable pub use Rattle.history_text.specs.Reading.{line_read}
pub use Rattle.history_text.specs.Entries.{entry_line, entry_text}
