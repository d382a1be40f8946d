-- The words of this crate's specs, from one place, for the crates above.
pub use Rattle.spec_traces.specs.FirstDifferences.{IsFirstDifference, IsNamedTurn, IsOtherTurn, IsWanted, OfEachTrace, line_at, lines_before, lines_through}
pub use Rattle.spec_traces.specs.Fronts.{IsFrontOf, IsFrontOfEnd, IsFrontOfNextLine, IsFrontOfRun, IsFrontOfTrace, turns_in_whole_lines, whole_lines}
pub use Rattle.spec_traces.specs.LegalTraces.{IsLegal, IsTextOf, IsTrace}
pub use Rattle.spec_traces.specs.Replays.{numbered_thread, scheduled}
pub use Rattle.spec_traces.specs.TraceInput.{AreParts, HasNoTrace, before_place, begins_with_trace_line, is_trace_line, line_after_last, script_part, trace_line, trace_part, trace_place_from}
unfoldable pub use Rattle.spec_traces.specs.TraceInput.{trace_place}
pub use Rattle.spec_traces.specs.Turns.{HasReadableLine, begins_with_digit, event_lines, turn_words}
unfoldable pub use Rattle.spec_traces.specs.Turns.{turns_in}
unfoldable pub use Rattle.spec_traces.specs.VerdictText.{verdict_text}
pub use Rattle.spec_traces.specs.VerdictText.{worded_text}
pub use Rattle.spec_traces.specs.Verdicts.{end_line_after, if_runnable, is_found, is_tail_line, line_after, line_of_turn, turn_in_line, verdict_after_end, verdict_at_end, verdict_from, verdict_after_tail, verdict_of_turn, verdict_without_line}
unfoldable pub use Rattle.spec_traces.specs.Verdicts.{verdict}
