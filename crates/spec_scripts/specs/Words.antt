-- The words of this crate's specs, from one place, for the crates above.
pub use Rattle.spec_scripts.specs.DeclaredRuns.{IsDeclared, IsDeclaredDoor}
pub use Rattle.spec_scripts.specs.Endings.{ending_of, ending_waiting, ending_with}
pub use Rattle.spec_scripts.specs.Plays.{IsRefusedPlay, IsWholePlay}
pub use Rattle.spec_scripts.specs.RunText.{text_of_history}
pub use Rattle.spec_scripts.specs.ScriptRuns.{History, IsAllowed, Refusal, event_at_turn, first_history, history_after, is_over, least_runnable_turns, limit_of, line_at_turn, opening_of, refusal_from, reply_at_turn, request_at_turn, run_from, scheduled_turns, threads_of_events, tid_number, turns_before, turns_of, with_children, with_parent, with_script_threads}
unfoldable pub use Rattle.spec_scripts.specs.ScriptRuns.{refusal, run, turns_of_play}
