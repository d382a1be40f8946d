-- What playing a schedule answers and leaves.
use Rattle.std.specs.Prelude.{ℕ, ◌≡◌, Some, None}
use Rattle.script_lang.specs.Words.{ScriptValue}
use Rattle.spec_requests.specs.Words.{IsThread}
use Rattle.spec_scripts.specs.Words.{Refusal, refusal, run, scheduled_turns, threads_of_events, turns_before, turns_of_play}
use Rattle.sys_run.specs.declared.sys.Played.{Played}
use Rattle.sys_run.specs.declared.sys.Played.TheVariants.{Over, Refused}
use Rattle.sys_run.specs.Sys.{SysValue, history, with_turns}

abbrev pub refusal_at : ℕ → ℕ → Refusal
refusal_at turn thread = record { turn = turn; thread = thread }

-- all of the schedule's turns were taken, as far as the budget reaches
pub record HasPlayed (old new : SysValue) : Type 0 where
  pub not_refused : refusal old.script ≡ None
  pub turns : new ≡ with_turns old (scheduled_turns old.script)

-- the schedule is refused at this turn, and the turns before it were taken
pub record IsRefused (old new : SysValue) (refused : Refusal) : Type 0 where
  pub refusal : refusal old.script ≡ Some refused
  pub turns : new ≡ with_turns old (turns_before old.script refused)
  pub thread : IsThread old.script refused.thread

abbrev pub PlaysSchedule : SysValue → SysValue → Played → Type 0
PlaysSchedule old new Over = HasPlayed old new
PlaysSchedule old new (Refused turn thread) = IsRefused old new (refusal_at turn thread.0)

-- a journal of the run that `play` makes of a script whose schedule is not refused
pub record IsPlay (script : ScriptValue) (p : SysValue) : Type 0 where
  pub not_refused : refusal script ≡ None
  pub same_script : p.script ≡ script
  pub same_run : history p ≡ run script (turns_of_play script)
  pub same_turns : threads_of_events p.journal ≡ turns_of_play script

-- a journal of the turns before a refused one
pub record IsBefore (script : ScriptValue) (refused : Refusal) (p : SysValue) : Type 0 where
  pub refusal : refusal script ≡ Some refused
  pub same_script : p.script ≡ script
  pub same_run : history p ≡ run script (turns_before script refused)
  pub same_turns : threads_of_events p.journal ≡ turns_before script refused
