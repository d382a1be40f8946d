-- The run that `play` makes, by the number of its turns.
use Rattle.std.specs.Prelude.{ℕ, [], ◌∷◌, List, Option, None, Some, if◌then◌else◌, zero, suc}
use Rattle.spec_kernel.specs.Types.{Event, Tid}
use Rattle.spec_kernel.specs.Words.{is_runnable}
use Rattle.script_lang.specs.Words.{ScriptValue}
use Rattle.sys_run.specs.declared.sys.Played.{Played}
use Rattle.sys_run.specs.declared.sys.Played.TheVariants.{Over, Refused}
use Rattle.sys_run.specs.declared.playing.Told.{Told}
use Rattle.sys_run.specs.declared.playing.Told.TheVariants.{Event as ToldEvent, End}
use Rattle.sys_run.specs.Schedules.{IsBefore, IsPlay, refusal_at}
use Rattle.sys_run.specs.Sys.{SysValue, next_turn, scheduled_turn, state_of_run, with_journal, with_turn}

-- the schedule's turn, unless it is refused, and behind the schedule that of the least runnable thread
abbrev pub turn_by : SysValue → Option Tid → Option ℕ
turn_by p None = next_turn p
turn_by p (Some t) = if is_runnable (state_of_run p) t.0 then Some t.0 else None

-- the thread that takes the next turn
abbrev pub turn_of_play : SysValue → Option ℕ
turn_of_play p = turn_by p (scheduled_turn p)

-- the events with that of its turn
abbrev pub events_with : SysValue → Option ℕ → List Event
events_with p None = p.journal
events_with p (Some t) = (with_turn p t).journal

-- the events of the first n turns
unfoldable pub first_events : ScriptValue → ℕ → List Event
first_events script zero = []
first_events script (suc n) =
    events_with (with_journal script (first_events script n)) (turn_of_play (with_journal script (first_events script n)))

-- the event that was told, if it was one
abbrev pub told_events : Told → List Event
told_events (ToldEvent event) = event ∷ []
told_events (End played) = []

-- a run ended as `play` ends it: all turns were taken, or those before a turn of the schedule that is refused
abbrev pub EndsPlay : ScriptValue → SysValue → Played → Type 0
EndsPlay script p Over = IsPlay script p
EndsPlay script p (Refused turn thread) = IsBefore script (refusal_at turn thread.0) p

-- where the end was told, the run ended so
abbrev pub EndsIfTold : ScriptValue → SysValue → Told → Type 0
EndsIfTold script p (ToldEvent event) = Unit {0}
EndsIfTold script p (End played) = EndsPlay script p played
