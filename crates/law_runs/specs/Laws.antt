-- The laws of every run. Each later law is added here.
use Rattle.std.specs.Prelude.{List}
use Rattle.spec_kernel.specs.Words.{State, Turn}
use Rattle.law_runs.specs.Once.{Once}
use Rattle.law_runs.specs.Match.{Match}
use Rattle.law_runs.specs.Cause.{HasCause}
use Rattle.law_runs.specs.NoLoss.{NoLoss}
use Rattle.law_runs.specs.Rows.{Rows}
use Rattle.law_runs.specs.Waits.{WaitsWhereToldSo}
use Rattle.law_runs.specs.Given.{StaysGiven}
use Rattle.law_runs.specs.Names.{Names}
use Rattle.law_runs.specs.Bindings.{Bindings}
use Rattle.law_runs.specs.Parameters.{Parameters}
use Rattle.law_runs.specs.Answers.{AnswersEndsOfWaits, AnswersRequests}
use Rattle.law_runs.specs.MadeByCreator.{MadeByCreator}
use Rattle.law_runs.specs.Refused.{Refused}
use Rattle.law_runs.specs.Held.{Held}
use Rattle.law_runs.specs.Pools.{AreBoundToOwn, NoPoolHasBoth}
use Rattle.law_runs.specs.Ends.{Ends}
use Rattle.law_runs.specs.InvalidDoors.{InvalidDoors}
use Rattle.law_runs.specs.Cancels.{Cancels}
use Rattle.law_runs.specs.Notices.{Notices}
use Rattle.law_runs.specs.EventsShown.{EventsShown}
use Rattle.law_runs.specs.Bytes.{Bytes}
use Rattle.law_runs.specs.PortEvents.{PortEvents}
use Rattle.law_runs.specs.PortWaits.{PortWaits}
use Rattle.law_runs.specs.Tasks.{Tasks}
use Rattle.law_runs.specs.OneShot.{OneShot}
use Rattle.law_runs.specs.Lives.{Lives}
use Rattle.law_runs.specs.TimerLives.{TimerLives}
use Rattle.law_runs.specs.Ticks.{Ticks}
use Rattle.law_runs.specs.Forks.{Begins}

pub record AllLaws (m : State) (xs : List Turn) : Type 0 where
  pub once : Once m xs
  pub match : Match m xs
  pub cause : HasCause m xs
  pub no_loss : NoLoss m xs
  pub rows : Rows m xs
  pub waits : WaitsWhereToldSo m xs
  pub given : StaysGiven m xs
  pub names : Names m xs
  pub bindings : Bindings m xs
  pub parameters : Parameters m xs
  pub answers : AnswersRequests m xs
  pub ends_of_waits : AnswersEndsOfWaits m xs
  pub held : Held m xs
  pub made_by_creator : MadeByCreator m xs
  pub refused : Refused m xs
  pub no_pool_has_both : NoPoolHasBoth m xs
  pub bound_to_own : AreBoundToOwn m xs
  pub ends : Ends m xs
  pub invalid_doors : InvalidDoors m xs
  pub cancels : Cancels m xs
  pub notices : Notices m xs
  pub events_shown : EventsShown m xs
  pub bytes : Bytes m xs
  pub port_events : PortEvents m xs
  pub port_waits : PortWaits m xs
  pub tasks : Tasks m xs
  pub one_shot : OneShot m xs
  pub lives : Lives m xs
  pub timer_lives : TimerLives m xs
  pub ticks : Ticks m xs
  pub begins : Begins m xs

unfoldable pub Laws : State → List Turn → Type 0
Laws m xs = AllLaws m xs
