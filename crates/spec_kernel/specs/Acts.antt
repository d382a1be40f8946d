-- What an act gives: the state after it, before the kernel settles, and the answer. An entry is refused by the first of its
-- tests that holds, and then changes nothing.
use Rattle.std.specs.Prelude.{Option, Some, None}
use Rattle.spec_kernel.specs.Types.{Answer, Errno}
use Rattle.dk_base.specs.declared.answer.Answer.TheVariants.{Failure, Done}
use Rattle.spec_kernel.specs.State.{State}

pub record ActResult : Type 0 where
  pub state : State
  pub answer : Answer

abbrev pub refused_act : State → Errno → ActResult
refused_act m e = record { state = m; answer = Failure e }

abbrev pub unless_refused : State → Option Errno → ActResult → ActResult
unless_refused m (Some e) a = refused_act m e
unless_refused m None a = a

-- cases that no state of a run has: nothing happens
abbrev pub no_act : State → ActResult
no_act m = record { state = m; answer = Done }
