-- What a kernel keeps of a written state: it forgets the calls that were answered, or whose callers ended, and the notices that are past
-- of doors that may have more of them.
use Rattle.std.specs.Prelude.{◌≡◌}
use Rattle.spec_kernel.specs.Types.{Stepped}
use Rattle.spec_records.specs.Words.{kept_notices, live_calls}
use Rattle.spec_kernel.specs.State.{State}
use Rattle.spec_kernel.specs.Step.{Step}

abbrev pub forget : State → State
forget m = record m { call_tree = live_calls m.call_tree; notice_list = kept_notices m.doors m.notice_list }

-- what is kept stands for a written state
abbrev pub StandsFor : State → State → Type 0
StandsFor kept m = kept ≡ forget m

-- a kernel did this step
pub record IsStep (s : Step) (kept : State) (stepped : Stepped) : Type 0 where
  pub state : StandsFor kept s.state
  pub answer : stepped.answer ≡ s.answer
  pub woken : stepped.woken ≡ s.woken
