-- What a kernel keeps comes from a written state of which the invariant holds; before the first event it is an opening.
use Rattle.std.specs.Prelude.{◌≡◌}
use Rattle.spec_kernel.specs.Words.{IsOpening, StandsFor, State}
use Rattle.call_tree.specs.Words.{AreLive}
use Rattle.law_pools.specs.Words.{AreKept}
use Rattle.law_states.specs.Invariant.{Invariant}
use Rattle.law_channels.specs.Channels.{AreChannels}

pub record IsKept (kept : State) : Type 0 where
  pub written : State
  pub stands : StandsFor kept written
  pub invariant : Invariant written
  pub channels : AreChannels written
  pub opening : kept.events ≡ 0 → IsOpening kept

-- the calls are live, and no notice is past that no rule asks for again
pub record HasNothingPast (m : State) : Type 0 where
  pub calls : AreLive m.call_tree.calls
  pub notices : AreKept m.doors m.notice_list.notices
