-- What a kernel's numbers, bytes and objects in transit stay within.
use Rattle.std.specs.Prelude.{◌≤◌, ◌*◌, length, List, [], ◌∷◌}
use Rattle.spec_kernel.specs.Types.{Call, CallStage}
use Rattle.spec_records.specs.declared.record.CallStage.TheVariants as stage
use Rattle.dk_base.specs.declared.limits.TheConstants.{DATA_MAX, EVENTS_MAX, PASS_MAX}
use Rattle.unref_notice.specs.declared.counts.TheConstants.{STEP_MAX}
use Rattle.spec_kernel.specs.Words.{State}

abbrev pub IsSmallStage : CallStage → Type 0
IsSmallStage (stage.Returned bytes objects) = (length bytes ≤ DATA_MAX) × (length objects ≤ PASS_MAX)
IsSmallStage _ = Unit {0}

-- a call's arguments and its results have at most 4,096 bytes and 16 objects
pub record IsSmallCall (r : Call) : Type 0 where
  pub arguments : length r.bytes ≤ DATA_MAX
  pub objects : length r.objects ≤ PASS_MAX
  pub results : IsSmallStage r.stage

abbrev pub AreSmall : List Call → Type 0
AreSmall [] = Unit {0}
AreSmall (r ∷ rs) = IsSmallCall r × AreSmall rs

-- each event makes at most one door and one call, and of each object to which references come or go by it at most one notice; and no more
-- than a million are made
pub record IsWithin (m : State) : Type 0 where
  pub events : m.events ≤ EVENTS_MAX
  pub doors : length m.doors ≤ m.events
  pub calls_made : m.call_tree.made ≤ m.events
  pub notices_made : m.notice_list.made ≤ STEP_MAX * m.events
  pub small : AreSmall m.call_tree.calls
