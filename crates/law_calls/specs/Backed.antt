-- What a call says of threads, and that they say it too: its caller waits in it, and its server was given it or has entered it.
use Rattle.std.specs.Prelude.{ℕ, ◌≡◌, Bool, false, true, List, Some}
use Rattle.std.specs.List.{AllByRecursion}
use Rattle.dk_base.specs.declared.object.Item.TheVariants as item
use Rattle.spec_records.specs.declared.record.CallStage.TheVariants as stage
use Rattle.spec_records.specs.declared.record.ThreadState.TheVariants as is
use Rattle.spec_records.specs.Words.{ProcessTable, invocation_in, is_to_collect, state_in, thread_at}
use Rattle.spec_kernel.specs.Types.{Call, CallStage, ThreadState}
use Rattle.law_states.specs.Core.{is_outside}
use Rattle.law_states.specs.Records.{item_in}

-- call c at this stage is given to a thread that is Given it, or was entered by one of which it is the invocation
abbrev pub IsServedAt : ProcessTable → ℕ → CallStage → Type 0
IsServedAt table c (stage.Given u) = state_in (thread_at table u.0) ≡ is.Given (item.Call c)
IsServedAt table c (stage.Entered u) =
    (item_in (invocation_in (thread_at table u.0)) ≡ Some (item.Call c)) × (is_outside (state_in (thread_at table u.0)) ≡ false)
IsServedAt table c _ = Unit {0}

pub record IsBacked (table : ProcessTable) (r : Call) : Type 0 where
  pub calling : state_in (thread_at table r.caller.0) ≡ is.Calling r.number
  pub served : IsServedAt table r.number r.stage
  -- its caller has not left, as long as a thread can serve it
  pub abandoned : r.abandoned ≡ true → is_to_collect r.stage ≡ true

abbrev pub AreBacked : ProcessTable → List Call → Type 0
AreBacked table calls = AllByRecursion (IsBacked table) calls

-- a thread that was given an item, and has not entered it
abbrev pub is_given_item : ThreadState → Bool
is_given_item (is.Given i) = true
is_given_item _ = false
