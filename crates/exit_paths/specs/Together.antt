-- What threads and the calls that are kept say of each other.
use Rattle.std.specs.Prelude.{ℕ, ◌≡◌, [], Option, Some, None, true, false, find}
use Rattle.spec_records.specs.declared.record.CallStage.TheVariants as stage
use Rattle.spec_records.specs.Words.{CallTree, ProcessTable, invocation_in, state_in, thread_at, tid}
use Rattle.spec_kernel.specs.Types.{Call, Inv, Thread, ThreadState}
use Rattle.law_states.specs.Coherent.{AreInvocations, AreServers, AreWaits}
use Rattle.call_tree.specs.Words.{is_call}

-- a call that is not kept: it was answered, or its caller has left it
abbrev pub forgotten : ℕ → Call
forgotten c =
    record {
      number = c;
      made = 0;
      caller = tid 0;
      door = 0;
      bytes = [];
      objects = [];
      rsize = 0;
      no_cancel = false;
      abandoned = true;
      stage = stage.Gone;
    }

abbrev pub or_forgotten : ℕ → Option Call → Option Call
or_forgotten c None = Some (forgotten c)
or_forgotten c (Some r) = Some r

abbrev pub call_of : CallTree → ℕ → Option Call
call_of tree c = or_forgotten c (find (is_call c) tree.calls)

abbrev pub role_of : ProcessTable → ℕ → ThreadState
role_of table t = state_in (thread_at table t)

abbrev pub serves_in : ProcessTable → ℕ → Option Inv
serves_in table t = invocation_in (thread_at table t)

-- Who waits for which call, and who serves which: a call is given to, or entered by, the thread that says so; a thread is Calling the live
-- call that is its own; threads outside of calls have no invocation, and a call is later than the one that its caller serves.
-- So it is in what a kernel keeps of each written state of which the invariant holds (`kept_together` in proofs/Together.antt).
pub record AreTogether (table : ProcessTable) (tree : CallTree) : Type 0 where
  pub waits : AreWaits (role_of table) (call_of tree)
  pub invocations : AreInvocations (serves_in table) (call_of tree)
  pub servers : AreServers (role_of table) (serves_in table) tree.made
  -- a thread's record has the number that it is found under
  pub numbered : (t : ℕ) (x : Thread) → thread_at table t ≡ Some x → x.number ≡ t
