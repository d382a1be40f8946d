-- An event at which callers, servers and doors leave, carried out one call at a time: what becomes of the calls so far, and that in the end
-- it is what becomes of them all at once.
use Rattle.std.specs.Prelude.{ℕ, ◌≡◌, Bool, false, ◌==◌, ◌||◌, if◌then◌else◌, None, Some, IsSome, find, map}
use Rattle.dk_base.specs.declared.error.Errno.TheVariants.{EBADF, EINTR}
use Rattle.spec_records.specs.declared.record.Call.{Call}
use Rattle.spec_records.specs.declared.record.CallStage.{CallStage}
use Rattle.spec_records.specs.declared.record.CallStage.TheVariants as stage
use Rattle.spec_records.specs.Words.{CallTree, Leaving, abandoned_at, ended_where, gone_call_at, is_queued_as, left_calls, live_calls, without_arguments_at}
use Rattle.call_tree.specs.Calls.{abandon_call, is_called_by, lose_server, refuse_call}
use Rattle.call_tree.specs.declared.parts.Leave.{Leave}
use Rattle.call_tree.specs.declared.parts.Leave.TheVariants.{Finished, Interrupted}

-- which callers ended and which were interrupted, which threads no longer serve, and which waiting calls were refused since their door is
-- lost, by their numbers
pub record LeftSoFar : Type 0 where
  pub ended : ℕ → Bool
  pub interrupted : ℕ → Bool
  pub servers : ℕ → Bool
  pub refused : ℕ → Bool

abbrev pub nothing_left : LeftSoFar
nothing_left = record { ended = λ t. false; interrupted = λ t. false; servers = λ t. false; refused = λ c. false }

abbrev pub broken_so_far : LeftSoFar → CallStage → Call → Call
broken_so_far d stage.Queued r =
    if d.interrupted r.caller.0 then without_arguments_at (stage.Ended EINTR) r else ended_where (d.refused r.number) EBADF r
broken_so_far d (stage.Given u) r = ended_where (d.interrupted r.caller.0 || d.servers u.0) EINTR r
broken_so_far d (stage.Entered u) r =
    if d.interrupted r.caller.0 then abandoned_at (stage.Ended EINTR) r else ended_where (d.servers u.0) EINTR r
broken_so_far d _ r = r

abbrev pub call_so_far : LeftSoFar → Call → Call
call_so_far d r = if d.ended r.caller.0 then gone_call_at r.stage r else broken_so_far d r.stage r

abbrev pub calls_so_far : LeftSoFar → CallTree → CallTree
calls_so_far d tree = live_calls (record tree { calls = map (call_so_far d) tree.calls })

-- these numbers and one more
abbrev pub and_one : (ℕ → Bool) → ℕ → ℕ → Bool
and_one test n k = (k == n) || test k

-- Callers leave before servers do and doors are lost. A caller without a call changes nothing.
pub record PartsOfLeaving (tree : CallTree) : Type 0 where
  pub begins : calls_so_far nothing_left tree ≡ tree
  pub none_called :
      (d : LeftSoFar) (t : ℕ) (why : Leave) → find (is_called_by t) (calls_so_far d tree).calls ≡ None →
      abandon_call (calls_so_far d tree) t why ≡ calls_so_far d tree
  pub ends : (d : LeftSoFar) (t : ℕ) → abandon_call (calls_so_far d tree) t Finished ≡ calls_so_far (record d { ended = and_one d.ended t }) tree
  pub interrupts :
      (d : LeftSoFar) (t : ℕ) → ((u : ℕ) → d.servers u ≡ false) → ((c : ℕ) → d.refused c ≡ false) →
      abandon_call (calls_so_far d tree) t Interrupted ≡ calls_so_far (record d { interrupted = and_one d.interrupted t }) tree
  pub serves : (d : LeftSoFar) (u : ℕ) → lose_server (calls_so_far d tree) u ≡ calls_so_far (record d { servers = and_one d.servers u }) tree
  pub refuses :
      (d : LeftSoFar) (c : ℕ) → IsSome (find (is_queued_as c) (calls_so_far d tree).calls) →
      refuse_call (calls_so_far d tree) c EBADF ≡ calls_so_far (record d { refused = and_one d.refused c }) tree
  pub done :
      (d : LeftSoFar) (who : Leaving) → ((t : ℕ) → d.ended t ≡ who.ends t) → ((t : ℕ) → d.interrupted t ≡ who.interrupts t) →
      ((u : ℕ) → d.servers u ≡ who.ends u) →
      ((p : Call → Bool) (r : Call) → find p tree.calls ≡ Some r → r.stage ≡ stage.Queued → d.refused r.number ≡ who.loses r.door) →
      calls_so_far d tree ≡ live_calls (left_calls who tree)
