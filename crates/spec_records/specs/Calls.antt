-- Door calls, in the order in which they were made. A call is looked up by its stage, with its number or its thread. A writer
-- moves the first such call to its next stage; where there is none it changes nothing.
use Rattle.std.specs.Prelude.{ℕ, ◌++◌, List, [], ◌∷◌, Bool, true, false, ◌==◌, ◌&&◌, ◌||◌, not, filter}
use Rattle.dk_base.specs.declared.error.Errno.TheVariants.{EMFILE}
use Rattle.dk_base.specs.declared.object.Obj.{Obj}
use Rattle.spec_records.specs.declared.record.Call.{Call}
use Rattle.spec_records.specs.declared.record.CallStage.{CallStage}
use Rattle.spec_records.specs.declared.record.CallStage.TheVariants as stage
use Rattle.spec_records.specs.Lists.{change_first}
use Rattle.dk_base.specs.Numbers.{tid}

-- how many calls were made, and their records
pub record CallTree : Type 0 where
  pub made : ℕ
  pub calls : List Call

-- stages

-- a call that is neither answered nor left by a caller that ended
abbrev pub is_live : CallStage → Bool
is_live stage.Gone = false
is_live (stage.Answered k) = false
is_live _ = true

abbrev pub is_live_call : Call → Bool
is_live_call r = is_live r.stage

abbrev pub is_queued : CallStage → Bool
is_queued stage.Queued = true
is_queued _ = false

abbrev pub is_queued_call : Call → Bool
is_queued_call r = is_queued r.stage

abbrev pub is_given_to : ℕ → CallStage → Bool
is_given_to t (stage.Given u) = u.0 == t
is_given_to t _ = false

abbrev pub is_entered_by : ℕ → CallStage → Bool
is_entered_by t (stage.Entered u) = u.0 == t
is_entered_by t _ = false

-- its caller can collect the results or the error
abbrev pub is_to_collect : CallStage → Bool
is_to_collect (stage.Returned bytes objects) = true
is_to_collect (stage.Ended e) = true
is_to_collect _ = false

-- a call at this stage, with its arguments
abbrev pub at_stage : CallStage → Call → Call
at_stage s r = record r { stage = s }

-- a call at this stage, without its arguments
abbrev pub without_arguments_at : CallStage → Call → Call
without_arguments_at s r = record r { bytes = []; objects = []; stage = s }

-- look-ups

abbrev pub call_number : Call → ℕ
call_number r = r.number

abbrev pub is_queued_as : ℕ → Call → Bool
is_queued_as c r = (r.number == c) && is_queued r.stage

abbrev pub is_given_as : ℕ → ℕ → Call → Bool
is_given_as c t r = (r.number == c) && is_given_to t r.stage

-- the call that a thread has entered, as long as its caller has not left
abbrev pub is_client_call_of : ℕ → Call → Bool
is_client_call_of t r = not r.abandoned && is_entered_by t r.stage

-- a thread serves the call that it was given or has entered, until its caller leaves
abbrev pub is_served_by : ℕ → Call → Bool
is_served_by t r = not r.abandoned && (is_given_to t r.stage || is_entered_by t r.stage)

-- a call that a thread serves
abbrev pub is_served : CallStage → Bool
is_served (stage.Given u) = true
is_served (stage.Entered u) = true
is_served _ = false

abbrev pub is_served_as : ℕ → Call → Bool
is_served_as c r = (r.number == c) && (not r.abandoned && is_served r.stage)

abbrev pub is_to_collect_as : ℕ → Call → Bool
is_to_collect_as c r = (r.number == c) && is_to_collect r.stage

-- the next stage

abbrev pub open_call : CallTree → Call → CallTree
open_call tree r = record { made = r.number; calls = tree.calls ++ r ∷ [] }

abbrev pub give_call : CallTree → ℕ → ℕ → CallTree
give_call tree c u = record tree { calls = change_first (is_queued_as c) (at_stage (stage.Given (tid u))) tree.calls }

abbrev pub enter_call : CallTree → ℕ → ℕ → CallTree
enter_call tree c t = record tree { calls = change_first (is_given_as c t) (without_arguments_at (stage.Entered (tid t))) tree.calls }

-- the call that a thread was given ends EMFILE
abbrev pub fail_call : CallTree → ℕ → ℕ → CallTree
fail_call tree c t = record tree { calls = change_first (is_given_as c t) (without_arguments_at (stage.Ended EMFILE)) tree.calls }

-- the client's call is returned; without a client nothing changes
abbrev pub return_call : CallTree → ℕ → List ℕ → List Obj → CallTree
return_call tree t bytes objects =
    record tree { calls = change_first (is_client_call_of t) (without_arguments_at (stage.Returned bytes objects)) tree.calls }

abbrev pub collect_call : CallTree → ℕ → ℕ → CallTree
collect_call tree c now = record tree { calls = change_first (is_to_collect_as c) (without_arguments_at (stage.Answered now)) tree.calls }

-- the same without the calls that are answered or left
abbrev pub live_calls : CallTree → CallTree
live_calls tree = record tree { calls = filter is_live_call tree.calls }
