-- What becomes of a thread where callers are interrupted or end, and threads end, as decided for it.
use Rattle.std.specs.Prelude.{ℕ, Bool, false, true, List, Option, Some, None, if◌then◌else◌, find}
use Rattle.spec_records.specs.declared.record.CallStage.TheVariants as stage
use Rattle.spec_records.specs.Words.{Leaving, ProcessTable, cancelled_thread, change_thread, ended_thread, idle_thread, interrupted_where, is_served_by}
use Rattle.call_tree.specs.Words.{is_given}
use Rattle.spec_kernel.specs.Types.{Call, CallStage, Thread}
use Rattle.exit_paths.specs.declared.fates.Desertion.{Desertion}
use Rattle.exit_paths.specs.declared.fates.Desertion.TheVariants.{Stays, Parks, IsCancelled}
use Rattle.exit_paths.specs.declared.fates.Deserted.{Deserted}
use Rattle.exit_paths.specs.declared.fates.Fate.{Fate}

-- a thread whose caller leaves
abbrev pub deserted_as : ℕ → Desertion → Thread → Thread
deserted_as now Stays x = x
deserted_as now Parks x = idle_thread now x
deserted_as now IsCancelled x = cancelled_thread x

-- it is parked again
abbrev pub parks_again : Desertion → Bool
parks_again Stays = false
parks_again Parks = true
parks_again IsCancelled = false

abbrev pub fated : ℕ → Fate → Thread → Thread
fated now fate x = if fate.ends then ended_thread x else deserted_as now fate.desertion (interrupted_where fate.interrupted x)

-- the thread that serves a call, if its caller leaves

abbrev pub deserted_at_stage : Bool → CallStage → Option Deserted
deserted_at_stage no_cancel (stage.Given u) = Some (record { server = u; desertion = Parks })
deserted_at_stage no_cancel (stage.Entered u) = if no_cancel then None else Some (record { server = u; desertion = IsCancelled })
deserted_at_stage no_cancel _ = None

abbrev pub deserted_in_call : Option Call → Option Deserted
deserted_in_call None = None
deserted_in_call (Some r) = deserted_at_stage r.no_cancel r.stage

-- that thread as its caller has left it
abbrev pub with_deserted : ℕ → Option Deserted → ProcessTable → ProcessTable
with_deserted now None table = table
with_deserted now (Some d) table = change_thread table d.server.0 (deserted_as now d.desertion)

-- the thread that may be parked as a caller leaves: the server of its call, or else itself
abbrev pub parked_of : Option Deserted → ℕ → ℕ
parked_of None t = t
parked_of (Some d) t = d.server.0

-- the thread whose call may end as a thread does: its client, or else itself
abbrev pub woken_of : Option ℕ → ℕ → ℕ
woken_of None t = t
woken_of (Some c) t = c

-- who leaves, with the callers that are interrupted as they were told apart before the first change
abbrev pub with_interrupted : (ℕ → Bool) → Leaving → Leaving
with_interrupted interrupted who = record who { interrupts = interrupted }

-- the call that a thread serves was given to it, and is not entered
abbrev pub is_given_in : Option Call → Bool
is_given_in None = false
is_given_in (Some r) = is_given r.stage

abbrev pub serves_given : List Call → ℕ → Bool
serves_given calls t = is_given_in (find (is_served_by t) calls)
