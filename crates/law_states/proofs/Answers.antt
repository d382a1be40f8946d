-- Of which act an answer tells, and that a call that is told of was made.
use Rattle.std.specs.Prelude.{ℕ, ◌≡◌, List, Option, Bool, true, false, if◌then◌else◌, Some, None}
use Rattle.std.proofs.Common.{refl, subst, ◌∙◌}
use native.Mathlib.Omega.{arith}
use Rattle.std.proofs.lemmas.Bool.Decides.{nat_tests}
use Rattle.spec_records.proofs.NumberedLists.{find-push}
use Rattle.spec_kernel.specs.Types.{Answer, Call, CallStage, Errno, Fd, Pass, Queued, Request}
use Rattle.dk_base.specs.declared.request.Request.TheVariants as request
use Rattle.dk_base.specs.declared.answer.Answer.TheVariants as answer
use Rattle.spec_records.specs.declared.record.ThreadState.TheVariants as is
use Rattle.spec_records.specs.declared.record.CallStage.TheVariants as stage
use Rattle.dk_base.specs.declared.error.Errno.TheVariants.{EMFILE}
use Rattle.spec_records.specs.Words.{call_number, is_to_collect_as, objects_passed}
use Rattle.spec_kernel.specs.Words.{ActResult, Channels, State, act, call, collect, collect_answer, collect_answer_in, door_named, event_answer, find_call, found_answer, has_room, new_call, object_at, port_at, process_of, state_of, table_of}
use Rattle.spec_kernel.proofs.Moves.{IsPassing, Moves, act_moves}
use Rattle.spec_kernel.proofs.Moves.IsPassing.{advances, alerts, associates, creates_timer, deletes_timer, dissociates, gets, gets_many, reads, sends, sends_each, sets_timer, writes}
use Rattle.spec_kernel.proofs.Moves.IsSaid.{refused}
use Rattle.spec_kernel.proofs.Moves.IsRow.{closes}
use Rattle.spec_kernel.proofs.Moves.IsMaking.{makes_port}
use Rattle.spec_kernel.proofs.Moves.IsTurn.{awaits}
use Rattle.law_states.specs.Records.{record_of}
use Rattle.law_states.specs.Invariant.{IsConsistent}
use Rattle.law_states.specs.Events.{IsMade, IsToldBy}
use Rattle.law_states.proofs.Acts.{act_result}

-- a call that the answer tells of is there
abbrev IsThere : State → Answer → Type 0
IsThere n (answer.WaitCall c) = IsMade (record_of n c)
IsThere n a = Unit {0}

pub record Tells (m : State) (t : ℕ) (q : Option Request) (a : ActResult) : Type 0 where
  pub told : IsToldBy m t q a.answer
  pub there : IsThere a.state a.answer

-- the answers of acts

call_tells :
    (m : State) (t p : ℕ) (fd : Fd) (bytes : List ℕ) (pass : List Pass) (rsize : ℕ) → IsConsistent m →
    Tells m t (Some (request.Call fd bytes pass rsize)) (call m t p fd bytes pass rsize)
call_tells m t p fd bytes pass rsize h =
    record {
      told = record { fd = fd; bytes = bytes; pass = pass; rsize = rsize; request = refl; next = refl };
      there = record { made = r; there = find-push call_number m.call_tree.calls 0 r r.number h.in_order (grind (arith, h.counted)) ∙ grind (arith, nat_tests) };
    }
  where
    r : Call
    r = new_call m t (door_named (object_at m p fd)) bytes (objects_passed (table_of m p) pass) rsize

nothing : (m : State) (t : ℕ) (n : State) → Tells m t None (act_result n answer.Done)
nothing m t n = record { told = tt; there = tt }

collect_tells : (m : State) (t p c : ℕ) → state_of m t ≡ is.Calling c → Tells m t None (collect m t p c)
collect_tells m t p c e = go (find_call m (is_to_collect_as c))
  where
    n : State
    n = (collect m t p c).state

    failed : (x : Errno) → Tells m t None (act_result n (answer.Failure x))
    failed x = record { told = tt; there = tt }

    by_room :
        (bytes : List ℕ) (fds : List Fd) (grown b : Bool) →
        Tells m t None (act_result n (if b then answer.Results bytes fds grown else answer.Failure EMFILE))
    by_room bytes fds grown true = record { told = (refl, record { call = c; calling = e }); there = tt }
    by_room bytes fds grown false = failed EMFILE

    at : (r : Call) (s : CallStage) → Tells m t None (act_result n (collect_answer m p r s))
    at r (stage.Returned bytes objects) = by_room bytes _ _ (has_room m p objects)
    at r (stage.Ended x) = failed x
    at r s = nothing m t _

    go : (o : Option Call) → Tells m t None (act_result n (collect_answer_in m p o))
    go None = nothing m t _
    go (Some r) = at r r.stage

-- what a get finds is no call
found_one : (m : State) (t : ℕ) {q : Option Request} (n : State) (o : Option Queued) → Tells m t q (act_result n (event_answer o))
found_one m t n None = record { told = tt; there = tt }
found_one m t n (Some x) = record { told = tt; there = tt }

found_tells :
    (m : State) (t : ℕ) {q : Option Request} (n : State) (port max : ℕ) (one : Bool) → Tells m t q (act_result n (found_answer m port max one))
found_tells m t n port max true = found_one m t n _
found_tells m t n port max false = record { told = tt; there = tt }

passing_tells : (m : State) (t : ℕ) (r : Request) (c : Channels) (a : Answer) → IsPassing m t r c a → Tells m t (Some r) (act_result (record m { channels = c }) a)
passing_tells m t r c a (writes fd bytes f) = record { told = tt; there = tt }
passing_tells m t r c a (reads fd max f) = record { told = tt; there = tt }
passing_tells m t r c a (sends fd events user f) = record { told = tt; there = tt }
passing_tells m t r c a (sends_each fds events user) = record { told = tt; there = tt }
passing_tells m t r c a (alerts fd mode events user f) = record { told = tt; there = tt }
passing_tells m t r c a (gets fd wait f e) = found_tells m t (record m { channels = c }) (port_at m (process_of m t) fd) 1 true
passing_tells m t r c a (gets_many fd max nget wait f z e) = record { told = tt; there = tt }
passing_tells m t r c a (associates port object events user f) = record { told = tt; there = tt }
passing_tells m t r c a (dissociates port object f) = record { told = tt; there = tt }
passing_tells m t r c a (creates_timer port user f) = record { told = tt; there = tt }
passing_tells m t r c a (sets_timer timer first interval f) = record { told = tt; there = tt }
passing_tells m t r c a (deletes_timer timer f) = record { told = tt; there = tt }
passing_tells m t r c a (advances by) = record { told = tt; there = tt }

move_tells : (m : State) (t : ℕ) (q : Option Request) (a : ActResult) → IsConsistent m → Moves m t q a → Tells m t q a
move_tells m t q a h (Moves.nothing x (refused r e f)) = record { told = tt; there = tt }
move_tells m t q a h (Moves.rows r place o x (closes fd f)) = record { told = tt; there = tt }
move_tells m t q a h (Moves.turns s x w (awaits path e)) = record { told = tt; there = tt }
move_tells m t q a h (Moves.calls fd bytes pass rsize f) = call_tells m t (process_of m t) fd bytes pass rsize h
move_tells m t q a h (Moves.enters r e room) = record { told = (refl, e.given); there = tt }
move_tells m t q a h (Moves.fails r e full) = record { told = (refl, e.given); there = tt }
move_tells m t q a h (Moves.enters_notice n e) = record { told = (refl, e.given); there = tt }
move_tells m t q a h (Moves.collects c e) = collect_tells m t (process_of m t) c e
move_tells m t q a h (Moves.passes r c x e) = passing_tells m t r c x e
move_tells m t q a h (Moves.makes_channel r c objects x (makes_port f)) = record { told = tt; there = tt }
move_tells m t q a h (Moves.retrieves port max nget one _) = found_tells m t _ port max one
move_tells m t q a h _ = record { told = tt; there = tt }

pub act_tells : (m : State) (t : ℕ) (q : Option Request) → IsConsistent m → Tells m t q (act m t q)
act_tells m t q h = move_tells m t q (act m t q) h (act_moves m t q)

-- read by the answer

pub is_there : (m : State) (t : ℕ) (q : Option Request) (a : ActResult) (c : ℕ) → Tells m t q a → a.answer ≡ answer.WaitCall c → IsMade (record_of a.state c)
is_there m t q a c h e = subst (λ x. IsThere a.state x) e h.there
