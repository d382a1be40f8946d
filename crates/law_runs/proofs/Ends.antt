-- What has ended stays so, and what is left of a process that has ended.
use Rattle.std.specs.Prelude.{ℕ, ◌≡◌, ◌+◌, ◌==◌, ◌⊎◌, List, Option, Bool, true, false, if◌then◌else◌, Some, None, find, is_some, not, slice_get}
use Rattle.std.specs.Option.{option_map}
use Rattle.std.proofs.Common.{refl, sym, ap, subst, ◌∙◌, inl, inr}
use native.Mathlib.Omega.{arith}
use Rattle.std.proofs.lemmas.Bool.Decides.{nat_tests}
use Rattle.spec_kernel.specs.Types.{Call, Door, Item, Notice, NoticeStage, Pid, Process, Request, Thread, ThreadState}
use Rattle.dk_base.specs.ByNumber.{at_number}
use Rattle.dk_base.specs.declared.object.Item.TheVariants as item
use Rattle.dk_base.specs.declared.request.Request.TheVariants as request
use Rattle.spec_records.specs.declared.record.ThreadState.TheVariants as is
use Rattle.spec_records.specs.declared.record.CallStage.TheVariants as stage
use Rattle.spec_records.specs.Words.{Leaving, ProcessTable, change_thread, end_process, ended_process, ended_thread, forking, idle_thread, interrupted_where, is_last, is_live, is_live_in, is_served_by, is_valid_in, left_thread, left_thread_of, process_end, revocation, state_in, thread_at, thread_at_state, thread_end, thread_in_invocation, thread_outside, tid, with_ended}
use Rattle.spec_kernel.specs.Words.{ActResult, MayEnter, MayTurn, State, Turn, act, door_at, door_of, exit, fork, give_one, is_running_state, is_unborn_process, can_go_on, is_valid, leave, leave_process, leave_thread, now, process_of, served_by, settle, state_at, state_of, step, thread_of}
use Rattle.spec_records.proofs.Lists.{at_number-map, at_number-renumbered_there, is_some-at_number}
use Rattle.spec_kernel.proofs.Steps.{process_of-step}
use Rattle.spec_kernel.proofs.Settling.{settle-all}
use Rattle.spec_kernel.proofs.Threads.{processes-change_thread}
use Rattle.spec_kernel.proofs.Moves.{Moves, act_moves}
use Rattle.law_states.specs.Records.{item_in, notice_of, owner_in, owner_of_call, record_of, stage_in, stage_of}
use Rattle.law_states.specs.Arrows.{EndsNow}
use Rattle.law_states.specs.Core.{core, door_in, ended_in, is_outside, notice_in, noticed_door_in, number_in}
use Rattle.law_states.specs.Coherent.{IsCoherent}
use Rattle.law_states.specs.Invariant.{Invariant}
use Rattle.law_runs.specs.Ends.{Ends, EndsProcess, HasEnded, HasNoCall, HasNoNotice, IsLast, ServesNoNotice, ThreadEnds, is_ended}
use Rattle.law_runs.specs.Ends.EndsProcess.{kills, exits as exits_process}
use Rattle.law_runs.specs.Ends.ThreadEnds.{exits, with_process}
use Rattle.law_places.specs.Places.{notice_stage_of, notice_door, owner_of_notice, process_at}
use Rattle.law_runs.proofs.Endings.{EndsOne, EndsThread, is_last_thread, last_is, leave_done, process_there, step_ends_one, step_ends_thread, step_exits, step_kills}
use Rattle.law_runs.proofs.Endings.EndsOne.{kills as kills_one, exits as exits_last}
use Rattle.law_runs.proofs.Endings.EndsThread.{exits as own_exit, with_process as process_over}
use Rattle.law_runs.proofs.Forking.{fork_ends, fork_state, was_unborn}
use Rattle.law_runs.proofs.Held.{IsWith, ServesCall, serves_of}
use Rattle.law_places.proofs.Known.{Known, invariant_after, invariant_before, next, stays}
use Rattle.law_runs.proofs.Once.{caller_waits, owner_same}
use Rattle.law_runs.proofs.Parked.{loses_idle, picked_idle, state_elsewhere}

-- a thread that is Done stays so, and a process that has ended
pub record KeepsEnds (m n : ProcessTable) : Type 0 where
  pub done : (u : ℕ) → state_in (thread_at m u) ≡ is.Done → state_in (thread_at n u) ≡ is.Done
  pub ended : (p : ℕ) → ended_in (at_number m.processes p) ≡ true → ended_in (at_number n.processes p) ≡ true

same_keeps : (table : ProcessTable) → KeepsEnds table table
same_keeps table = record { done = λ u d. d; ended = λ p e. e }

keeps_then : (a b c : ProcessTable) → KeepsEnds a b → KeepsEnds b c → KeepsEnds a c
keeps_then a b c h k = record { done = λ u d. k.done u (h.done u d); ended = λ p e. k.ended p (h.ended p e) }

-- a change of one thread that is not Done
change_keeps :
    (table : ProcessTable) (t : ℕ) (change : Thread → Thread) → (state_in (thread_at table t) ≡ is.Done → ⊥) →
    KeepsEnds table (change_thread table t change)
change_keeps table t change h =
    record {
      done = λ u d. go u (u == t) refl d;
      ended = λ p e. ap (λ ps. ended_in (at_number ps p)) (processes-change_thread table t change) ∙ e;
    }
  where
    go :
        (u : ℕ) (b : Bool) → (u == t) ≡ b → state_in (thread_at table u) ≡ is.Done →
        state_in (thread_at (change_thread table t change) u) ≡ is.Done
    go u false e d = state_elsewhere table t u change e ∙ d
    go u true e d =
        let same : t ≡ u = grind (arith, nat_tests) in
        absurd (h (ap (λ v. state_in (thread_at table v)) same ∙ d))

-- the end of a process
end_keeps : (table : ProcessTable) (p : ℕ) → KeepsEnds table (end_process table p)
end_keeps table p = go (at_number table.processes p) refl
  where
    go : (o : Option Process) → at_number table.processes p ≡ o → KeepsEnds table (with_ended table p o)
    go None f = same_keeps table
    go (Some x) f =
        record {
          done = λ u d. d;
          ended = λ q e. ap ended_in (at_number-renumbered_there table.processes p q (ended_process x) x f) ∙ by q (q == p) e;
        }
      where
        by :
            (q : ℕ) (b : Bool) → ended_in (at_number table.processes q) ≡ true →
            ended_in (if b then Some (ended_process x) else at_number table.processes q) ≡ true
        by q true e = refl
        by q false e = e

-- leaving

not_at_both : (s r z : ThreadState) → s ≡ r → s ≡ z → (r ≡ z → ⊥) → ⊥
not_at_both s r z e f h = h (sym e ∙ f)

none_served : (m : State) → Invariant m → (t : ℕ) → state_of m t ≡ is.Done → served_by m t ≡ None
none_served m h t d = go (served_by m t) refl
  where
    coherent : IsCoherent (core m)
    coherent = h.consistent.coherent

    by : (r : Call) → ServesCall m t r → IsWith t r.stage → ⊥
    by r s (inl f) =
        not_at_both (state_of m t) _ _ (coherent.waits.given r.number t (ap stage_in s.found ∙ ap (λ z. Some z) f)) d (λ z. cc)
    by r s (inr f) =
        absurd
        (cc
        (sym (ap item_in (coherent.servers.outside t (ap is_outside d)))
        ∙ coherent.invocations.entered r.number t (ap stage_in s.found ∙ ap (λ z. Some z) f)))

    served : (r : Call) → ServesCall m t r → ⊥
    served r s = by r s s.with_it

    go : (o : Option Call) → served_by m t ≡ o → o ≡ None
    go None e = refl
    go (Some r) e = absurd (served r (serves_of m h t r e))

left_state :
    (who : Leaving) (n : ℕ) (o : Option Call) (x : Thread) → o ≡ None → x.state ≡ is.Done → (left_thread who n o x).state ≡ is.Done
left_state who n o x e d = ap (λ p. (left_thread who n p x).state) e ∙ go (who.ends x.number) (who.interrupts x.number)
  where
    go : (a b : Bool) → (if a then ended_thread x else interrupted_where b x).state ≡ is.Done
    go true b = refl
    go false false = d
    go false true = grind (arith, d)

leave_keeps : (m : State) (who : Leaving) → Invariant m → KeepsEnds m.process_table (leave m who).process_table
leave_keeps m who h = record { done = λ u d. done u d; ended = λ p e. e }
  where
    done : (u : ℕ) → state_of m u ≡ is.Done → state_of (leave m who) u ≡ is.Done
    done u d =
        ap state_in (at_number-map (left_thread_of who (now m) m.call_tree.calls) m.process_table.threads u) ∙ go (thread_of m u) refl d
      where
        go :
            (o : Option Thread) → thread_of m u ≡ o → state_in o ≡ is.Done →
            state_in (option_map (left_thread_of who (now m) m.call_tree.calls) o) ≡ is.Done
        go None e f = refl
        go (Some x) e f =
            left_state who (now m) (find (is_served_by x.number) m.call_tree.calls) x
            (ap (λ n. served_by m n) (h.consistent.coherent.threads.thread_number u x.number (ap number_in e)) ∙ none_served m h u d)
            f

-- acts

abbrev pub KeepsEndsIn : State → State → Type 0
KeepsEndsIn m n = KeepsEnds m.process_table n.process_table

leave_process_keeps : (m : State) (p : ℕ) → Invariant m → KeepsEndsIn m (leave_process m p)
leave_process_keeps m p h =
    keeps_then m.process_table (leave m (process_end m.process_table m.doors p)).process_table _
    (leave_keeps m (process_end m.process_table m.doors p) h)
    (end_keeps (leave m (process_end m.process_table m.doors p)).process_table p)

fork_keeps : (m : State) (t child : ℕ) → Invariant m → is_unborn_process m child ≡ true → KeepsEndsIn m (fork m t (process_of m t) child).state
fork_keeps m t child h unborn = record { done = done; ended = λ p e. fork_ends m t (process_of m t) child p unborn ∙ e }
  where
    done : (u : ℕ) → state_of m u ≡ is.Done → state_of (fork m t (process_of m t) child).state u ≡ is.Done
    done u d = go (fork_state m t (process_of m t) child u h unborn)
      where
        go :
            (state_of (fork m t (process_of m t) child).state u ≡ state_of (leave m (forking m.process_table t)) u)
            ⊎ ((state_of m u ≡ is.Dormant) × (state_of (fork m t (process_of m t) child).state u ≡ is.Running)) →
            state_of (fork m t (process_of m t) child).state u ≡ is.Done
        go (inl e) = e ∙ (leave_keeps m (forking m.process_table t) h).done u d
        go (inr e) = absurd (cc (sym e.0 ∙ d))

move_keeps :
    (m : State) (t : ℕ) (q : Option Request) (a : ActResult) → Invariant m → (state_of m t ≡ is.Done → ⊥) → Moves m t q a →
    KeepsEndsIn m a.state
move_keeps m t q a i h (Moves.turns s x _ _) = change_keeps m.process_table t _ h
move_keeps m t q a i h (Moves.calls fd bytes pass rsize f) = change_keeps m.process_table t _ h
move_keeps m t q a i h (Moves.returns bytes pass f e) = change_keeps m.process_table t (idle_thread (now m)) h
move_keeps m t q a i h (Moves.returns_unbound bytes pass f e) = change_keeps m.process_table t thread_outside h
move_keeps m t q a i h (Moves.enters r e f) = change_keeps m.process_table t (thread_in_invocation (item.Call r.number)) h
move_keeps m t q a i h (Moves.fails r e f) = change_keeps m.process_table t (idle_thread (now m)) h
move_keeps m t q a i h (Moves.enters_notice n e) = change_keeps m.process_table t (thread_in_invocation (item.Notice n.number)) h
move_keeps m t q a i h (Moves.collects c e) = change_keeps m.process_table t _ h
move_keeps m t q a i h (Moves.retrieves port max nget one e) = change_keeps m.process_table t (thread_at_state is.Running) h
move_keeps m t q a i h (Moves.leaves r who _) = leave_keeps m who i
move_keeps m t q a i h (Moves.revokes fd f) = leave_keeps m (revocation (door_at m (process_of m t) fd)) i
move_keeps m t q a i h (Moves.ends r p _) = leave_process_keeps m p i
move_keeps m t q a i h (Moves.forks child f) = fork_keeps m t child.0 i (was_unborn m child.0 f)
move_keeps m t q a i h _ = same_keeps m.process_table

-- a thread that takes a turn is not Done
takes_turn : (m : State) (t : ℕ) (q : Option Request) → MayTurn m t q → state_of m t ≡ is.Done → ⊥
takes_turn m t (Some r) may d = absurd (cc (sym may.running ∙ ap is_running_state d))
takes_turn m t None may d = absurd (cc (sym may.runnable ∙ ap (can_go_on m) d))

-- and what the kernel does after them

give_keeps : (m : State) (i : Item) (u : ℕ) → (state_of m u ≡ is.Done → ⊥) → KeepsEndsIn m (give_one m i u)
give_keeps m (item.Call c) u h = change_keeps m.process_table u _ h
give_keeps m (item.Notice n) u h = change_keeps m.process_table u _ h

settle_keeps : (before m : State) → KeepsEndsIn m (settle before m)
settle_keeps before m =
    settle-all (λ n. KeepsEndsIn m n) before
    (record {
      makes = λ n d l e. e;
      fails =
          λ n t l e. keeps_then m.process_table n.process_table _ e
          (change_keeps n.process_table t (thread_at_state is.FailedReturn) (λ d. not_at_both (state_of n t) _ _ (loses_idle n t l).1 d (λ z. cc)));
      gives =
          λ n w x p e. keeps_then m.process_table n.process_table _ e
          (give_keeps n w.item x.thread.0 (λ d. not_at_both (state_of n x.thread.0) _ _ (picked_idle n _ x p) d (λ z. cc)));
      starts =
          λ n t r e. keeps_then m.process_table n.process_table _ e
          (change_keeps n.process_table t (thread_at_state is.Running) (λ d. not_at_both (state_of n t) _ _ r d (λ z. cc)));
    }) (λ n h. h)
    m
    (same_keeps m.process_table)

step_keeps_ends : (m : State) (t : ℕ) (q : Option Request) → Invariant m → MayTurn m t q → KeepsEndsIn m (step m t q).state
unfolding step
step_keeps_ends m t q i may =
    keeps_then m.process_table (act m t q).state.process_table _ (move_keeps m t q _ i (takes_turn m t q may) (act_moves m t q)) (settle_keeps m (act m t q).state)

-- an Exit ends its thread
step_exits_thread : (m : State) → Invariant m → (t : ℕ) → state_of (step m t (Some request.Exit)).state t ≡ is.Done
unfolding step
step_exits_thread m h t =
    (settle_keeps m (exit m t (process_of m t)).state).done t (go (is_last m.process_table t (process_of m t)))
  where
    process : Leaving
    process = process_end m.process_table m.doors (process_of m t)

    itself : (t == t) ≡ true
    itself = grind (arith, nat_tests)

    its : (process_of m t == process_of m t) ≡ true
    its = grind (arith, nat_tests)

    go : (b : Bool) → state_of (if b then leave_process m (process_of m t) else leave_thread m t) t ≡ is.Done
    go true =
        (end_keeps (leave m process).process_table (process_of m t)).done t (leave_done m process t h its)
    go false = leave_done m (thread_end t) t h itself

-- what is left of an ended process

ended_not_live : (o : Option Process) → ended_in o ≡ true → is_live_in o ≡ false
ended_not_live o e = grind arith

not_valid : (x : Door) → x.owner_ended ≡ true → is_valid_in (Some x) ≡ false
not_valid x e = grind (arith, e)

module _ (m : State) (h : Invariant m) (p : ℕ) (e : is_ended m p ≡ true) where
  coherent : IsCoherent (core m)
  coherent = h.consistent.coherent

  threads_done : (t : ℕ) → process_of m t ≡ p → state_of m t ≡ is.Done
  threads_done t f = coherent.processes.ended_done t (ap (is_ended m) f ∙ e)

  pub no_valid_door : (d : ℕ) → owner_in (door_of m d) ≡ Some p → is_valid m d ≡ false
  no_valid_door d f = go (door_of m d) refl f
    where
      go : (o : Option Door) → door_of m d ≡ o → owner_in o ≡ Some p → is_valid_in o ≡ false
      go None g k = refl
      go (Some x) g k =
          let own : x.owner.0 ≡ p = grind arith in
          not_valid x
          (coherent.doors.owner_ended d x g
          ∙ ap (λ q. not (is_live_in (at_number m.process_table.processes q))) own
          ∙ ap not (ended_not_live _ e))

  same_owner : (p q : ℕ) (o : Option ℕ) → o ≡ Some p → o ≡ Some q → q ≡ p
  same_owner p q o f g = cc

  owner : (c : ℕ) (s : _) → stage_of m c ≡ Some s → owner_of_call m c ≡ Some p → owner_in (door_of m (door_in (record_of m c))) ≡ Some p
  owner c s f g = sym (owner_same m (record_of m c) s f) ∙ g

  not_valid_and_valid : (b : Bool) → b ≡ true → b ≡ false → ⊥
  not_valid_and_valid b f g = cc

  none_with : (c u : ℕ) → process_of m u ≡ p → (stage_of m c ≡ Some (stage.Given (tid u))) ⊎ (stage_of m c ≡ Some (stage.Entered (tid u))) → ⊥
  none_with c u f (inl g) = not_at_both (state_of m u) _ _ (coherent.waits.given c u g) (threads_done u f) (λ z. cc)
  none_with c u f (inr g) =
      absurd (cc (sym (ap item_in (coherent.servers.outside u (ap is_outside (threads_done u f)))) ∙ coherent.invocations.entered c u g))

  no_call : HasNoCall m p
  no_call c u f (inl g) =
      not_valid_and_valid _ (coherent.at_doors.waiting_valid c g) (no_valid_door (door_in (record_of m c)) (owner c _ g f))
  no_call c u f (inr (inl g)) = none_with c u (same_owner p _ _ (owner c _ g f) (coherent.at_doors.given_owner c u g)) (inl g)
  no_call c u f (inr (inr g)) = none_with c u (same_owner p _ _ (owner c _ g f) (coherent.at_doors.entered_owner c u g)) (inr g)

  -- the same of notices

  notice_owner :
      (c : ℕ) (s : NoticeStage) → notice_stage_of m c ≡ Some s → owner_of_notice m c ≡ Some p →
      owner_in (door_of m (noticed_door_in (notice_of m c))) ≡ Some p
  notice_owner c s e f = go (notice_of m c) e f
    where
      go : (o : Option Notice) → notice_in o ≡ Some s → owner_in (notice_door m o) ≡ Some p → owner_in (door_of m (noticed_door_in o)) ≡ Some p
      go None g h = absurd (cc g)
      go (Some x) g h = h

  serves_no_notice : ServesNoNotice m p
  serves_no_notice c u f (inl g) =
      not_at_both (state_of m u) _ _ (coherent.notices_given.notice_given c u g) (threads_done u f) (λ z. cc)
  serves_no_notice c u f (inr g) =
      absurd (cc (sym (ap item_in (coherent.servers.outside u (ap is_outside (threads_done u f)))) ∙ coherent.notices_entered.notice_entered c u g))

  no_notice : HasNoNotice m p
  no_notice c u f (inl g) =
      not_valid_and_valid _ (coherent.notices_at_doors.notice_valid c g) (no_valid_door (noticed_door_in (notice_of m c)) (notice_owner c _ g f))
  no_notice c u f (inr (inl g)) =
      serves_no_notice c u (same_owner p _ _ (notice_owner c _ g f) (coherent.notices_at_doors.notice_given_owner c u g)) (inl g)
  no_notice c u f (inr (inr g)) =
      serves_no_notice c u (same_owner p _ _ (notice_owner c _ g f) (coherent.notices_at_doors.notice_entered_owner c u g)) (inr g)

  pub has_ended : (own : (c : ℕ) (r : Call) → record_of m c ≡ Some r → is_live r.stage ≡ true → state_of m r.caller.0 ≡ is.Calling c) → HasEnded m p
  has_ended own =
      record {
        no_row = λ fd. h.consistent.no_rows p fd (ended_not_live _ e);
        threads_done = threads_done;
        no_valid_door = no_valid_door;
        no_call = no_call;
        serves_none = none_with;
        no_notice = no_notice;
        serves_no_notice = serves_no_notice;
        none_live = none_live;
      }
    where
      none_live : (c : ℕ) (r : Call) → record_of m c ≡ Some r → process_of m r.caller.0 ≡ p → is_live r.stage ≡ false
      none_live c r f g = go (is_live r.stage) refl
        where
          go : (b : Bool) → is_live r.stage ≡ b → b ≡ false
          go false k = refl
          go true k = absurd (not_at_both (state_of m r.caller.0) _ _ (own c r f k) (threads_done r.caller.0 g) (λ z. cc))

module _ (m : State) (xs : List Turn) (k : Known m xs) where
  pub keeps_at : (i : ℕ) (x : Turn) → slice_get xs i ≡ Some x → KeepsEndsIn (state_at m xs i) (state_at m xs (i + 1))
  keeps_at i x e =
      subst (λ n. KeepsEndsIn (state_at m xs i) n) (sym (next m xs k i x e))
      (step_keeps_ends (state_at m xs i) x.thread x.request (invariant_before m xs k i x e) (k.may i x e))

  -- at which turns threads and processes end

  thread_ends_why :
      (i t : ℕ) (x : Turn) → slice_get xs i ≡ Some x → EndsNow (state_at m xs i) (state_at m xs (i + 1)) t → ThreadEnds m xs i x t
  thread_ends_why i t x e h =
      go x.request refl
      (step_ends_thread (state_at m xs i) (invariant_before m xs k i x e) x.thread t x.request
      (subst (λ n. EndsNow (state_at m xs i) n t) (next m xs k i x e) h))
    where
      go :
          (q : Option Request) → x.request ≡ q → EndsThread (state_at m xs i) x.thread t (step (state_at m xs i) x.thread x.request).state q →
          ThreadEnds m xs i x t
      go q f (own_exit g) = exits f g
      go q f (process_over g) = with_process (ap (λ n. is_ended n (process_at m xs i t)) (next m xs k i x e) ∙ g)

  process_ends_why :
      (i p : ℕ) (x : Turn) → slice_get xs i ≡ Some x → is_ended (state_at m xs i) p ≡ false → is_ended (state_at m xs (i + 1)) p ≡ true →
      EndsProcess m xs i x p
  process_ends_why i p x e b a =
      go x.request refl
      (step_ends_one (state_at m xs i) x.thread p b x.request (ap (λ n. is_ended n p) (sym (next m xs k i x e)) ∙ a))
    where
      go : (q : Option Request) → x.request ≡ q → EndsOne (state_at m xs i) x.thread p q → EndsProcess m xs i x p
      go q f (kills_one process g b) = kills process f g b
      go q f (exits_last g l) = exits_process f g (last_is (state_at m xs i) (invariant_before m xs k i x e) x.thread p l)

  process_is_there : (i : ℕ) (x : Turn) (process : Pid) → slice_get xs i ≡ Some x → x.request ≡ Some (request.Kill process) →
      is_some (at_number (state_at m xs i).process_table.processes process.0) ≡ true
  process_is_there i x process e q = go (subst (MayTurn (state_at m xs i) x.thread) q (k.may i x e))
    where
      go : MayEnter (state_at m xs i) x.thread (request.Kill process) → is_some (at_number (state_at m xs i).process_table.processes process.0) ≡ true
      go h = is_some-at_number (state_at m xs i).process_table.processes process.0 ∙ grind (arith, nat_tests, h.fit)

  process_ends_where :
      (i p : ℕ) (x : Turn) → slice_get xs i ≡ Some x → EndsProcess m xs i x p → is_ended (state_at m xs (i + 1)) p ≡ true
  process_ends_where i p x e (kills process f g b) =
      subst (λ n. is_ended (state_at m xs (i + 1)) n ≡ true) g
      (ap (λ n. is_ended n process.0) (next m xs k i x e ∙ ap (λ q. (step (state_at m xs i) x.thread q).state) f)
      ∙ step_kills (state_at m xs i) x.thread process (process_is_there i x process e f)
      (subst (λ n. is_unborn_process (state_at m xs i) n ≡ false) (sym g) b))
  process_ends_where i p x e (exits_process f g l) =
      subst (λ n. is_ended (state_at m xs (i + 1)) n ≡ true) g
      (ap (λ n. is_ended n (process_at m xs i x.thread)) (next m xs k i x e ∙ ap (λ q. (step (state_at m xs i) x.thread q).state) f)
      ∙ step_exits (state_at m xs i) x.thread
      (process_there (state_at m xs i) (invariant_before m xs k i x e) x.thread (takes_turn (state_at m xs i) x.thread x.request (k.may i x e)))
      (is_last_thread (state_at m xs i) (invariant_before m xs k i x e) x.thread (process_at m xs i x.thread)
      (subst (IsLast (state_at m xs i) x.thread) (sym g) l)))

  same_process : (i t : ℕ) (x : Turn) → slice_get xs i ≡ Some x → process_of (state_at m xs (i + 1)) t ≡ process_at m xs i t
  same_process i t x e = ap (λ n. process_of n t) (next m xs k i x e) ∙ process_of-step (state_at m xs i) x.thread t x.request

  thread_ends_where :
      (i t : ℕ) (x : Turn) → slice_get xs i ≡ Some x → ThreadEnds m xs i x t → state_of (state_at m xs (i + 1)) t ≡ is.Done
  thread_ends_where i t x e (exits f g) =
      subst (λ n. state_of (state_at m xs (i + 1)) n ≡ is.Done) g
      (ap (λ n. state_of n x.thread) (next m xs k i x e ∙ ap (λ q. (step (state_at m xs i) x.thread q).state) f)
      ∙ step_exits_thread (state_at m xs i) (invariant_before m xs k i x e) x.thread)
  thread_ends_where i t x e (with_process f) =
      threads_done (state_at m xs (i + 1)) (invariant_after m xs k i x e) (process_at m xs i t) f t (same_process i t x e)

  pub ends_holds : Ends m xs
  ends_holds =
      record {
        process = λ i p l e. has_ended (state_at m xs i) (k.invariant i l) p e (λ c r. caller_waits m xs k i c r l);
        process_stays = λ i j p. stays m xs (λ n. is_ended n p ≡ true) i (λ a x l f. (keeps_at a x f).ended p) j;
        thread_ends_why = thread_ends_why;
        thread_ends_where = thread_ends_where;
        process_ends_why = process_ends_why;
        process_ends_where = process_ends_where;
        thread_stays = λ i j t. stays m xs (λ n. state_of n t ≡ is.Done) i (λ a x l f. (keeps_at a x f).done t) j;
      }
