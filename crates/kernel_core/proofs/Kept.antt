-- A kernel's events keep that what it keeps comes from a written state, and a refused entry changes nothing else.
use Rattle.std.proofs.Common.{◌≡◌, ℕ, ◌+◌, ◌*◌, ◌<◌, ◌≤◌, ◌||◌, ⊎_elim, true≢false, Bool, true, false, if◌then◌else◌, not, List, Option, Some, None, Result, Ok, Err, IfOk, OnOk, OnErr, slice_get, length, refl, subst, sym, ap, ◌∙◌, arith, All, is_some}
use Rattle.std.specs.List.{list_any}
use Rattle.spec_records.proofs.NumberedLists.{find-slice_get}
use Rattle.spec_kernel.specs.Types.{Call, CallStage, Door, Errno, NoMemory, Notice, NoticeStage, Process, Request, Stepped, Thread, ThreadState, Tid}
use Rattle.dk_base.specs.declared.answer.Answer.TheVariants.{Failure}
use Rattle.dk_base.specs.declared.limits.TheConstants.{ADVANCE_MAX, EVENTS_MAX, THREADS_MAX}
use Rattle.spec_kernel.specs.Words.{IsOpening, IsStep, MayTurn, StandsFor, State, act, effect, forget, has_lost_door, opening, pick, pool_of, invocation_of, state_of, process_of, refusal_of, step, unless_refused, waiting_items, with_child, with_event_counted, with_new_thread, bound_of, is_live_process, is_thread_of, is_unborn_process, door_of, port, port_at, table_of, thread_of}
use Rattle.spec_kernel.specs.Opening.IsOpening.{child, processes, thread}
use Rattle.spec_kernel.proofs.Forget.{IsStep-stands_for, act-forget, is_runnable-forget, refusal_of-forget, waiting_items-forget}
use Rattle.dk_base.specs.ByNumber.{at_number}
use Rattle.std.proofs.lemmas.Bool.Decides.{nat_tests}
use Rattle.spec_records.specs.declared.record.CallStage.TheVariants as stage
use Rattle.spec_records.specs.declared.record.NoticeStage.TheVariants as notice
use Rattle.spec_records.specs.declared.record.ThreadState.TheVariants as is
use Rattle.dk_base.specs.declared.object.Item.TheVariants as item
use Rattle.spec_records.specs.Words.{call_number, is_kept_notice, is_live_call, is_live_in, is_live_stage, is_owned_by, is_private_in, is_queued, is_unborn_in, is_unborn_stage, is_valid_door, is_valid_in, is_waiting_stage, notice_number, process_in, tid}
use Rattle.spec_records.proofs.Lists.{numbered_there}
use Rattle.spec_kernel.proofs.Opening.{IsDeclaredIn, forget-opening, opened}
use Rattle.spec_kernel.proofs.Steps.{events-step}
use Rattle.law_channels.specs.Channels.{AreChannels}
use Rattle.law_channels.proofs.Acts.{step_fits}
use Rattle.law_channels.proofs.Runs.{opening_fits}
use Rattle.spec_records.specs.declared.pool.TheConstants.{LOST_DOOR}
use Rattle.law_states.specs.Coherent.{bound_for, is_unfit}
use Rattle.law_states.specs.Core.{door_in, is_outside, notice_in, noticed_door_in, number_in}
use Rattle.law_states.specs.Events.{Keeps, may_lose_door}
use Rattle.law_states.specs.Invariant.{IsConsistent}
use Rattle.law_states.specs.Told.{AreTold}
use Rattle.law_channels.specs.Changed.{OnlyLiveHaveRows, UnbornHaveNoRows}
use Rattle.law_channels.proofs.Kept.{told-forget, told-kept, unborn_have_none}
use Rattle.law_states.specs.Records.{item_in, notice_of, owner_in, record_of, stage_in}
use Rattle.kernel_store.specs.Words.{AreHeld, ArePlaced, WaitAtValidDoors, held_as, stored_state}
use Rattle.kernel_core.specs.declared.event.Parts.{Parts}
use Rattle.kernel_core.specs.Acted.{CanStep, IsBetweenEvents}
use Rattle.kernel_core.proofs.CacheLines.{line_changes_nothing}
use Rattle.kernel_core.proofs.Live.{live_state, stands_live}
use Rattle.law_states.proofs.Events.{step_keeps}
use Rattle.law_states.proofs.Openings.{opening_keeps}
use Rattle.law_states.proofs.Refusals.{refused_gives, unchanged_gives}
use Rattle.law_states.proofs.Settling.{no_lost_door}
use Rattle.law_states.proofs.Steps.{act_does}
use Rattle.kernel_core.specs.Entries.{is_cache_line}
use Rattle.kernel_core.specs.Kept.{IsKept}
use Rattle.kernel_core.specs.Numbers.{HasNumbersLeft}
use Rattle.kernel_core.specs.Watched.{IsReadyForNotices}
use Rattle.kernel_core.specs.Within.{IsWithin}
use Rattle.kernel_core.proofs.Watching.{act_keeps_doors, kept_keeps_doors}
use Rattle.kernel_core.specs.Woken.{HasTurns, HasTurnsAfter}
use Rattle.kernel_core.proofs.Channels.{few_queued, named_port_made, waits_at_made}
use Rattle.kernel_core.proofs.Grows.{IsFitTurn}
use Rattle.kernel_core.proofs.Readers.{kept_of}
use Rattle.kernel_core.proofs.Turning.{turns_consistent}

-- a turn of what is kept is a turn of what it stands for
may_stands : (m : State) (t : ℕ) (q : Option Request) → MayTurn (forget m) t q → MayTurn m t q
may_stands m t (Some r) may =
    record { running = may.running; fit = may.fit; few = may.few }
may_stands m t None may =
    record { runnable = sym (is_runnable-forget m t) ∙ may.runnable; waits = may.waits; few = may.few }

-- what is known of an event of a kept state
record Stands (kept new : State) (t : ℕ) (q : Option Request) (s : Stepped) : Type 0 where
  written : State
  stands : StandsFor kept written
  keeps : Keeps written t q
  channels : AreChannels (step written t q).state
  done : IsStep (step written t q) new s

stands_of :
    (kept new : State) (t : ℕ) (q : Option Request) (s : Stepped) → IsKept kept → MayTurn kept t q →
    IsStep (step kept t q) new s → Stands kept new t q s
stands_of kept new t q s k may h =
    let turn = may_stands k.written t q (subst (λ m. MayTurn m t q) k.stands may) in
    record {
      written = k.written;
      stands = k.stands;
      keeps = step_keeps k.written t q k.invariant turn;
      channels = step_fits k.written t q k.channels turn;
      done = IsStep-stands_for kept k.written t q new s k.stands h;
    }

after_none : (n : ℕ) → n + 1 ≡ 0 → ⊥
after_none n e = omega arith

pub kept_step :
    (kept new : State) (t : ℕ) (q : Option Request) (s : Stepped) → IsKept kept → MayTurn kept t q →
    IsStep (step kept t q) new s → IsKept new
kept_step kept new t q s k may h =
    let w : Stands kept new t q s = stands_of kept new t q s k may h in
    record {
      written = (step w.written t q).state;
      stands = w.done.state;
      invariant = w.keeps.invariant;
      channels = w.channels;
      opening =
          λ e. absurd (after_none w.written.events (sym (events-step w.written t q) ∙ sym (ap (λ (m : State). m.events) w.done.state) ∙ e));
    }

-- a refusal of what is kept is one of what it stands for
refusal_stands :
    (kept m : State) (t : ℕ) (r : Request) (e : Errno) → StandsFor kept m → refusal_of kept t (process_of kept t) r ≡ Some e →
    refusal_of m t (process_of m t) r ≡ Some e
refusal_stands kept m t r e h g =
    sym (refusal_of-forget m t (process_of m t) r) ∙ sym (ap (λ k. refusal_of k t (process_of k t) r) h) ∙ g

refused_answer : (m : State) (t : ℕ) (r : Request) (e : Errno) → refusal_of m t (process_of m t) r ≡ Some e → (step m t (Some r)).answer ≡ Failure e
unfolding step
refused_answer m t r e g = ap (λ o. (unless_refused m o (effect m t (process_of m t) r)).answer) g

pub refused_step :
    (kept new : State) (t : ℕ) (r : Request) (s : Stepped) (e : Errno) → IsKept kept → MayTurn kept t (Some r) →
    IsStep (step kept t (Some r)) new s → refusal_of kept t (process_of kept t) r ≡ Some e →
    (s.answer ≡ Failure e) × (new ≡ with_event_counted kept)
refused_step kept new t r s e k may h g =
    let w : Stands kept new t (Some r) s = stands_of kept new t (Some r) s k may h in (
      h.answer ∙ refused_answer kept t r e g,
      w.done.state
          ∙ ap forget (w.keeps.refused r e refl (refusal_stands kept w.written t r e w.stands g))
          ∙ ap with_event_counted (sym w.stands),
    )

-- no pool of a state has both a waiting item and an idle thread

abbrev HasNoneIdle : State → Type 0
HasNoneIdle m = All (λ w. pick m (pool_of m w.door) ≡ None) (waiting_items m)

none_idle-forget : (m : State) → HasNoneIdle m → HasNoneIdle (forget m)
none_idle-forget m h = subst (λ ws. All (λ w. pick (forget m) (pool_of (forget m) w.door) ≡ None) ws) (sym (waiting_items-forget m)) h

none_idle-of_forget : (m : State) → HasNoneIdle (forget m) → HasNoneIdle m
none_idle-of_forget m h = subst (λ ws. All (λ w. pick m (pool_of m w.door) ≡ None) ws) (waiting_items-forget m) h

-- no thread of a state that a kernel stands for is idle and bound to an invalid door
lost_stands : (kept m : State) (u : ℕ) → IsKept kept → StandsFor kept m → has_lost_door m u ≡ false
lost_stands kept m u k h = ap (λ n. has_lost_door n u) (sym h ∙ k.stands) ∙ no_lost_door k.written k.invariant u

-- the same after the act of a turn that takes no door from an idle thread

may_lose-forget : (m : State) (t : ℕ) (q : Option Request) → may_lose_door (forget m) t q ≡ may_lose_door m t q
may_lose-forget m t None = refl
may_lose-forget m t (Some r) = refl

pub none_lost :
    (kept m : State) (t : ℕ) (q : Option Request) → kept ≡ m → IsKept kept → MayTurn m t q → may_lose_door kept t q ≡ false → (u : ℕ) →
    has_lost_door (act kept t q).state u ≡ false
none_lost kept m t q same k may stays u =
    let w = may_stands k.written t q (subst (λ n. MayTurn n t q) k.stands (subst (λ n. MayTurn n t q) (sym same) may)) in
    ap (λ n. has_lost_door (act n t q).state u) k.stands
    ∙ ap (λ n. has_lost_door n u) (act-forget k.written t q).state
    ∙ (step_keeps k.written t q k.invariant w).none_lost
    (sym (may_lose-forget k.written t q) ∙ ap (λ n. may_lose_door n t q) (sym k.stands) ∙ stays) u

-- a refused entry of each state that a kernel stands for
pub refused_stands :
    (kept m : State) (t : ℕ) (r : Request) (e : Errno) → IsKept kept → StandsFor kept m →
    refusal_of m t (process_of m t) r ≡ Some e → (step m t (Some r)).state ≡ with_event_counted m
refused_stands kept m t r e k h g =
    refused_gives m t r e (λ u. lost_stands kept m u k h)
    (none_idle-of_forget m (subst HasNoneIdle (sym k.stands ∙ h) (none_idle-forget k.written k.invariant.given_out)))
    (told-kept m (subst AreTold (sym k.stands ∙ h) (told-forget k.written k.invariant.told)))
    g

-- a line for a cache, after which nothing is left to give or to tell
pub line_counts : (kept : State) (t : ℕ) (r : Request) → IsKept kept → is_cache_line r ≡ true → (step kept t (Some r)).state ≡ with_event_counted kept
line_counts kept t r k line =
    let itself : StandsFor kept kept = sym (live_state kept (stands_live kept k.written k.stands)) in
    unchanged_gives kept t (Some r) (λ u. lost_stands kept kept u k itself)
    (subst HasNoneIdle (sym k.stands) (none_idle-forget k.written k.invariant.given_out))
    (subst AreTold (sym k.stands) (told-forget k.written k.invariant.told))
    (line_changes_nothing kept t r line)

-- the same of a result

pub kept_result :
    (kept old new : State) (t : ℕ) (q : Option Request) (o : Result Stepped NoMemory) → kept ≡ old → IsKept kept →
    MayTurn old t q → IfOk o (λ s. IsStep (step kept t q) new s) → OnErr o (new ≡ kept) → IsKept new
kept_result kept old new t q (Ok s) same k may h e =
    kept_step kept new t q s k (subst (λ m. MayTurn m t q) (sym same) may) h
kept_result kept old new t q (Err x) same k may h e = subst IsKept (sym e) k

pub refused_result :
    (kept old new : State) (t : ℕ) (r : Request) (o : Result Stepped NoMemory) → kept ≡ old → IsKept kept →
    MayTurn old t (Some r) → IfOk o (λ s. IsStep (step kept t (Some r)) new s) →
    IfOk o (λ s. (e : Errno) → refusal_of old t (process_of old t) r ≡ Some e → (s.answer ≡ Failure e) × (new ≡ with_event_counted old))
refused_result kept old new t r (Ok s) same k may h =
    λ e g.
    let at : refusal_of kept t (process_of kept t) r ≡ Some e = ap (λ n. refusal_of n t (process_of n t) r) same ∙ g in
    let told = refused_step kept new t r s e k (subst (λ m. MayTurn m t (Some r)) (sym same) may) h at in
    (told.0, told.1 ∙ ap with_event_counted same)
refused_result kept old new t r (Err x) same k may h = tt

-- openings

pub opening_kept : {m : State} → IsOpening m → IsKept m
opening_kept {m} o =
    record { written = m; stands = sym (forget-opening o); invariant = opening_keeps m o; channels = opening_fits m o; opening = λ e. o }

-- the processes of an opening live, or have not begun
pub opening_stands : (m : State) (p : ℕ) → IsOpening m → IsDeclaredIn m p → (is_live_process m p || is_unborn_process m p) ≡ true
opening_stands m p o there = go (at_number m.process_table.processes p) refl (numbered_there m.process_table.processes p there.0 there.1)
  where
    go : (x : Option Process) → at_number m.process_table.processes p ≡ x → is_some x ≡ true → (is_live_in x || is_unborn_in x) ≡ true
    go None e f = grind arith
    go (Some x) e f =
        ⊎_elim (λ s. ap (λ k. is_live_stage k || is_unborn_stage k) s) (λ s. ap (λ k. is_live_stage k || is_unborn_stage k) s) ((opened o).processes p x e).stage

-- a process of an opening becomes a child
pub child_kept :
    (old new : State) (child parent : ℕ) → IsKept old → old.events ≡ 0 → (1 ≤ parent) × (parent < child) × (child ≤ length old.process_table.processes) →
    length (table_of old child) ≡ length (table_of old parent) → list_any (is_thread_of child) old.process_table.threads ≡ false →
    new ≡ with_child old child parent → IsKept new
child_kept old new c parent k z order limit none e = subst IsKept (sym e) (opening_kept (child c parent order.0 order.1 order.2 limit none (k.opening z)))

pub within_child : (m : State) (child parent : ℕ) → IsWithin m → IsWithin (with_child m child parent)
within_child m c parent w = record { events = w.events; doors = w.doors; calls_made = w.calls_made; notices_made = w.notices_made; small = w.small }

pub processes_kept : (limits : List ℕ) (m : State) → m ≡ opening limits → IsKept m
processes_kept limits m e = subst IsKept (sym e) (opening_kept (processes limits))

pub thread_kept :
    (old new : State) (p : ℕ) (spare : Bool) → IsKept old → old.events ≡ 0 → IsDeclaredIn old p → length old.process_table.threads < THREADS_MAX →
    new ≡ with_new_thread old p spare → IsKept new
thread_kept old new p spare k z there few e = subst IsKept (sym e) (opening_kept (thread p spare there.0 there.1 few (k.opening z)))

within_thread : (m : State) (p : ℕ) (spare : Bool) → IsWithin m → IsWithin (with_new_thread m p spare)
within_thread m p spare w = record { events = w.events; doors = w.doors; calls_made = w.calls_made; notices_made = w.notices_made; small = w.small }

-- another thread of a kernel that has made no event
pub thread_result :
    (old new : State) (p : ℕ) (spare : Bool) → IsKept old → IsWithin old → old.events ≡ 0 → IsDeclaredIn old p →
    length old.process_table.threads < THREADS_MAX → (o : Result Tid NoMemory) → OnOk o (new ≡ with_new_thread old p spare) →
    OnErr o (new ≡ old) → IsKept new × IsWithin new
thread_result old new p spare k w z there few (Ok t) h e =
    (thread_kept old new p spare k z there few h, subst IsWithin (sym h) (within_thread old p spare w))
thread_result old new p spare k w z there few (Err x) h e = (subst IsKept (sym e) k, subst IsWithin (sym e) w)

queued_stage : (s : CallStage) → is_queued s ≡ true → s ≡ stage.Queued
queued_stage stage.Queued e = refl
queued_stage s e = grind arith

waiting_stage : (s : NoticeStage) → is_waiting_stage s ≡ true → s ≡ notice.Waiting
waiting_stage notice.Waiting e = refl
waiting_stage s e = grind arith

-- processes and doors are where threads, bindings, calls and notices say

module _ (m : State) (h : IsConsistent m) where
  thread_is : (t : ℕ) (x : Thread) → thread_of m t ≡ Some x → number_in (thread_of m t) ≡ Some x.number
  thread_is t x e = ap number_in e

  owner_is : (d : ℕ) (x : Door) → door_of m d ≡ Some x → is_valid_door x ≡ true → is_some (at_number m.process_table.processes x.owner.0) ≡ true
  owner_is d x e v = go (at_number m.process_table.processes x.owner.0) (h.coherent.doors.owner_ended d x e)
    where
      go : (o : Option Process) → x.owner_ended ≡ not (is_live_in o) → is_some o ≡ true
      go None f = grind (arith, nat_tests)
      go (Some y) f = refl

  own_is : (p d : ℕ) → owner_in (door_of m d) ≡ Some p → is_owned_by p (door_of m d) ≡ true
  own_is p d e = go (door_of m d) e
    where
      go : (o : Option Door) → owner_in o ≡ Some p → is_owned_by p o ≡ true
      go None f = grind arith
      go (Some x) f = grind (arith, nat_tests)

  queued_is : (i : ℕ) (r : Call) → slice_get m.call_tree.calls i ≡ Some r → is_some (door_of m r.door) ≡ true
  queued_is i r e = h.coherent.at_doors.door_there r.number r (find-slice_get call_number m.call_tree.calls 0 i r h.in_order e)

  noticed_is : (i : ℕ) (n : Notice) → slice_get m.notice_list.notices i ≡ Some n → is_some (door_of m n.door) ≡ true
  noticed_is i n e =
      let found : notice_of m n.number ≡ Some n = find-slice_get notice_number m.notice_list.notices 0 i n h.notices_in_order e in
      ap (λ o. is_some (door_of m (noticed_door_in o))) (sym found)
      ∙ h.coherent.notices_at_doors.notice_door n.number (ap (λ o. is_some (notice_in o)) found)

  -- a thread that was given a call is bound to the call's door, or to none
  given_not_lost : (i : ℕ) (r : Call) (u : Tid) → slice_get m.call_tree.calls i ≡ Some r → r.stage ≡ stage.Given u → bound_of m u.0 ≡ Some LOST_DOOR → ⊥
  given_not_lost i r u e s lost =
      let found = find-slice_get call_number m.call_tree.calls 0 i r h.in_order e in
      let bound = h.coherent.at_doors.given_bound r.number u.0 (ap stage_in found ∙ ap Some s) in
      none (door_in (record_of m r.number)) (sym bound ∙ lost)
    where
      none : (d : ℕ) → bound_for d (door_of m d) ≡ Some LOST_DOOR → ⊥
      none d f = go (is_private_in (door_of m d)) refl f
        where
          go : (b : Bool) → is_private_in (door_of m d) ≡ b → (if b then Some d else None) ≡ Some LOST_DOOR → ⊥
          go true g k =
              let same : d ≡ LOST_DOOR = cc in
              true≢false (sym g ∙ ap is_private_in (ap (door_of m) same ∙ h.coherent.doors.none_lost))
          go false g k = cc

  places : ArePlaced m
  places =
      record {
        thread_number = λ t x e. h.coherent.threads.thread_number t x.number (thread_is t x e);
        process_there = λ t x e. ap (λ o. is_some (at_number m.process_table.processes (process_in o))) (sym e) ∙ h.coherent.threads.process_there t x.number (thread_is t x e);
        owner_there = owner_is;
        door_number = λ d x e. h.coherent.doors.door_number d x e;
        bound_private = λ t d e f. h.coherent.bindings.bound_private t d e f;
        bound_own = λ t d e f. own_is (process_of m t) d (h.coherent.bindings.bound_own t d e f);
        given_not_lost = given_not_lost;
        queued_door = λ i r e q. queued_is i r e;
        notice_door = noticed_is;
      }

  waiting_valid : (i : ℕ) (r : Call) → slice_get m.call_tree.calls i ≡ Some r → is_queued r.stage ≡ true → is_valid_in (door_of m r.door) ≡ true
  waiting_valid i r e q =
      let found = find-slice_get call_number m.call_tree.calls 0 i r h.in_order e in
      ap (λ o. is_valid_in (door_of m (door_in o))) (sym found)
      ∙ h.coherent.at_doors.waiting_valid r.number (ap stage_in found ∙ ap Some (queued_stage r.stage q))

  notice_valid : (i : ℕ) (n : Notice) → slice_get m.notice_list.notices i ≡ Some n → is_waiting_stage n.stage ≡ true → is_valid_in (door_of m n.door) ≡ true
  notice_valid i n e w =
      let found : notice_of m n.number ≡ Some n = find-slice_get notice_number m.notice_list.notices 0 i n h.notices_in_order e in
      ap (λ o. is_valid_in (door_of m (noticed_door_in o))) (sym found)
      ∙ h.coherent.notices_at_doors.notice_valid n.number (ap notice_in found ∙ ap Some (waiting_stage n.stage w))

  waits : WaitAtValidDoors m
  waits = record { calls = waiting_valid; notices = notice_valid }

  -- a thread that has entered a notice is not given another item
  entered_held : (t c : ℕ) → item_in (invocation_of m t) ≡ Some (item.Notice c) → held_as (state_of m t) (invocation_of m t) ≡ Some (item.Notice c)
  entered_held t c e = go (state_of m t) refl
    where
      go : (s : ThreadState) → state_of m t ≡ s → held_as (state_of m t) (invocation_of m t) ≡ Some (item.Notice c)
      go (is.Given i) f = let out = h.coherent.servers.outside t (ap is_outside f) in absurd (cc)
      go s f = ap (λ k. held_as k (invocation_of m t)) f ∙ e

  held : AreHeld m
  held i t x e has = go x.stage refl
    where
      found : notice_of m x.number ≡ Some x
      found = find-slice_get notice_number m.notice_list.notices 0 i x h.notices_in_order e

      stage_is : (s : NoticeStage) → x.stage ≡ s → notice_in (notice_of m x.number) ≡ Some s
      stage_is s f = ap notice_in found ∙ ap (λ k. Some k) f

      go : (s : NoticeStage) → x.stage ≡ s → held_as (state_of m t) (invocation_of m t) ≡ Some (item.Notice x.number)
      go (notice.Given u) f =
          let whose : u.0 ≡ t = grind (arith, nat_tests) in
          ap (λ k. held_as k (invocation_of m t))
          (h.coherent.notices_given.notice_given x.number t (stage_is (notice.Given u) f ∙ ap (λ k. Some (notice.Given (tid k))) whose))
      go (notice.Entered u) f =
          let whose : u.0 ≡ t = grind (arith, nat_tests) in
          entered_held t x.number (h.coherent.notices_entered.notice_entered x.number t (stage_is (notice.Entered u) f ∙ ap (λ k. Some (notice.Entered (tid k))) whose))
      go s f = absurd (grind arith)

placed-forget : (n : State) → ArePlaced n → ArePlaced (forget n)
placed-forget n h =
    record {
      thread_number = h.thread_number;
      process_there = h.process_there;
      owner_there = h.owner_there;
      door_number = h.door_number;
      bound_private = h.bound_private;
      bound_own = h.bound_own;
      given_not_lost = λ i r u e s. let at = kept_of is_live_call n.call_tree.calls i r e in h.given_not_lost at.0 r u at.1 s;
      queued_door = λ i r e q. let at = kept_of is_live_call n.call_tree.calls i r e in h.queued_door at.0 r at.1 q;
      notice_door = λ i x e. let at = kept_of (is_kept_notice n.doors) n.notice_list.notices i x e in h.notice_door at.0 x at.1;
    }

waits-forget : (n : State) → WaitAtValidDoors n → WaitAtValidDoors (forget n)
waits-forget n h =
    record {
      calls = λ i r e q. let at = kept_of is_live_call n.call_tree.calls i r e in h.calls at.0 r at.1 q;
      notices = λ i x e w. let at = kept_of (is_kept_notice n.doors) n.notice_list.notices i x e in h.notices at.0 x at.1 w;
    }

held-forget : (n : State) → AreHeld n → AreHeld (forget n)
held-forget n h i t x e has = let at = kept_of (is_kept_notice n.doors) n.notice_list.notices i x e in h at.0 t x at.1 has

-- who can take a turn, now and after an event

pub turns_kept : (m : State) → IsKept m → HasTurns m
turns_kept m k = subst HasTurns (sym k.stands) (turns_consistent k.written k.invariant.consistent)

pub turning :
    (kept m : State) (t : ℕ) (q : Option Request) → kept ≡ m → IsKept kept → MayTurn m t q → HasTurnsAfter kept t q
turning kept m t q same k may =
    let after = step kept t q in
    turns_kept (forget after.state)
    (kept_step kept (forget after.state) t q (record { answer = after.answer; woken = after.woken }) k (subst (λ n. MayTurn n t q) (sym same) may)
    (record { state = refl; answer = refl; woken = refl }))

-- what numbers and waits of a kept state stay within
pub numbers_kept : (m : State) → IsKept m → IsWithin m → m.events < EVENTS_MAX → HasNumbersLeft m
numbers_kept m k w few =
    let events = ap (λ (n : State). n.events) k.stands in
    record {
      events = few;
      doors = omega (arith, w.doors, few);
      calls = omega (arith, w.calls_made, few);
      notices = omega (arith, w.notices_made, few);
      pipes = omega (arith, ap (λ (n : State). length n.channels.pipes) k.stands, k.channels.few_pipes, events, few);
      ports = omega (arith, ap (λ (n : State). length n.channels.ports) k.stands, k.channels.few_ports, events, few);
      associations = omega (arith, ap (λ (n : State). n.channels.associations.made) k.stands, k.channels.few_associations, events, few);
      named = λ p fd. subst (λ (n : State). port_at n p fd ≤ length n.channels.ports) (sym k.stands) (named_port_made k.written k.channels p fd);
      timers = omega (arith, ap (λ (n : State). n.channels.timers.made) k.stands, k.channels.few_timers, events, few);
      queued =
          λ q.
          omega (
            arith,
            few_queued k.written k.channels q,
            ap (λ (n : State). length (port n q).queue) k.stands,
            ap (λ (n : State). n.channels.associations.made) k.stands,
            k.channels.few_associations,
            k.channels.few_timers,
            events,
            few,
          );
    }

-- how far the clock of a kept state has moved on
pub clock_kept : (m : State) → IsKept m → m.channels.timers.clock ≤ ADVANCE_MAX * m.events
clock_kept m k = subst (λ (n : State). n.channels.timers.clock ≤ ADVANCE_MAX * n.events) (sym k.stands) k.channels.early

pub wait_kept : (m : State) (t : ℕ) → IsKept m → IsFitTurn m t None
wait_kept m t k = subst (λ n. IsFitTurn n t None) (sym k.stands) (waits_at_made k.written k.channels t)

pub can_step :
    (p : Parts) (m : State) → stored_state p.store ≡ m →
    IsKept (stored_state p.store) × IsWithin (stored_state p.store) × IsBetweenEvents p →
    m.events < EVENTS_MAX → CanStep p
can_step p m same k few =
    let w : IsWithin (stored_state p.store) = k.1 in
    let early : p.store.events < EVENTS_MAX = omega (arith, ap (λ (n : State). n.events) same) in
    record {
      numbers = numbers_kept (stored_state p.store) k.0 w early;
      told = subst AreTold (sym k.0.stands) (told-forget k.0.written k.0.invariant.told);
      unborn = subst UnbornHaveNoRows (sym k.0.stands) (unborn_have_none k.0.written k.0.invariant.consistent);
      live = subst OnlyLiveHaveRows (sym k.0.stands) k.0.invariant.consistent.no_rows;
      none_past = stands_live (stored_state p.store) k.0.written k.0.stands;
      placed = subst ArePlaced (sym k.0.stands) (placed-forget k.0.written (places k.0.written k.0.invariant.consistent));
      waiting = subst WaitAtValidDoors (sym k.0.stands) (waits-forget k.0.written (waits k.0.written k.0.invariant.consistent));
      held = subst AreHeld (sym k.0.stands) (held-forget k.0.written (held k.0.written k.0.invariant.consistent));
      none_lost = λ t. ap (λ (n : State). has_lost_door n t) k.0.stands ∙ no_lost_door k.0.written k.0.invariant t;
      fit = λ t. ap (λ (n : State). is_unfit (state_of n t)) k.0.stands ∙ k.0.invariant.consistent.coherent.has_fit_state t;
      between = k.2;
      turns = turns_kept (stored_state p.store) k.0;
    }

-- what the notices after the act of a turn stand on
pub noticing :
    (kept m : State) (t : ℕ) (q : Option Request) → kept ≡ m → IsKept kept → MayTurn m t q →
    IsReadyForNotices kept (forget (act kept t q).state)
noticing kept m t q same k may =
    let w = may_stands k.written t q (subst (λ n. MayTurn n t q) k.stands (subst (λ n. MayTurn n t q) (sym same) may)) in
    let alike : forget (act kept t q).state ≡ forget (act k.written t q).state =
    ap (λ n. forget (act n t q).state) k.stands ∙ (act-forget k.written t q).state in
    let n = (act k.written t q).state in
    record {
      doors =
          kept_keeps_doors k.written n kept (forget (act kept t q).state) k.stands alike
          (act_keeps_doors k.written t q k.invariant (step_keeps k.written t q k.invariant w));
      placed = subst ArePlaced (sym alike) (placed-forget n (places n (act_does k.written t q k.invariant.consistent w).consistent));
    }
