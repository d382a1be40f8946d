-- What a step keeps within.
use Rattle.std.proofs.Common.{◌≡◌, ℕ, ◌+◌, ◌<◌, ◌≤◌, ◌&&◌, not, Bool, true, false, Some, if◌then◌else◌, is_none, length, List, [], ◌∷◌, Option, None, refl, Result, Ok, Err, IfOk, OnErr, OnOk, subst, sym, ap, ◌∙◌, arith}
use Rattle.dk_base.specs.declared.number.Tid.{Tid}
use Rattle.dk_base.specs.Words.{RoomValue}
use Rattle.spec_kernel.specs.Types.{Answer, Errno, Item, NoMemory, Request, Stepped}
use Rattle.kernel_core.specs.declared.event.Parts.{Parts}
use Rattle.kernel_core.specs.declared.event.Taken.{Taken}
use Rattle.kernel_core.specs.Woken.{IsReady, IsReadyToSettle}
use Rattle.dk_base.specs.declared.object.Item.TheVariants as item
use Rattle.spec_records.specs.Words.{first_refusal, has_common_door, is_live_call, is_private}
use Rattle.spec_kernel.proofs.Failing.{doors-fail_returns}
use Rattle.law_pools.specs.Words.{first_common_of, is_this}
use Rattle.law_pools.proofs.Settling.{first_common, no_first_common}
use Rattle.spec_kernel.specs.Words.{IsStep, StandsFor, State, act, create, create_tests, enter, fail_returns, forget, give, give_one, go_on, has_first_common_door, no_process, process_of, settle, state_of, step, unless_refused, with_event_counted, with_new_process, with_processes, woken_threads}
use Rattle.dk_base.specs.declared.answer.Answer.TheVariants as answer
use Rattle.dk_base.specs.declared.request.Request.TheVariants as request
use Rattle.kernel_core.specs.Entries.{made_first, may_make_first}
use Rattle.kernel_core.specs.Kept.{HasNothingPast}
use Rattle.spec_kernel.specs.Small.{IsSmall}
use Rattle.kernel_core.specs.Within.{IsWithin}
use Rattle.spec_records.proofs.Lists.{same_length}
use Rattle.spec_kernel.proofs.Settling.{give-all}
use Rattle.spec_kernel.proofs.Steps.{act-keeps, process_identity}
use Rattle.spec_kernel.proofs.Forget.{IsStep-stands_for, forget-forget, settle-forget, woken_threads-forget}
use Rattle.kernel_core.proofs.Live.{live_state, settle_past}
use Rattle.kernel_core.proofs.Grows.{Grows, IsFitTurn, act-tidy, filter-small, grows_kept, settle-grows}

pub step-within : (m : State) (t : ℕ) (r : Option Request) → IsWithin m → m.events < 1000000 → (step m t r).state.notice_list.made ≤ m.notice_list.made + 1280 → IsWithin (forget (step m t r).state)
unfolding step
step-within m t r w few made =
    let n = (act m t r).state in
    let g = (act-tidy m t r).grows in
    let h = settle-grows m n in
    record {
      events = omega arith;
      doors = omega arith;
      calls_made = omega arith;
      notices_made = omega (arith, w.notices_made, made, h.events, g.events);
      small = filter-small is_live_call (settle m n).call_tree.calls (h.small (g.small w.small));
    }

pub step-small : (m : State) (t : ℕ) (r : Option Request) → IsWithin m → IsFitTurn m t r → IsSmall r (step m t r).answer
unfolding step
step-small m t r w fit = (act-tidy m t r).small w.small fit

-- what a kept state's event did, if memory sufficed, it did to each state that it stands for
pub step_stands :
    (kept old new : State) (t : ℕ) (r : Option Request) (o : Result Stepped NoMemory) → kept ≡ old →
    IfOk o (λ s. IsStep (step kept t r) new s) →
    IfOk o (λ s. (m : State) → StandsFor old m → IsStep (step m t r) new s)
step_stands kept old new t r (Ok s) same h = λ m e. IsStep-stands_for kept m t r new s (same ∙ e) h
step_stands kept old new t r (Err e) same h = tt

pub step_within :
    (kept old new : State) (t : ℕ) (r : Option Request) (o : Result Stepped NoMemory) → kept ≡ old → IsWithin kept →
    old.events < 1000000 → IfOk o (λ s. IsStep (step kept t r) new s) → OnOk o (new.notice_list.made ≤ kept.notice_list.made + 1280) → OnErr o (new ≡ kept) → IsWithin new
step_within kept old new t r (Ok s) same w few h made e =
    let same_events : kept.events ≡ old.events = ap (λ m. m.events) same in
    subst IsWithin (sym h.state) (step-within kept t r w (omega arith) (omega (arith, made, ap (λ (m : State). m.notice_list.made) h.state)))
step_within kept old new t r (Err x) same w few h made e = subst IsWithin (sym e) w

pub step_small :
    (kept new : State) (t : ℕ) (r : Option Request) (o : Result Stepped NoMemory) → IsWithin kept → IsFitTurn kept t r →
    IfOk o (λ s. IsStep (step kept t r) new s) → IfOk o (λ s. IsSmall r s.answer)
step_small kept new t r (Ok s) w fit h = subst (IsSmall r) (sym h.answer) (step-small kept t r w fit)
step_small kept new t r (Err e) w fit h = tt

with_processes-within : (limits : List ℕ) (m : State) → IsWithin m → IsWithin (with_processes m limits)
with_processes-within [] m w = w
with_processes-within (limit ∷ limits) m w =
    with_processes-within limits (with_new_process m limit) (record { events = w.events; doors = w.doors; calls_made = w.calls_made; notices_made = w.notices_made; small = w.small })

no_process-within : IsWithin no_process
no_process-within = record { events = omega arith; doors = omega arith; calls_made = omega arith; notices_made = omega arith; small = tt }

pub opening-within : (limits : List ℕ) (none m : State) → none ≡ no_process → m ≡ with_processes none limits → IsWithin m
opening-within limits none m e h = subst IsWithin (sym (h ∙ ap (λ n. with_processes n limits) e)) (with_processes-within limits no_process no_process-within)

-- threads are woken the same where what is kept is the same
woken_alike : (m x y : State) → forget x ≡ forget y → woken_threads m x ≡ woken_threads m y
woken_alike m x y e = sym (woken_threads-forget m x) ∙ ap (woken_threads (forget m)) e ∙ woken_threads-forget m y

-- an act and what follows it are a step
pub stepped :
    (m n new : State) (t : ℕ) (r : Option Request) (s : Stepped) → HasNothingPast m → StandsFor n (act m t r).state →
    s.answer ≡ (act m t r).answer → new ≡ forget (with_event_counted (settle m n)) →
    s.woken ≡ woken_threads m (with_event_counted (settle m n)) → IsStep (step m t r) new s
unfolding step
stepped m n new t r s h e answer state woken_is =
    record {
      state = state ∙ settled;
      answer = answer;
      woken = woken_is ∙ woken_alike m (with_event_counted (settle m n)) (with_event_counted (settle m (act m t r).state)) settled;
    }
  where
    alike : forget n ≡ forget (act m t r).state
    alike = ap forget e ∙ forget-forget (act m t r).state

    settled : forget (with_event_counted (settle m n)) ≡ forget (with_event_counted (settle m (act m t r).state))
    settled =
        ap with_event_counted
        (subst (λ k. forget (settle k n) ≡ forget (settle m (act m t r).state)) (live_state m h)
        (settle-forget m n (act m t r).state alike))

pub stepped_state :
    (m n new : State) (t : ℕ) (r : Option Request) → HasNothingPast m → StandsFor n (act m t r).state →
    new ≡ forget (with_event_counted (settle m n)) → StandsFor new (step m t r).state
stepped_state m n new t r h e state =
    (stepped m n new t r (record { answer = (act m t r).answer; woken = woken_threads m (with_event_counted (settle m n)) }) h e refl state refl).state

-- what settles is kept whole
pub settled_kept :
    (before m n : State) → HasNothingPast m → n ≡ with_event_counted (settle before m) →
    n ≡ forget (with_event_counted (settle before m))
settled_kept before m n h e = e ∙ ap with_event_counted (sym (live_state (settle before m) (settle_past before m h)))

-- what was taken before an event suffices after its act and what follows it
pub ready_after :
    (p x : Parts) (taken : Taken) → IsReady p taken → x.woken ≡ p.woken → length x.store.processes.threads ≡ length p.store.processes.threads → IsReadyToSettle x
ready_after p x taken h same g =
    let spare = ap (λ (r : RoomValue Tid). r.spare) same in
    record {
      few = omega (arith, h.few, g);
      woken = record { empty = ap (λ (r : RoomValue Tid). r.items) same ∙ h.woken.empty; spare = omega (arith, h.woken.spare, g, spare) };
    }

-- an act leaves as many processes as before
pub processes_after :
    (m n : State) (t : ℕ) (r : Option Request) → StandsFor n (act m t r).state →
    length n.process_table.processes ≡ length m.process_table.processes
processes_after m n t r h =
    ap (λ (k : State). length k.process_table.processes) h
    ∙ same_length process_identity (act m t r).state.process_table.processes m.process_table.processes (act-keeps m t r).processes

-- and as many events
pub events_after : (m n : State) (t : ℕ) (r : Option Request) → StandsFor n (act m t r).state → n.events ≡ m.events
events_after m n t r h = (grows_kept 1 m (act m t r).state n (act-tidy m t r).grows h).events

-- as many threads and events as before, until this event is counted
pub record IsSettled (m s : State) : Type 0 where
  pub threads : length s.process_table.threads ≡ length m.process_table.threads
  pub events : s.events ≡ m.events

pub settled_after :
    (m n s : State) (t : ℕ) (r : Option Request) → StandsFor n (act m t r).state → s ≡ settle m n → IsSettled m s
settled_after m n s t r h e =
    let g : Grows 1 m n = grows_kept 1 m (act m t r).state n (act-tidy m t r).grows h in
    let f : Grows 0 n (settle m n) = settle-grows m n in
    record {
      threads = ap (λ (k : State). length k.process_table.threads) e ∙ f.threads ∙ g.threads;
      events = ap (λ (k : State). k.events) e ∙ f.events ∙ g.events;
    }

-- whether an act made a first common door is seen of what is kept

doors-give : (m : State) → (give m).doors ≡ m.doors
doors-give m = give-all (λ n. n.doors ≡ m.doors) (λ n w x e h. one n w.item x.thread.0 ∙ h) m refl
  where
    one : (n : State) (i : Item) (u : ℕ) → (give_one n i u).doors ≡ n.doors
    one n (item.Call c) u = refl
    one n (item.Notice k) u = refl

first_kept : (before kept acted : State) (p : ℕ) → StandsFor kept acted → has_first_common_door before (give kept) p ≡ has_first_common_door before (give acted) p
first_kept before kept acted p h =
    ap (λ doors. not (has_common_door before.doors p) && has_common_door doors p)
    (doors-give kept ∙ ap (λ (m : State). m.doors) h ∙ sym (doors-give acted))

pub first_entered :
    (m n : State) (t : ℕ) (r : Request) (first : Option ℕ) → StandsFor n (enter m t (process_of m t) r).state → first ≡ first_common_of m t r →
    (p : ℕ) → has_first_common_door m (give n) p ≡ is_this p first
first_entered m n t r first h e =
    λ p. first_kept m n (enter m t (process_of m t) r).state p h ∙ first_common m t r p ∙ ap (is_this p) (sym e)

-- by what is known before an entry, and by its answer
pub first_if_made :
    (m : State) (t : ℕ) (r : Request) → made_first (enter m t (process_of m t) r).answer (may_make_first m (process_of m t) r) ≡ first_common_of m t r
first_if_made m t (request.Create entry cookie attrs) = go (first_refusal (create_tests m p attrs)) (not (is_private attrs) && not (has_common_door m.doors p))
  where
    p : ℕ
    p = process_of m t

    go :
        (o : Option Errno) (b : Bool) →
        made_first (unless_refused m o (create m p entry cookie attrs)).answer (if b then Some p else None) ≡ (if is_none o && b then Some p else None)
    go (Some e) b = refl
    go None true = refl
    go None false = refl
first_if_made m t r = none (enter m t (process_of m t) r).answer
  where
    none : (a : Answer) → made_first a None ≡ None
    none (answer.Failure e) = refl
    none a = refl

pub first_gone_on :
    (m n : State) (t : ℕ) → StandsFor n (go_on m t (process_of m t) (state_of m t)).state →
    (p : ℕ) → has_first_common_door m (give n) p ≡ is_this p None
first_gone_on m n t h =
    λ p. first_kept m n (go_on m t (process_of m t) (state_of m t)).state p h ∙ no_first_common m t p

-- what fails before the giving makes no door

doors-given : (m : State) → (give (fail_returns m)).doors ≡ m.doors
doors-given m = doors-give (fail_returns m) ∙ doors-fail_returns m

-- nor does the making of notices
pub first_made :
    (before k n : State) → k.doors ≡ n.doors → (p : ℕ) →
    has_first_common_door before (give (fail_returns k)) p ≡ has_first_common_door before (give n) p
first_made before k n e p =
    ap (λ doors. not (has_common_door before.doors p) && has_common_door doors p) (doors-given k ∙ e ∙ sym (doors-give n))
