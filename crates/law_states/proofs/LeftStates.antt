-- A state after callers were interrupted, threads ended, and doors became invalid: it is consistent, calls take the arrows of
-- leaving, and so do the invocations of threads.
use Rattle.std.specs.Prelude.{ℕ, ◌≡◌, ◌⊎◌, ◌||◌, ◌==◌, [], ◌∷◌, List, Option, Bool, true, false, if◌then◌else◌, Some, None, find, is_some, length, map, option_map}
use Rattle.std.specs.List.{list_any}
use Rattle.std.proofs.Common.{refl, sym, ap, ap₂, subst, ◌∙◌, inl, inr, ⊎_elim}
use native.Mathlib.Omega.{arith}
use Rattle.std.proofs.lemmas.List.{length-map}
use Rattle.std.proofs.lemmas.Bool.Decides.{nat_tests}
use Rattle.dk_base.specs.ByNumber.{at_number}
use Rattle.dk_base.specs.declared.error.Errno.TheVariants.{EBADF, EINTR}
use Rattle.dk_base.specs.declared.object.Item.TheVariants as item
use Rattle.spec_records.proofs.NumberedLists.{counted-map, find-found, find-map, find-none, find-passes}
use Rattle.spec_kernel.specs.Types.{Answer, Call, CallStage, Door, Fd, Inv, Item, Notice, NoticeStage, Obj, Process, Request, Thread, ThreadState}
use Rattle.spec_records.specs.declared.record.ThreadState.TheVariants as is
use Rattle.spec_records.specs.declared.record.CallStage.TheVariants as stage
use Rattle.spec_records.specs.declared.record.NoticeStage.TheVariants as notice
use Rattle.spec_records.specs.Words.{Leaving, abandoned_at, broken_call_at, call_number, cancelled_invocation, deserted_at, deserted_in, ended_thread, ended_where, gone_call_at, interrupted_where, invocation_in, is_entered_by, is_given_to, is_left, is_live, is_live_in, is_notice_of, is_private_in, is_served_by, is_unborn_in, is_valid_in, left_call, left_notice, left_notice_at, left_thread_of, left_threads, no_cancel_of, notice_at, notice_number, object_named, process_in, state_in, table_in, tid, without_arguments_at}
use Rattle.spec_kernel.specs.Words.{State, door_of, invocation_of, is_valid, leave, now, process_of, state_of, thread_of}
use Rattle.law_states.specs.Records.{item_in, notice_of, owner_in, record_of, stage_in}
use Rattle.law_states.specs.Core.{abandoned_in, caller_number, core, ended_in, has_arguments, is_outside, is_underway, live_in, notice_in, number_in, underway_in}
use Rattle.law_states.specs.Coherent.{AreDoors}
use Rattle.law_states.specs.Invariant.{IsConsistent}
use Rattle.law_states.specs.Arrows.{ByAct, EndsNow, Interrupts, NoticeByAct}
use Rattle.law_states.specs.Arrows.ByAct.{stays, ends, breaks_off, leaves}
use Rattle.law_states.specs.Arrows.NoticeByAct.{stays as notice_stays, drops as notice_drops, ends as notice_ends}
use Rattle.law_states.specs.Arrows.EndsBy.{door_invalid, interrupted, server_ended}
use Rattle.law_states.specs.Events.{InvocationArrow, IsLeft}
use Rattle.law_states.specs.Events.InvocationArrow.{stays as invocation_stays, cancels as invocation_cancels, leaves as invocation_leaves}
use Rattle.law_states.specs.Events.IsLeft.{interrupted as is_interrupted, caller_ends}
use Rattle.spec_records.proofs.Lists.{at_number-map}
use Rattle.law_states.proofs.LeftCores.{LeftCore, LeftThread, ended_now, entered_item, given_role, leaving_keeps, left, left_fields, left_notice_stage, marked, marked_same, still_calling}
use Rattle.law_states.proofs.LeftCores.LeftThread.{ends as thread_ends, parks as thread_parks, cancels as thread_cancels, stays as thread_stays}
use Rattle.law_states.proofs.Acts.{Does, act_result}

-- the state after callers, threads and doors leave, with these processes, tables and doors
abbrev pub left_state : State → Leaving → List Process → List (List (Option Obj)) → List Door → State
left_state m who processes tables doors =
    record (leave m who) {
      process_table = record { processes = processes; threads = (left_threads who (now m) m.call_tree.calls m.process_table).threads };
      tables = tables;
      doors = doors;
    }

-- the processes, tables and doors that an event of leaving may leave, with this request
pub record MayLeave (m : State) (t : ℕ) (q : Option Request) (who : Leaving) (processes : List Process) (tables : List (List (Option Obj))) (doors : List Door) : Type 0 where
  -- the turn interrupts whoever is interrupted
  pub interrupts : (u : ℕ) → who.interrupts u ≡ true → Interrupts m t q u
  pub counted : length tables ≡ length processes
  pub no_rows : (p : ℕ) (fd : Fd) → is_live_in (at_number processes p) ≡ false → object_named (table_in tables p) fd ≡ None
  pub door_there : (d : ℕ) → is_some (at_number doors d) ≡ is_some (door_of m d)
  pub door_owner : (d : ℕ) → owner_in (at_number doors d) ≡ owner_in (door_of m d)
  pub door_no_cancel : (d : ℕ) → no_cancel_of (at_number doors d) ≡ no_cancel_of (door_of m d)
  pub door_private : (d : ℕ) → is_private_in (at_number doors d) ≡ is_private_in (door_of m d)
  -- doors are valid that were so, but for those that are lost
  pub door_valid : (d : ℕ) → is_valid m d ≡ true → who.loses d ≡ false → is_valid_in (at_number doors d) ≡ true
  pub door_lost : (d : ℕ) → who.loses d ≡ true → is_valid_in (at_number doors d) ≡ false
  pub are_doors : AreDoors (λ d. at_number doors d) (λ p. at_number processes p)
  -- all threads end of a process that ends
  pub ended : (u : ℕ) → ended_in (at_number processes (process_of m u)) ≡ true → (state_of m u ≡ is.Done) ⊎ (who.ends u ≡ true)
  -- and none of one that has not begun
  pub unborn : (u : ℕ) → is_unborn_in (at_number processes (process_of m u)) ≡ true → (state_of m u ≡ is.Dormant) × (who.ends u ≡ false)
  pub proc_there : (p : ℕ) → is_some (at_number m.process_table.processes p) ≡ true → is_some (at_number processes p) ≡ true

-- threads

-- an interrupt marks a state and leaves the invocation
interrupted_role : (b : Bool) (x : Thread) → (interrupted_where b x).state ≡ marked b x.state
interrupted_role true x = refl
interrupted_role false x = refl

interrupted_invocation : (b : Bool) (x : Thread) → (interrupted_where b x).invocation ≡ x.invocation
interrupted_invocation true x = refl
interrupted_invocation false x = refl

-- a call that a thread serves
record Serves (m : State) (u : ℕ) (r : Call) : Type 0 where
  there : record_of m r.number ≡ Some r
  stage : (r.stage ≡ stage.Given (tid u)) ⊎ (r.stage ≡ stage.Entered (tid u))

served_stage : (u : ℕ) (s : CallStage) → (is_given_to u s || is_entered_by u s) ≡ true → (s ≡ stage.Given (tid u)) ⊎ (s ≡ stage.Entered (tid u))
served_stage u (stage.Given v) e = inl (grind (arith, nat_tests))
served_stage u (stage.Entered v) e = inr (grind (arith, nat_tests))
served_stage u s e = absurd (grind arith)

given_is_served : (u : ℕ) (r : Call) → r.abandoned ≡ false → r.stage ≡ stage.Given (tid u) → is_served_by u r ≡ true
given_is_served u r e f = grind (arith, nat_tests)

module _ (m : State) (who : Leaving) (h : IsConsistent m) where
  does_serve : (u : ℕ) (r : Call) → find (is_served_by u) m.call_tree.calls ≡ Some r → Serves m u r
  does_serve u r f =
      let passes : is_served_by u r ≡ true = find-passes (is_served_by u) m.call_tree.calls r f in
      record {
        there = find-found call_number (is_served_by u) m.call_tree.calls 0 r h.in_order f;
        stage = served_stage u r.stage (grind arith);
      }

  -- a thread that has an invocation was given no call
  not_both : (u : ℕ) (r x : Call) → record_of m r.number ≡ Some r → r.stage ≡ stage.Given (tid u) → record_of m x.number ≡ Some x → x.stage ≡ stage.Entered (tid u) → ⊥
  not_both u r x e f g i =
      absurd (grind (arith, h.coherent.servers.outside u (ap is_outside (given_role (core m) h.coherent u r e f)), entered_item (core m) h.coherent u x g i))

  -- only one call is given to a thread
  one_given : (u : ℕ) (r x : Call) → record_of m r.number ≡ Some r → r.stage ≡ stage.Given (tid u) → record_of m x.number ≡ Some x → x.stage ≡ stage.Given (tid u) → r ≡ x
  one_given u r x e f g i =
      let same : r.number ≡ x.number = grind (arith, given_role (core m) h.coherent u r e f, given_role (core m) h.coherent u x g i) in
      let there : record_of m x.number ≡ Some r = ap (λ c. record_of m c) (sym same) ∙ e in
      cc

  left_thread_is :
      (x : Thread) → thread_of m x.number ≡ Some x →
      LeftThread (core m) who (now m) x.number (left_thread_of who (now m) m.call_tree.calls x).state (left_thread_of who (now m) m.call_tree.calls x).invocation
  left_thread_is x there = go (who.ends x.number) refl
    where
      u : ℕ
      u = x.number

      z : Thread
      z = interrupted_where (who.interrupts u) x

      role : z.state ≡ marked (who.interrupts u) (state_of m u)
      role = interrupted_role (who.interrupts u) x ∙ ap (marked (who.interrupts u)) (sym (ap state_in there))

      invocation : z.invocation ≡ invocation_of m u
      invocation = interrupted_invocation (who.interrupts u) x ∙ sym (ap invocation_in there)

      -- as this makes of it
      After : Thread → Type 0
      After y = LeftThread (core m) who (now m) u y.state y.invocation

      deserted :
          (r : Call) (b : Bool) (s : CallStage) → who.ends u ≡ false → record_of m r.number ≡ Some r → r.stage ≡ s → is_left who r ≡ true → r.no_cancel ≡ b →
          (s ≡ stage.Given (tid u)) ⊎ (s ≡ stage.Entered (tid u)) → After (deserted_at (now m) b s z)
      deserted r b (stage.Given v) e f g l k w = thread_parks r e f (⊎_elim (λ i. g ∙ i) (λ i. absurd (grind arith)) w) l refl refl
      deserted r true (stage.Entered v) e f g l k w =
          thread_stays e (λ y i j. absurd (not_both u y r i j f (⊎_elim (λ i. absurd (grind arith)) (λ i. g ∙ i) w))) role invocation
      deserted r false (stage.Entered v) e f g l k w =
          thread_cancels r e f (⊎_elim (λ i. absurd (grind arith)) (λ i. g ∙ i) w) l k role (ap (option_map _) invocation)
      deserted r b s e f g l k w = absurd (⊎_elim (λ i. grind arith) (λ i. grind arith) w)

      served : (o : Option Call) → find (is_served_by u) m.call_tree.calls ≡ o → who.ends u ≡ false → After (deserted_in who (now m) o z)
      served None f e =
          thread_stays e
          (λ r i j.
          let kept : r.abandoned ≡ false = sym (ap abandoned_in i) ∙ h.coherent.invocations.kept r.number (ap underway_in i ∙ ap is_underway j) in
          absurd (grind (arith, find-none call_number (is_served_by u) m.call_tree.calls r.number r f i, given_is_served u r kept j)))
          role invocation
      served (Some r) f e = by_left (is_left who r) refl
        where
          s : Serves m u r
          s = does_serve u r f

          by_left : (b : Bool) → is_left who r ≡ b → After (if b then deserted_at (now m) r.no_cancel r.stage z else z)
          by_left true l = deserted r r.no_cancel r.stage e s.there refl l refl s.stage
          by_left false l =
              thread_stays e
              (λ y i j. ⊎_elim
              (λ g. ap (is_left who) (one_given u y r i j s.there g) ∙ l)
              (λ g. absurd (not_both u y r i j s.there g))
              s.stage)
              role invocation

      go : (b : Bool) → who.ends u ≡ b → After (if b then ended_thread x else deserted_in who (now m) (find (is_served_by u) m.call_tree.calls) z)
      go true e = thread_ends e refl refl
      go false e = served (find (is_served_by u) m.call_tree.calls) refl e

-- the number and the door of a notice stay

record LeavesNotice (who : Leaving) (x y : Notice) : Type 0 where
  number : y.number ≡ x.number
  door : y.door ≡ x.door
  stage : y.stage ≡ left_notice_stage who x.door x.stage

left_notice_fields : (who : Leaving) (x : Notice) → LeavesNotice who x (left_notice who x)
left_notice_fields who x = record { number = grind arith; door = grind arith; stage = grind arith }

-- the whole

module _ (m : State) (t : ℕ) (q : Option Request) (who : Leaving) (processes : List Process) (tables : List (List (Option Obj))) (doors : List Door) where
  abbrev after : State
  after = left_state m who processes tables doors

  threads_after : (u : ℕ) → thread_of after u ≡ option_map (left_thread_of who (now m) m.call_tree.calls) (thread_of m u)
  threads_after u = at_number-map (left_thread_of who (now m) m.call_tree.calls) m.process_table.threads u

  left_number : (r : Call) → (left_call who r).number ≡ r.number
  left_number r = (left_fields who r).number

  pub calls_after : (c : ℕ) → record_of after c ≡ option_map (left_call who) (record_of m c)
  calls_after c = find-map call_number (left_call who) left_number m.call_tree.calls c

  -- notices

  left_notice_number : (x : Notice) → (left_notice who x).number ≡ x.number
  left_notice_number x = (left_notice_fields who x).number

  pub notices_after : (n : ℕ) → notice_of after n ≡ option_map (left_notice who) (notice_of m n)
  notices_after n = find-map notice_number (left_notice who) left_notice_number m.notice_list.notices n

  -- an event of leaving keeps of a thread what it is
  kept_process : (o : Option Thread) → process_in (option_map (left_thread_of who (now m) m.call_tree.calls) o) ≡ process_in o
  kept_process None = refl
  kept_process (Some x) = grind arith

  module _ (h : IsConsistent m) (may : MayLeave m t q who processes tables doors) where
    -- what an event of leaving makes of a thread
    pub thread_after : (u : ℕ) → LeftThread (core m) who (now m) u (state_of after u) (invocation_of after u)
    thread_after u = go (thread_of m u) refl
      where
        none : thread_of m u ≡ None → LeftThread (core m) who (now m) u is.Done None
        none e = by_end (who.ends u) refl
          where
            by_end : (b : Bool) → who.ends u ≡ b → LeftThread (core m) who (now m) u is.Done None
            by_end true f = thread_ends f refl refl
            by_end false f =
                thread_stays f (λ r i j. absurd (grind (arith, given_role (core m) h.coherent u r i j, ap state_in e)))
                (sym (ap (marked (who.interrupts u)) (ap state_in e) ∙ marked_same (who.interrupts u) is.Done refl)) (sym (ap invocation_in e))

        go : (o : Option Thread) → thread_of m u ≡ o → LeftThread (core m) who (now m) u (state_of after u) (invocation_of after u)
        go None e =
            subst (λ o. LeftThread (core m) who (now m) u (state_in o) (invocation_in o))
            (sym (threads_after u ∙ ap (option_map (left_thread_of who (now m) m.call_tree.calls)) e))
            (none e)
        go (Some x) e =
            let number : x.number ≡ u = h.coherent.threads.thread_number u x.number (ap number_in e) in
            subst (λ o. LeftThread (core m) who (now m) u (state_in o) (invocation_in o))
            (sym (threads_after u ∙ ap (option_map (left_thread_of who (now m) m.call_tree.calls)) e))
            (subst (λ (j : ℕ). LeftThread (core m) who (now m) j (left_thread_of who (now m) m.call_tree.calls x).state (left_thread_of who (now m) m.call_tree.calls x).invocation)
            number
            (left_thread_is m who h x (ap (λ j. thread_of m j) number ∙ e)))

    left_core : LeftCore (core m) who (now m) (core after)
    unfolding left
    left_core =
        record {
          thread = thread_after;
          process = λ u. ap process_in (threads_after u) ∙ kept_process (thread_of m u);
          number = λ u. grind (arith, threads_after u);
          bound = λ u. refl;
          call = calls_after;
          made = refl;
          notice = λ n. grind (arith, notices_after n);
          noticed_door = λ n. grind (arith, notices_after n);
          door_there = may.door_there;
          door_owner = may.door_owner;
          door_no_cancel = may.door_no_cancel;
          door_private = may.door_private;
          door_valid = may.door_valid;
          doors = may.are_doors;
          ended = may.ended;
          unborn = may.unborn;
          proc_there = may.proc_there;
        }

    left_consistent : IsConsistent after
    left_consistent =
        record {
          in_order = counted-map call_number (left_call who) left_number m.call_tree.calls 0 h.in_order;
          counted = length-map m.call_tree.calls (left_call who) ∙ h.counted;
          coherent = leaving_keeps (core m) who (now m) (core after) h.coherent left_core;
          tables = may.counted;
          no_rows = may.no_rows;
          notices_in_order = counted-map notice_number (left_notice who) left_notice_number m.notice_list.notices 0 h.notices_in_order;
          notices_counted = length-map m.notice_list.notices (left_notice who) ∙ h.notices_counted;
          places = omega (arith, length-map m.process_table.threads (left_thread_of who (now m) m.call_tree.calls), h.places);
        }

    ends_now : (u : ℕ) → who.ends u ≡ true → (state_of m u ≡ is.Done → ⊥) → EndsNow m after u
    ends_now u e f = record { before = f; after = ended_now (core m) who (now m) u _ _ h.coherent (thread_after u) e }

    -- a thread that serves an item has not ended
    serves_not_done : (u : ℕ) (i : Item) → item_in (invocation_of m u) ≡ Some i → state_of m u ≡ is.Done → ⊥
    serves_not_done u i e f = absurd (grind (arith, h.coherent.servers.outside u (ap is_outside f)))

    -- calls

    module _ (a : Answer) (c : ℕ) (r : Call) (there : record_of m c ≡ Some r) where
      -- the caller of a call that is neither answered nor left waits for it
      caller_waits : is_live r.stage ≡ true → state_of m r.caller.0 ≡ is.Calling c
      caller_waits e = ap (λ o. state_of m (caller_number o)) (sym there) ∙ h.coherent.waits.calling c (ap live_in there ∙ e)

      caller_stays : is_live r.stage ≡ true → who.ends r.caller.0 ≡ false → state_of after r.caller.0 ≡ is.Done → ⊥
      caller_stays e f g =
          absurd (grind (arith, still_calling (core m) who (now m) r.caller.0 _ _ h.coherent (thread_after r.caller.0) c (caller_waits e) f))

      -- the thread that serves it has not ended
      server_is : (u : ℕ) → (r.stage ≡ stage.Given (tid u)) ⊎ (r.stage ≡ stage.Entered (tid u)) → state_of m u ≡ is.Done → ⊥
      server_is u (inl e) f = absurd (grind (arith, h.coherent.waits.given c u (ap stage_in there ∙ ap (λ s. Some s) e)))
      server_is u (inr e) f = serves_not_done u (item.Call c) (h.coherent.invocations.entered c u (ap stage_in there ∙ ap (λ s. Some s) e)) f

      gone_arrow : (s : CallStage) → r.stage ≡ s → who.ends r.caller.0 ≡ true → ByAct m t q a after (Some r) (Some (gone_call_at s r))
      gone_arrow (stage.Answered k) f e = stays
      gone_arrow stage.Gone f e = stays
      gone_arrow s f e =
          subst (λ z. ByAct m t q a after (Some r) (Some (gone_call_at z r))) f
          (leaves r (ap is_live f) (ends_now r.caller.0 e (λ d. grind (arith, caller_waits (ap is_live f)))))

      -- a call that waits for a thread, or for its server, of an interrupted caller
      interrupted_arrow :
          has_arguments r.stage ≡ true → is_live r.stage ≡ true → who.ends r.caller.0 ≡ false → who.interrupts r.caller.0 ≡ true →
          ByAct m t q a after (Some r) (Some (without_arguments_at (stage.Ended EINTR) r))
      interrupted_arrow w f e g = ends r EINTR (interrupted (may.interrupts r.caller.0 g) w (caller_stays f e))

      -- one whose server ends
      deserted_arrow :
          (u : ℕ) (b : Bool) → (r.stage ≡ stage.Given (tid u)) ⊎ (r.stage ≡ stage.Entered (tid u)) → is_live r.stage ≡ true →
          who.ends r.caller.0 ≡ false → who.ends u ≡ b → ByAct m t q a after (Some r) (Some (ended_where b EINTR r))
      deserted_arrow u true w f e g = ends r EINTR (server_ended u w (ends_now u g (server_is u w)) (caller_stays f e))
      deserted_arrow u false w f e g = stays

      broken_arrow : (s : CallStage) → r.stage ≡ s → who.ends r.caller.0 ≡ false → ByAct m t q a after (Some r) (Some (broken_call_at who s r))
      broken_arrow stage.Queued f e = go (who.interrupts r.caller.0) (who.loses r.door) refl refl
        where
          go :
              (b d : Bool) → who.interrupts r.caller.0 ≡ b → who.loses r.door ≡ d →
              ByAct m t q a after (Some r) (Some (if b then without_arguments_at (stage.Ended EINTR) r else ended_where d EBADF r))
          go true d g i = interrupted_arrow (ap has_arguments f) (ap is_live f) e g
          go false true g i =
              ends r EBADF
              (door_invalid f (grind (arith, there, h.coherent.at_doors.waiting_valid c)) (may.door_lost r.door i) (caller_stays (ap is_live f) e))
          go false false g i = stays
      broken_arrow (stage.Given u) f e = go (who.interrupts r.caller.0) refl
        where
          go : (b : Bool) → who.interrupts r.caller.0 ≡ b → ByAct m t q a after (Some r) (Some (ended_where (b || who.ends u.0) EINTR r))
          go true g = interrupted_arrow (ap has_arguments f) (ap is_live f) e g
          go false g = deserted_arrow u.0 (who.ends u.0) (inl f) (ap is_live f) e refl
      broken_arrow (stage.Entered u) f e = go (who.interrupts r.caller.0) refl
        where
          go :
              (b : Bool) → who.interrupts r.caller.0 ≡ b →
              ByAct m t q a after (Some r) (Some (if b then abandoned_at (stage.Ended EINTR) r else ended_where (who.ends u.0) EINTR r))
          go true g = breaks_off r u.0 (may.interrupts r.caller.0 g) f (caller_stays (ap is_live f) e)
          go false g = deserted_arrow u.0 (who.ends u.0) (inr f) (ap is_live f) e refl
      broken_arrow s f e = stays

      left_arrow : ByAct m t q a after (Some r) (Some (left_call who r))
      left_arrow = go (who.ends r.caller.0) refl
        where
          go : (b : Bool) → who.ends r.caller.0 ≡ b → ByAct m t q a after (Some r) (Some (if b then gone_call_at r.stage r else broken_call_at who r.stage r))
          go true e = gone_arrow r.stage refl e
          go false e = broken_arrow r.stage refl e

    -- notices

    module _ (a : Answer) (c : ℕ) (x : Notice) (there : notice_of m c ≡ Some x) where
      holder_is : (u : ℕ) → (x.stage ≡ notice.Given (tid u)) ⊎ (x.stage ≡ notice.Entered (tid u)) → state_of m u ≡ is.Done → ⊥
      holder_is u (inl e) f = absurd (grind (arith, h.coherent.notices_given.notice_given c u (ap notice_in there ∙ ap (λ z. Some z) e)))
      holder_is u (inr e) f = serves_not_done u (item.Notice c) (h.coherent.notices_entered.notice_entered c u (ap notice_in there ∙ ap (λ z. Some z) e)) f

      over_arrow :
          (u : ℕ) (b : Bool) → (x.stage ≡ notice.Given (tid u)) ⊎ (x.stage ≡ notice.Entered (tid u)) → who.ends u ≡ b →
          NoticeByAct m t q a after (Some x) (Some (if b then notice_at notice.Over x else x))
      over_arrow u true w g = notice_ends x u w (ends_now u g (holder_is u w))
      over_arrow u false w g = notice_stays

      notice_arrow : (s : NoticeStage) → x.stage ≡ s → NoticeByAct m t q a after (Some x) (Some (left_notice_at who s x))
      notice_arrow notice.Waiting e = go (who.loses x.door) refl
        where
          go : (b : Bool) → who.loses x.door ≡ b → NoticeByAct m t q a after (Some x) (Some (if b then notice_at notice.Dropped x else x))
          go true g = notice_drops x e (grind (arith, there, h.coherent.notices_at_doors.notice_valid c)) (may.door_lost x.door g)
          go false g = notice_stays
      notice_arrow (notice.Given u) e = over_arrow u.0 (who.ends u.0) (inl e) refl
      notice_arrow (notice.Entered u) e = over_arrow u.0 (who.ends u.0) (inr e) refl
      notice_arrow s e = notice_stays

    pub leaving_does : (a : Answer) → Does m t q (act_result after a)
    leaving_does a =
        record {
          consistent = left_consistent;
          arrows = λ c. subst (λ o. ByAct m t q a after (record_of m c) o) (sym (calls_after c)) (go c (record_of m c) refl);
          notices = λ c. subst (λ o. NoticeByAct m t q a after (notice_of m c) o) (sym (notices_after c)) (at_notice c (notice_of m c) refl);
          kept = record { none_made = λ c e. notices_after c ∙ ap (option_map (left_notice who)) e; had = λ d. had d m.notice_list.notices };
        }
      where
        go : (c : ℕ) (o : Option Call) → record_of m c ≡ o → ByAct m t q a after o (option_map (left_call who) o)
        go c None e = stays
        go c (Some r) e = left_arrow a c r e

        had : (d : ℕ) (xs : List Notice) → list_any (is_notice_of d) (map (left_notice who) xs) ≡ list_any (is_notice_of d) xs
        had d [] = refl
        had d (x ∷ xs) = ap₂ (λ (e : ℕ) (b : Bool). (e == d) || b) (left_notice_fields who x).door (had d xs)

        at_notice : (c : ℕ) (o : Option Notice) → notice_of m c ≡ o → NoticeByAct m t q a after o (option_map (left_notice who) o)
        at_notice c None e = notice_stays
        at_notice c (Some x) e = notice_arrow a c x e x.stage refl

    -- invocations

    pub leaving_serves : (a : Answer) (u : ℕ) → InvocationArrow m t q a after u (invocation_of m u) (invocation_of after u)
    leaving_serves a u = go (state_of after u) (invocation_of after u) refl (thread_after u)
      where
        Takes : Option Inv → Option Inv → Type 0
        Takes v w = InvocationArrow m t q a after u v w

        ended_takes : (v : Option Inv) → state_of after u ≡ is.Done → Takes v None
        ended_takes None e = invocation_stays
        ended_takes (Some v) e = invocation_leaves v e

        -- its caller has left it
        leaves_by : (r : Call) (b : Bool) → record_of m r.number ≡ Some r → r.stage ≡ stage.Entered (tid u) → who.ends r.caller.0 ≡ b → (b || who.interrupts r.caller.0) ≡ true → IsLeft m t q after r
        leaves_by r true f g e l =
            caller_ends (ends_now r.caller.0 e (λ d. grind (arith, caller_waits a r.number r f (ap is_live g))))
        leaves_by r false f g e l = is_interrupted (may.interrupts r.caller.0 l)

        cancelled_takes :
            (r : Call) (v : Option Inv) → invocation_of m u ≡ v → record_of m r.number ≡ Some r → r.stage ≡ stage.Entered (tid u) →
            is_left who r ≡ true → r.no_cancel ≡ false → Takes v (option_map cancelled_invocation v)
        cancelled_takes r None e f g l n = invocation_stays
        cancelled_takes r (Some v) e f g l n =
            invocation_cancels v
            (record {
              call = r;
              item = grind (arith, ap item_in e, entered_item (core m) h.coherent u r f g);
              there = f;
              entered = g;
              may_cancel = sym (h.coherent.at_doors.no_cancel r.number r f) ∙ n;
              is_left = leaves_by r (who.ends r.caller.0) f g refl l;
            })

        go :
            (s : ThreadState) (w : Option Inv) → state_of after u ≡ s → LeftThread (core m) who (now m) u s w →
            Takes (invocation_of m u) w
        go s w e (thread_ends f g i) = subst (λ w. Takes (invocation_of m u) w) (sym i) (ended_takes (invocation_of m u) (e ∙ g))
        go s w e (thread_parks r f g i l j z) =
            let none : invocation_of m u ≡ None = h.coherent.servers.outside u (ap is_outside (given_role (core m) h.coherent u r g i)) in
            subst (λ w. Takes (invocation_of m u) w) (none ∙ sym z) invocation_stays
        go s w e (thread_cancels r f g i l n j z) =
            subst (λ w. Takes (invocation_of m u) w) (sym z) (cancelled_takes r (invocation_of m u) refl g i l n)
        go s w e (thread_stays f g j z) = subst (λ w. Takes (invocation_of m u) w) (sym z) invocation_stays
