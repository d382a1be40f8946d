-- Where the caller of a call leaves it, the flag of the invocation that has entered it is set, or the invocation leaves too.
use Rattle.std.specs.Prelude.{ℕ, ◌≡◌, ◌⊎◌, ◌==◌, ◌||◌, Option, Bool, true, false, if◌then◌else◌, Some, None, find}
use Rattle.std.specs.Option.{option_map}
use Rattle.std.proofs.Common.{refl, sym, ap, subst, ◌∙◌, inl, inr}
use native.Mathlib.Omega.{arith}
use Rattle.std.proofs.lemmas.Bool.Decides.{nat_tests}
use Rattle.spec_records.proofs.NumberedLists.{find-none}
use Rattle.spec_kernel.specs.Types.{Call, CallStage, Inv, Item, Pid, Process, Request, Thread, ThreadState}
use Rattle.dk_base.specs.ByNumber.{at_number}
use Rattle.dk_base.specs.declared.object.Item.TheVariants as item
use Rattle.dk_base.specs.declared.request.Request.TheVariants as request
use Rattle.spec_records.specs.declared.record.ThreadState.TheVariants as is
use Rattle.spec_records.specs.declared.record.CallStage.TheVariants as stage
use Rattle.spec_records.specs.Words.{Leaving, ProcessTable, call_number, cancelled_invocation, deserted_at, deserted_in, end_process, ended_thread, first_refusal, forking, interrupted_state, interrupted_where, interruption, invocation_in, is_fellow_caller, is_left, is_served_by, left_thread, left_thread_of, process_end, revocation, state_in, thread_at, tid, with_ended}
use Rattle.spec_kernel.specs.Words.{ActResult, State, act, door_at, fork, forking_tests, invocation_of, is_cancelled, leave, leave_process, now, process_of, served_by, state_of, step, thread_of, unless_refused}
use Rattle.spec_kernel.proofs.Invocations.{invocation_of-settle}
use Rattle.spec_records.proofs.Lists.{at_number-map}
use Rattle.spec_kernel.proofs.Moves.{Moves, act_moves}
use Rattle.law_states.specs.Records.{item_in, item_of, record_of, stage_in, stage_of}
use Rattle.law_states.specs.Core.{abandoned_in, caller_number, core, is_outside, live_in, number_in, underway_in}
use Rattle.law_states.specs.Arrows.{Interrupts}
use Rattle.law_states.specs.Arrows.Interrupts.{asked, forked}
use Rattle.law_states.specs.Coherent.{IsCoherent}
use Rattle.law_states.specs.Invariant.{Invariant}
use Rattle.law_states.specs.Events.{IsLeft}
use Rattle.law_states.specs.Events.IsLeft.{interrupted, caller_ends}
use Rattle.law_places.proofs.Done.{move_none, settle_none}
use Rattle.law_places.proofs.Validity.{fellow_calls}
use Rattle.law_runs.proofs.Forking.{fork_invocation, fork_state, was_unborn}
use Rattle.law_runs.proofs.Held.{IsWith, ServesCall, serves_of}

-- no invocation is left, or its flag is set
abbrev pub IsFlag : Option Inv → Type 0
IsFlag o = (o ≡ None) ⊎ (is_cancelled o ≡ true)

-- thread u of state m has entered this call, whose door does not bar cancels
pub record HasIn (m : State) (u : ℕ) (r : Call) : Type 0 where
  pub there : record_of m r.number ≡ Some r
  pub entered : r.stage ≡ stage.Entered (tid u)
  pub may_cancel : r.no_cancel ≡ false

same_number : (o : Option Item) (c d : ℕ) → o ≡ Some (item.Call c) → o ≡ Some (item.Call d) → c ≡ d
same_number o c d e f = cc

same_call : (o : Option Call) (a b : Call) → o ≡ Some a → o ≡ Some b → a ≡ b
same_call o a b e f = cc

serves_entered : (u : ℕ) (a : Bool) (r : Call) (s : CallStage) → r.stage ≡ s → s ≡ stage.Entered (tid u) → r.abandoned ≡ false → is_served_by u r ≡ true
serves_entered u a r s e f g = grind (arith, nat_tests, e, f, g)

module _ (m : State) (h : Invariant m) (u : ℕ) (r : Call) (i : HasIn m u r) where
  coherent : IsCoherent (core m)
  coherent = h.consistent.coherent

  stage_is : stage_of m r.number ≡ Some (stage.Entered (tid u))
  stage_is = ap stage_in i.there ∙ ap (λ (s : CallStage). Some s) i.entered

  its_item : item_of m u ≡ Some (item.Call r.number)
  its_item = coherent.invocations.entered r.number u stage_is

  not_abandoned : r.abandoned ≡ false
  not_abandoned =
      ap abandoned_in (sym i.there) ∙ coherent.invocations.kept r.number (ap underway_in i.there ∙ grind (arith, i.entered))

  -- it is the call that the thread serves
  serves_it : served_by m u ≡ Some r
  serves_it = go (served_by m u) refl
    where
      by : (q : Call) → ServesCall m u q → IsWith u q.stage → q ≡ r
      by q s (inl f) =
          absurd
          (cc
          (sym (ap item_in (coherent.servers.outside u (ap is_outside (coherent.waits.given q.number u (ap stage_in s.found ∙ ap (λ (z : CallStage). Some z) f)))))
          ∙ its_item))
      by q s (inr f) =
          let same : q.number ≡ r.number =
          same_number _ q.number r.number (coherent.invocations.entered q.number u (ap stage_in s.found ∙ ap (λ (z : CallStage). Some z) f)) its_item in
          same_call _ q r s.found (ap (record_of m) same ∙ i.there)

      serves : (q : Call) → ServesCall m u q → q ≡ r
      serves q s = by q s s.with_it

      go : (o : Option Call) → served_by m u ≡ o → o ≡ Some r
      go None e =
          absurd
          (cc
          (sym (find-none call_number (is_served_by u) m.call_tree.calls r.number r e i.there)
          ∙ serves_entered u true r r.stage refl i.entered not_abandoned))
      go (Some q) e = ap (λ (z : Call). Some z) (serves q (serves_of m h u q e))

  -- where its caller leaves

  flag_of : (x : Thread) (b : Bool) → IsFlag (deserted_at (now m) false (stage.Entered (tid u)) (interrupted_where b x)).invocation
  flag_of x b = by (interrupted_where b x).invocation
    where
      by : (o : Option Inv) → IsFlag (option_map cancelled_invocation o)
      by None = inl refl
      by (Some v) = inr refl

  left_flag : (who : Leaving) (x : Thread) → is_left who r ≡ true → IsFlag (left_thread who (now m) (Some r) x).invocation
  left_flag who x e = go (who.ends x.number)
    where
      deserted : IsFlag (deserted_in who (now m) (Some r) (interrupted_where (who.interrupts x.number) x)).invocation
      deserted =
          subst
          (λ (b : Bool). IsFlag (if b then deserted_at (now m) r.no_cancel r.stage (interrupted_where (who.interrupts x.number) x) else interrupted_where (who.interrupts x.number) x).invocation)
          (sym e)
          (subst
          (λ (b : Bool). IsFlag (deserted_at (now m) b r.stage (interrupted_where (who.interrupts x.number) x)).invocation)
          (sym i.may_cancel)
          (subst
          (λ (s : CallStage). IsFlag (deserted_at (now m) false s (interrupted_where (who.interrupts x.number) x)).invocation)
          (sym i.entered)
          (flag_of x (who.interrupts x.number))))

      go : (b : Bool) → IsFlag (if b then ended_thread x else deserted_in who (now m) (Some r) (interrupted_where (who.interrupts x.number) x)).invocation
      go true = inl refl
      go false = deserted

  pub leave_flags : (who : Leaving) → is_left who r ≡ true → IsFlag (invocation_of (leave m who) u)
  leave_flags who e =
      subst (λ o. IsFlag (invocation_in o)) (sym (at_number-map (left_thread_of who (now m) m.call_tree.calls) m.process_table.threads u))
      (go (thread_of m u) refl)
    where
      go : (o : Option Thread) → thread_of m u ≡ o → IsFlag (invocation_in (option_map (left_thread_of who (now m) m.call_tree.calls) o))
      go None f = inl refl
      go (Some x) f =
          subst (λ (o : Option Call). IsFlag (left_thread who (now m) o x).invocation)
          (sym (ap (λ n. served_by m n) (coherent.threads.thread_number u x.number (ap number_in f)) ∙ serves_it))
          (left_flag who x e)

-- a thread that leaving ends is one of those that are to end

interrupted_done : (s : ThreadState) → interrupted_state s ≡ is.Done → s ≡ is.Done
interrupted_done (is.Getting port max nget one b) e = absurd (cc e)
interrupted_done s e = e

where_done : (b : Bool) (x : Thread) → (interrupted_where b x).state ≡ is.Done → x.state ≡ is.Done
where_done true x e = interrupted_done x.state e
where_done false x e = e

deserted_done : (n : ℕ) (b : Bool) (s : CallStage) (x : Thread) → (deserted_at n b s x).state ≡ is.Done → x.state ≡ is.Done
deserted_done n b (stage.Given v) x e = absurd (cc e)
deserted_done n true (stage.Entered v) x e = e
deserted_done n false (stage.Entered v) x e = e
deserted_done n b stage.Queued x e = e
deserted_done n b (stage.Returned bytes objects) x e = e
deserted_done n b (stage.Ended y) x e = e
deserted_done n b (stage.Answered k) x e = e
deserted_done n b stage.Gone x e = e

deserted_in_done : (who : Leaving) (n : ℕ) (o : Option Call) (x : Thread) → (deserted_in who n o x).state ≡ is.Done → x.state ≡ is.Done
deserted_in_done who n None x e = e
deserted_in_done who n (Some r) x e = go (is_left who r) e
  where
    go : (b : Bool) → (if b then deserted_at n r.no_cancel r.stage x else x).state ≡ is.Done → x.state ≡ is.Done
    go true f = deserted_done n r.no_cancel r.stage x f
    go false f = f

left_done :
    (who : Leaving) (n : ℕ) (o : Option Call) (x : Thread) → (left_thread who n o x).state ≡ is.Done →
    (who.ends x.number ≡ true) ⊎ (x.state ≡ is.Done)
left_done who n o x e = go (who.ends x.number) refl e
  where
    go :
        (b : Bool) → who.ends x.number ≡ b →
        (if b then ended_thread x else deserted_in who n o (interrupted_where (who.interrupts x.number) x)).state ≡ is.Done →
        (who.ends x.number ≡ true) ⊎ (x.state ≡ is.Done)
    go true f g = inl f
    go false f g = inr (where_done (who.interrupts x.number) x (deserted_in_done who n o (interrupted_where (who.interrupts x.number) x) g))

pub leave_ends :
    (m : State) (who : Leaving) (t : ℕ) → Invariant m → state_of (leave m who) t ≡ is.Done → (state_of m t ≡ is.Done → ⊥) → who.ends t ≡ true
leave_ends m who t h d b =
    go (thread_of m t) refl
    (sym (ap state_in (at_number-map (left_thread_of who (now m) m.call_tree.calls) m.process_table.threads t)) ∙ d)
  where
    by : (x : Thread) → thread_of m t ≡ Some x → (who.ends x.number ≡ true) ⊎ (x.state ≡ is.Done) → who.ends t ≡ true
    by x f (inl g) = ap who.ends (sym (h.consistent.coherent.threads.thread_number t x.number (ap number_in f))) ∙ g
    by x f (inr g) = absurd (b (ap state_in f ∙ g))

    go : (o : Option Thread) → thread_of m t ≡ o → state_in (option_map (left_thread_of who (now m) m.call_tree.calls) o) ≡ is.Done → who.ends t ≡ true
    go None f g = absurd (b (ap state_in f))
    go (Some x) f g = by x f (left_done who (now m) (find (is_served_by x.number) m.call_tree.calls) x g)

-- and a fork ends none
pub fork_ends_none :
    (m : State) (t child u : ℕ) → Invariant m → first_refusal (forking_tests m child) ≡ None →
    state_of (fork m t (process_of m t) child).state u ≡ is.Done → (state_of m u ≡ is.Done → ⊥) → ⊥
fork_ends_none m t child u h f d b = go (fork_state m t (process_of m t) child u h (was_unborn m child f))
  where
    go :
        (state_of (fork m t (process_of m t) child).state u ≡ state_of (leave m (forking m.process_table t)) u)
        ⊎ ((state_of m u ≡ is.Dormant) × (state_of (fork m t (process_of m t) child).state u ≡ is.Running)) →
        ⊥
    go (inl e) = absurd (cc (leave_ends m (forking m.process_table t) u h (sym e ∙ d) b))
    go (inr e) = absurd (cc (sym e.1 ∙ d))

-- what an act does where it ends the caller

abbrev Flags : State → State → ℕ → Call → Type 0
Flags m n u r = (state_of m r.caller.0 ≡ is.Done → ⊥) → state_of n r.caller.0 ≡ is.Done → IsFlag (invocation_of n u)

either_left : (a b : Bool) → a ≡ true → (a || b) ≡ true
either_left a b e = ap (λ z. z || b) e

either_right : (a b : Bool) → b ≡ true → (a || b) ≡ true
either_right true b e = refl
either_right false b e = e

-- the threads of a process that ends are those of the state before
threads_same : (table : ProcessTable) (p t : ℕ) → thread_at (end_process table p) t ≡ thread_at table t
threads_same table p t = go (at_number table.processes p)
  where
    go : (o : Option Process) → thread_at (with_ended table p o) t ≡ thread_at table t
    go None = refl
    go (Some x) = refl

module _ (m : State) (h : Invariant m) (u : ℕ) (r : Call) (i : HasIn m u r) where
  ends_flags : (who : Leaving) → Flags m (leave m who) u r
  ends_flags who b d =
      leave_flags m h u r i who (either_left (who.ends r.caller.0) (who.interrupts r.caller.0) (leave_ends m who r.caller.0 h d b))

  process_flags : (p : ℕ) → Flags m (leave_process m p) u r
  process_flags p b d =
      subst (λ o. IsFlag (invocation_in o)) (sym (threads_same left p u))
      (ends_flags who b (sym (ap state_in (threads_same left p r.caller.0)) ∙ d))
    where
      who : Leaving
      who = process_end m.process_table m.doors p

      left : ProcessTable
      left = (leave m who).process_table

  move_flags : (t : ℕ) (q : Option Request) (a : ActResult) → Moves m t q a → Flags m a.state u r
  move_flags t q a (Moves.leaves x who _) = ends_flags who
  move_flags t q a (Moves.revokes fd f) = ends_flags (revocation (door_at m (process_of m t) fd))
  move_flags t q a (Moves.ends x p _) = process_flags p
  move_flags t q a (Moves.forks child f) = λ b d. absurd (fork_ends_none m t child.0 r.caller.0 h f d b)
  move_flags t q a x = λ b d. absurd (b ((move_none m t q a x refl).done r.caller.0 d))

  step_flags : (t : ℕ) (q : Option Request) → Flags m (step m t q).state u r
  unfolding step
  step_flags t q b d =
      subst IsFlag (sym (invocation_of-settle m (act m t q).state u))
      (move_flags t q _ (act_moves m t q) b (settle_none m (act m t q).state r.caller.0 d))

  -- and where it interrupts the caller

  asked_flags : (t : ℕ) → IsFlag (invocation_of (step m t (Some (request.Interrupt r.caller))).state u)
  unfolding step
  asked_flags t =
      subst IsFlag (sym (invocation_of-settle m (act m t (Some (request.Interrupt r.caller))).state u))
      (leave_flags m h u r i (interruption r.caller.0)
      (either_right false (r.caller.0 == r.caller.0) (grind (arith, nat_tests))))

  -- it waits for its call
  is_fellow : (t : ℕ) → process_of m r.caller.0 ≡ process_of m t → (r.caller.0 ≡ t → ⊥) → is_fellow_caller m.process_table t r.caller.0 ≡ true
  is_fellow t own other = fellow_calls m t r.caller.0 r.number waits own other
    where
      waits : state_of m r.caller.0 ≡ is.Calling r.number
      waits =
          ap (λ o. state_of m (caller_number o)) (sym i.there)
          ∙ h.consistent.coherent.waits.calling r.number (ap live_in i.there ∙ grind (arith, i.entered))

  forked_flags :
      (t : ℕ) (child : Pid) → first_refusal (forking_tests m child.0) ≡ None → process_of m r.caller.0 ≡ process_of m t →
      (r.caller.0 ≡ t → ⊥) → IsFlag (invocation_of (step m t (Some (request.Fork child))).state u)
  unfolding step
  forked_flags t child f own other =
      subst IsFlag
      (sym
      (invocation_of-settle m (act m t (Some (request.Fork child))).state u
      ∙ ap (λ o. invocation_of (unless_refused m o (fork m t (process_of m t) child.0)).state u) f
      ∙ fork_invocation m t (process_of m t) child.0 u))
      (leave_flags m h u r i (forking m.process_table t) (either_right false _ (is_fellow t own other)))

  interrupt_flags : (t : ℕ) (q : Option Request) → Interrupts m t q r.caller.0 → IsFlag (invocation_of (step m t q).state u)
  interrupt_flags t q (asked e) = subst (λ p. IsFlag (invocation_of (step m t p).state u)) (sym e) (asked_flags t)
  interrupt_flags t q (forked child e f own other) =
      subst (λ p. IsFlag (invocation_of (step m t p).state u)) (sym e) (forked_flags t child f own other)

  by_leaving : (t : ℕ) (q : Option Request) → IsLeft m t q (step m t q).state r → IsFlag (invocation_of (step m t q).state u)
  by_leaving t q (interrupted e) = interrupt_flags t q e
  by_leaving t q (caller_ends e) = step_flags t q e.before e.after

pub left_flags :
    (m : State) (t : ℕ) (q : Option Request) (u : ℕ) (r : Call) → Invariant m → record_of m r.number ≡ Some r →
    r.stage ≡ stage.Entered (tid u) → r.no_cancel ≡ false → IsLeft m t q (step m t q).state r →
    IsFlag (invocation_of (step m t q).state u)
left_flags m t q u r h there entered may l =
    by_leaving m h u r (record { there = there; entered = entered; may_cancel = may }) t q l
