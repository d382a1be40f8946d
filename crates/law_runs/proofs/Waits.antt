-- A thread waits after its event exactly where the answer says so.
use Rattle.std.specs.Prelude.{ℕ, ◌≡◌, ◌==◌, ◌⊎◌, List, Option, Bool, true, false, if◌then◌else◌, Some, None, find, not}
use Rattle.std.specs.Option.{option_map}
use Rattle.std.proofs.Common.{refl, sym, ap, subst, ◌∙◌, inl, inr}
use native.Mathlib.Omega.{arith}
use Rattle.std.proofs.lemmas.Bool.Decides.{nat_tests}
use Rattle.spec_kernel.specs.Types.{Answer, Call, CallStage, Fd, Item, Obj, Request, Thread, ThreadState, Queued}
use Rattle.dk_base.specs.declared.error.Errno.TheVariants.{EBADF, EMFILE}
use Rattle.dk_base.specs.declared.object.Item.TheVariants as item
use Rattle.dk_base.specs.declared.answer.Answer.TheVariants as answer
use Rattle.spec_records.specs.declared.record.ThreadState.TheVariants as is
use Rattle.spec_records.specs.declared.record.CallStage.TheVariants as stage
use Rattle.spec_records.specs.Words.{Leaving, ProcessTable, cancelled_thread, change_thread, deserted_at, deserted_in, ended_thread, first_found, first_refusal, forking, idle_thread, interrupted_state, interrupted_where, is_left, is_served_by, is_to_collect_as, left_thread, left_thread_of, process_end, revocation, state_in, thread_at, thread_at_state, thread_in_invocation, thread_outside, tid}
use Rattle.spec_kernel.specs.Words.{ActResult, Channels, MayTurn, State, Turn, accept_call, accept_notice, act, begin_call, collect_answer, collect_answer_in, door_at, event_answer, fail_begin, find_call, fork, forking_tests, found_answer, give_one, go_on, has_port_references, has_room, leave, now, port, port_at, process_of, retrieve, served_by, settle, state_at, state_of, step, thread_of, with_state}
use Rattle.spec_records.proofs.Lists.{at_number-map}
use Rattle.spec_kernel.proofs.Settling.{settle-all}
use Rattle.spec_kernel.proofs.Threads.{thread_at-end_process}
use Rattle.spec_kernel.proofs.Moves.{IsMaking, IsPassing, IsRow, IsSaid, IsTurn, Moves, act_moves, act_result}
use Rattle.law_states.proofs.Steps.{running_is}
use Rattle.law_states.specs.Core.{number_in}
use Rattle.law_states.specs.Records.{stage_in}
use Rattle.law_states.specs.Invariant.{Invariant}
use Rattle.law_states.specs.Events.{IsReadyEnd, IsReadyTurn}
use Rattle.law_runs.specs.Waits.{WaitsWhereToldSo, is_stopped, says_wait}
use Rattle.law_runs.proofs.Forking.{fork_state, was_unborn}
use Rattle.law_runs.proofs.Held.{IsWith, ServesCall, serves_of}
use Rattle.law_places.proofs.Known.{Known, invariant_before, next}
use Rattle.law_runs.proofs.Parked.{IsThread, is_thread, loses_idle, picked_idle, state_elsewhere, state_there}

-- a thread that waits and was started
abbrev is_parked : ThreadState → Bool
is_parked is.Dormant = false
is_parked s = is_stopped s

abbrev is_over : ThreadState → Bool
is_over s = not (is_stopped s)

-- what the kernel does after an act leaves it so

-- a thread that is not Done turns to another state
turned :
    (f : ThreadState → Bool) (table : ProcessTable) (u t : ℕ) (r s : ThreadState) → state_in (thread_at table u) ≡ r → (r ≡ is.Done → ⊥) →
    (f r ≡ true → f s ≡ true) → f (state_in (thread_at table t)) ≡ true →
    f (state_in (thread_at (change_thread table u (thread_at_state s)) t)) ≡ true
turned f table u t r s e d h g = go (t == u) refl (thread_at table u) refl
  where
    go :
        (b : Bool) → (t == u) ≡ b → (o : Option Thread) → thread_at table u ≡ o →
        f (state_in (thread_at (change_thread table u (thread_at_state s)) t)) ≡ true
    go false k o l = ap f (state_elsewhere table u t (thread_at_state s) k) ∙ g
    go true k None l = absurd (d (sym e ∙ ap state_in l))
    go true k (Some x) l =
        let same : t ≡ u = grind (arith, nat_tests) in
        ap f (state_there table u t (thread_at_state s) x k l)
        ∙ h (ap f (sym e) ∙ ap (λ v. f (state_in (thread_at table v))) (sym same) ∙ g)

given_turned :
    (f : ThreadState → Bool) (m : State) (i : Item) (u t since : ℕ) → state_of m u ≡ is.Idle since →
    (f (is.Idle since) ≡ true → f (is.Given i) ≡ true) → f (state_of m t) ≡ true → f (state_of (give_one m i u) t) ≡ true
given_turned f m (item.Call c) u t since e h g = turned f m.process_table u t (is.Idle since) (is.Given (item.Call c)) e (λ d. cc) h g
given_turned f m (item.Notice c) u t since e h g = turned f m.process_table u t (is.Idle since) (is.Given (item.Notice c)) e (λ d. cc) h g

settled :
    (f : ThreadState → Bool) (before m : State) (t : ℕ) → ((since : ℕ) → f (is.Idle since) ≡ true → f is.FailedReturn ≡ true) →
    ((since : ℕ) (i : Item) → f (is.Idle since) ≡ true → f (is.Given i) ≡ true) → (f is.Dormant ≡ true → f is.Running ≡ true) →
    f (state_of m t) ≡ true → f (state_of (settle before m) t) ≡ true
settled f before m t fails gives starts h =
    settle-all (λ n. f (state_of n t) ≡ true) before
    (record {
      makes = λ n d l e. e;
      fails =
          λ n u l e. turned f n.process_table u t (is.Idle (loses_idle n u l).0) is.FailedReturn (loses_idle n u l).1 (λ d. cc) (fails (loses_idle n u l).0) e;
      gives = λ n w x p e. given_turned f n w.item x.thread.0 t x.since (picked_idle n _ x p) (gives x.since w.item) e;
      starts = λ n u r e. turned f n.process_table u t is.Dormant is.Running r (λ d. cc) starts e;
    }) (λ n h. h)
    m h

-- what an act answers and to what it turns its thread
data Stands (a : Answer) (s : ThreadState) : Type 0 where
  goes : says_wait a ≡ false → is_over s ≡ true → Stands a s
  waits : says_wait a ≡ true → is_parked s ≡ true → Stands a s

-- a thread that goes on, where others leave

left_over :
    (who : Leaving) (n : ℕ) (o : Option Call) (x : Thread) → x.state ≡ is.Running →
    ((r : Call) (u : ℕ) → o ≡ Some r → r.stage ≡ stage.Given (tid u) → ⊥) → is_over (left_thread who n o x).state ≡ true
left_over who n o x e h = by_end (who.ends x.number)
  where
    same : (b : Bool) → is_over (interrupted_where b x).state ≡ true
    same true = ap (λ (s : ThreadState). is_over (interrupted_state s)) e
    same false = ap is_over e

    at_stage :
        (r : Call) (b : Bool) (s : CallStage) → ((u : ℕ) → s ≡ stage.Given (tid u) → ⊥) →
        is_over (deserted_at n r.no_cancel s (interrupted_where b x)).state ≡ true
    at_stage r b (stage.Given u) g = absurd (g u.0 refl)
    at_stage r b (stage.Entered u) g = by_flag r.no_cancel
      where
        by_flag : (d : Bool) → is_over (if d then interrupted_where b x else cancelled_thread (interrupted_where b x)).state ≡ true
        by_flag true = same b
        by_flag false = same b
    at_stage r b s g = same b

    deserted : (b : Bool) (z : Option Call) → ((r : Call) (u : ℕ) → z ≡ Some r → r.stage ≡ stage.Given (tid u) → ⊥) →
        is_over (deserted_in who n z (interrupted_where b x)).state ≡ true
    deserted b None g = same b
    deserted b (Some r) g = by_left (is_left who r)
      where
        by_left : (d : Bool) → is_over (if d then deserted_at n r.no_cancel r.stage (interrupted_where b x) else interrupted_where b x).state ≡ true
        by_left true = at_stage r b r.stage (λ u l. g r u refl l)
        by_left false = same b

    by_end :
        (b : Bool) → is_over (if b then ended_thread x else deserted_in who n o (interrupted_where (who.interrupts x.number) x)).state ≡ true
    by_end true = refl
    by_end false = deserted (who.interrupts x.number) o h

module _ (m : State) (t : ℕ) (h : Invariant m) where
  there : (s : ThreadState) → state_of m t ≡ s → (s ≡ is.Done → ⊥) → IsThread m t
  there s e d = is_thread m t (λ f. d (sym e ∙ f))

  itself : (t == t) ≡ true
  itself = grind (arith, nat_tests)

  -- the thread as it is changed
  changed_here : (x : IsThread m t) (change : Thread → Thread) → state_in (thread_at (change_thread m.process_table t change) t) ≡ (change x.thread).state
  changed_here x change = state_there m.process_table t t change x.thread itself x.there

  leave_over : (who : Leaving) → state_of m t ≡ is.Running → is_over (state_of (leave m who) t) ≡ true
  leave_over who e =
      ap is_over (ap state_in (at_number-map (left_thread_of who (now m) m.call_tree.calls) m.process_table.threads t))
      ∙ go (thread_of m t) refl e
    where
      none_given : (o : Option Call) → served_by m t ≡ o → (r : Call) (u : ℕ) → o ≡ Some r → r.stage ≡ stage.Given (tid u) → ⊥
      none_given o f r u g s = by (serves_of m h t r (f ∙ g)) (serves_of m h t r (f ∙ g)).with_it
        where
          by : ServesCall m t r → IsWith t r.stage → ⊥
          by z (inl l) =
              absurd (cc (sym e ∙ h.consistent.coherent.waits.given r.number t (ap stage_in z.found ∙ ap (λ y. Some y) l)))
          by z (inr l) = absurd (cc (sym s ∙ l))

      go :
          (o : Option Thread) → thread_of m t ≡ o → state_in o ≡ is.Running →
          is_over (state_in (option_map (left_thread_of who (now m) m.call_tree.calls) o)) ≡ true
      go None f g = refl
      go (Some x) f g =
          left_over who (now m) (find (is_served_by x.number) m.call_tree.calls) x g
          (none_given (find (is_served_by x.number) m.call_tree.calls)
          (ap (λ n. served_by m n) (sym (h.consistent.coherent.threads.thread_number t x.number (ap number_in f)))))

  said : (r : Request) (a : Answer) → IsSaid m t (Some r) a → says_wait a ≡ false
  said r a (IsSaid.refused q e f) = refl
  said r a _ = refl

  row_said : (r : Request) (place : ℕ) (o : _) (a : Answer) → IsRow m t r place o a → says_wait a ≡ false
  row_said r place o a (IsRow.closes fd f) = refl
  row_said r place o a _ = refl

  -- what is found at a port
  found : (q max : ℕ) (one : Bool) → says_wait (found_answer m q max one) ≡ false
  found q max false = refl
  found q max true = event (first_found (port m q))
    where
      event : (o : Option Queued) → says_wait (event_answer o) ≡ false
      event None = refl
      event (Some x) = refl

  passing_said : (r : Request) (c : Channels) (a : Answer) → IsPassing m t r c a → says_wait a ≡ false
  passing_said r c a (IsPassing.gets fd wait f g) = found (port_at m (process_of m t) fd) 1 true
  passing_said r c a (IsPassing.gets_many fd max nget wait f z g) = found (port_at m (process_of m t) fd) max false
  passing_said r c a _ = refl

  making_said : (r : Request) (c : Channels) (objects : List Obj) (a : Answer) → IsMaking m t r c objects a → says_wait a ≡ false
  making_said r c objects a (IsMaking.makes_pipe f) = refl
  making_said r c objects a _ = refl

  fork_over :
      (child : ℕ) → first_refusal (forking_tests m child) ≡ None → state_of m t ≡ is.Running →
      is_over (state_of (fork m t (process_of m t) child).state t) ≡ true
  fork_over child f e = go (fork_state m t (process_of m t) child t h (was_unborn m child f))
    where
      go :
          (state_of (fork m t (process_of m t) child).state t ≡ state_of (leave m (forking m.process_table t)) t)
          ⊎ ((state_of m t ≡ is.Dormant) × (state_of (fork m t (process_of m t) child).state t ≡ is.Running)) →
          is_over (state_of (fork m t (process_of m t) child).state t) ≡ true
      go (inl g) = ap is_over g ∙ leave_over (forking m.process_table t) e
      go (inr g) = ap is_over g.1

  move_stands : (r : Request) (a : ActResult) → state_of m t ≡ is.Running → Moves m t (Some r) a → Stands a.answer (state_of a.state t)
  move_stands r a e (Moves.nothing x s) = goes (said r x s) (ap is_over e)
  move_stands r a e (Moves.rows q place o x s) = goes (row_said q place o x s) (ap is_over e)
  move_stands r a e (Moves.turns s x w (IsTurn.awaits path f)) = waits refl (ap is_parked (changed_here (there is.Running e (λ d. cc)) (thread_at_state (is.Awaiting path))))
  move_stands r a e (Moves.turns s x w (IsTurn.starts_work op input)) =
      waits refl (ap is_parked (changed_here (there is.Running e (λ d. cc)) (thread_at_state (is.Working op input))))
  move_stands r a e (Moves.turns s x w (IsTurn.waits_for_one fd wait f n)) =
      waits refl (ap is_parked (changed_here (there is.Running e (λ d. cc)) (thread_at_state _)))
  move_stands r a e (Moves.turns s x w (IsTurn.waits_for_many fd max nget wait f z n)) =
      waits refl (ap is_parked (changed_here (there is.Running e (λ d. cc)) (thread_at_state _)))
  move_stands r a e (Moves.passes q c x p) = goes (passing_said q c x p) (ap is_over e)
  move_stands r a e (Moves.makes_channel q c os x p) = goes (making_said q c os x p) (ap is_over e)
  move_stands r a e (Moves.calls fd bytes pass rsize f) = waits refl (ap is_parked (changed_here (there is.Running e (λ d. cc)) (thread_at_state _)))
  move_stands r a e (Moves.returns bytes pass f v) = waits refl (ap is_parked (changed_here (there is.Running e (λ d. cc)) (idle_thread (now m))))
  move_stands r a e (Moves.returns_unbound bytes pass f v) =
      goes refl (ap is_over (changed_here (there is.Running e (λ d. cc)) thread_outside ∙ sym (ap state_in (there is.Running e (λ d. cc)).there) ∙ e))
  move_stands r a e (Moves.leaves q who f) = goes refl (leave_over who e)
  move_stands r a e (Moves.revokes fd f) = goes refl (leave_over (revocation (door_at m (process_of m t) fd)) e)
  move_stands r a e (Moves.ends q p f) =
      goes refl
      (ap (λ o. is_over (state_in o)) (thread_at-end_process (leave m (process_end m.process_table m.doors p)).process_table p t)
      ∙ leave_over (process_end m.process_table m.doors p) e)
  move_stands r a e (Moves.forks child f) = goes refl (fork_over child.0 f e)
  move_stands r a e _ = goes refl (ap is_over e)

  -- the end of a wait
  end_stands : (s : ThreadState) → state_of m t ≡ s → IsReadyEnd m t s → Stands (go_on m t (process_of m t) s).answer (state_of (go_on m t (process_of m t) s).state t)
  end_stands (is.Given (item.Call c)) e b = subst Accepted (sym b.there) (by_room (has_room m (process_of m t) b.made.objects))
    where
      Accepted : Option Call → Type 0
      Accepted o = Stands (accept_call m t (process_of m t) c o).answer (state_of (accept_call m t (process_of m t) c o).state t)

      by_room :
          (d : Bool) →
          Stands (if d then begin_call m t (process_of m t) c b.made else fail_begin m t c b.made).answer
          (state_of (if d then begin_call m t (process_of m t) c b.made else fail_begin m t c b.made).state t)
      by_room true = goes refl (ap is_over (changed_here (there _ e (λ d. cc)) (thread_in_invocation (item.Call c))))
      by_room false = waits refl (ap is_parked (changed_here (there _ e (λ d. cc)) (idle_thread (now m))))
  end_stands (is.Given (item.Notice c)) e b =
      subst (λ o. Stands (accept_notice m t c o).answer (state_of (accept_notice m t c o).state t)) (sym b.there)
      (goes refl (ap is_over (changed_here (there _ e (λ d. cc)) (thread_in_invocation (item.Notice c)))))
  end_stands (is.Calling c) e b =
      goes (told (find_call m (is_to_collect_as c))) (ap is_over (changed_here (there _ e (λ d. cc)) (thread_at_state is.Running)))
    where
      by_room :
          (d : Bool) (bytes : List ℕ) (fds : List Fd) (grown : Bool) →
          says_wait (if d then answer.Results bytes fds grown else answer.Failure EMFILE) ≡ false
      by_room true bytes fds grown = refl
      by_room false bytes fds grown = refl

      of_stage : (r : Call) (z : CallStage) → says_wait (collect_answer m (process_of m t) r z) ≡ false
      of_stage r (stage.Returned bytes os) = by_room (has_room m (process_of m t) os) bytes _ _
      of_stage r (stage.Ended x) = refl
      of_stage r z = refl

      told : (o : Option Call) → says_wait (collect_answer_in m (process_of m t) o) ≡ false
      told None = refl
      told (Some r) = of_stage r r.stage
  end_stands (is.Getting q max nget one true) e b = goes refl (ap is_over (changed_here (there _ e (λ d. cc)) (thread_at_state is.Running)))
  end_stands (is.Getting q max nget one false) e b = by_references (has_port_references m q)
    where
      by_references :
          (d : Bool) →
          Stands (if d then retrieve (with_state m t is.Running) q max one else act_result (with_state m t is.Running) (answer.Failure EBADF)).answer
          (state_of
          (if d then retrieve (with_state m t is.Running) q max one else act_result (with_state m t is.Running) (answer.Failure EBADF)).state
          t)
      by_references true = goes (found q max one) (ap is_over (changed_here (there _ e (λ d. cc)) (thread_at_state is.Running)))
      by_references false = goes refl (ap is_over (changed_here (there _ e (λ d. cc)) (thread_at_state is.Running)))
  end_stands (is.Awaiting path) e b = goes refl (ap is_over (changed_here (there _ e (λ d. cc)) (thread_at_state is.Running)))
  end_stands (is.Working op input) e b = goes refl (ap is_over (changed_here (there _ e (λ d. cc)) (thread_at_state is.Running)))
  end_stands is.FailedReturn e b = goes refl (ap is_over (changed_here (there _ e (λ d. cc)) (thread_at_state is.Running)))
  end_stands s e b = absurd b

  act_stands : (q : Option Request) → MayTurn m t q → IsReadyTurn m t q → Stands (act m t q).answer (state_of (act m t q).state t)
  act_stands (Some r) may b = move_stands r (act m t (Some r)) (running_is m t may.running) (act_moves m t (Some r))
  act_stands None may b = end_stands (state_of m t) refl b

  -- and after what follows
  stands_then : (a : Answer) (n : State) → Stands a (state_of n t) → is_stopped (state_of (settle m n) t) ≡ says_wait a
  stands_then a n (goes f g) =
      over (state_of (settle m n) t)
      (settled is_over m n t (λ since k. absurd (cc k)) (λ since i k. absurd (cc k)) (λ k. refl) g)
      ∙ sym f
    where
      over : (s : ThreadState) → is_over s ≡ true → is_stopped s ≡ false
      over s k = grind (arith, k)
  stands_then a n (waits f g) =
      parked (state_of (settle m n) t) (settled is_parked m n t (λ since k. refl) (λ since i k. refl) (λ k. absurd (cc k)) g) ∙ sym f
    where
      parked : (s : ThreadState) → is_parked s ≡ true → is_stopped s ≡ true
      parked is.Dormant k = refl
      parked s k = k

  step_stands : (q : Option Request) → MayTurn m t q → IsReadyTurn m t q → is_stopped (state_of (step m t q).state t) ≡ says_wait (step m t q).answer
  unfolding step
  step_stands q may b = stands_then (act m t q).answer (act m t q).state (act_stands q may b)

pub waits_where_told : (m : State) (xs : List Turn) → Known m xs → WaitsWhereToldSo m xs
waits_where_told m xs k i x e =
    ap (λ n. is_stopped (state_of n x.thread)) (next m xs k i x e)
    ∙ step_stands (state_at m xs i) x.thread (invariant_before m xs k i x e) x.request (k.may i x e) (k.keeps i x e).is_ready
