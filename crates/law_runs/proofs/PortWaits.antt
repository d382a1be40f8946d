-- What a thread does before and after an event, where it waits at a port.
use Rattle.std.specs.Prelude.{ℕ, ◌≡◌, ◌+◌, ◌==◌, ◌<◌, ◌≤◌, ◌↔◌, ◌⊎◌, ◌&&◌, ◌||◌, List, [], Option, Bool, true, false, if◌then◌else◌, not, Some, None, is_some, length, nat_le, slice_get, suc, zero}
use Rattle.std.proofs.Common.{refl, sym, ap, subst, ◌∙◌, inl, inr, add-one}
use native.Mathlib.Omega.{arith}
use Rattle.std.proofs.lemmas.Bool.Decides.{nat_tests}
use Rattle.std.proofs.lemmas.Option.{slice_get_within}
use Rattle.spec_kernel.specs.Types.{Answer, Fd, Queued, Request, Thread, ThreadState, Tid}
use Rattle.dk_base.specs.declared.error.Errno.TheVariants.{EINTR, EINVAL, ETIME}
use Rattle.dk_base.specs.declared.object.Item.TheVariants as item
use Rattle.dk_base.specs.declared.object.Obj.TheVariants as obj
use Rattle.dk_base.specs.declared.request.Request.TheVariants as request
use Rattle.dk_base.specs.declared.answer.Answer.TheVariants as answer
use Rattle.spec_records.specs.declared.port.Alert.{Alert}
use Rattle.spec_records.specs.declared.record.ThreadState.TheVariants as is
use Rattle.spec_records.specs.Words.{Leaving, Port, change_thread, first_found, forking, get_tests, getn_tests, has_bad_count, idle_thread, interrupted_state, interruption, is_calling, is_fellow_caller, is_ready_for, must_wait, port_in, process_end, refused_where, revocation, state_in, thread_at, thread_at_state, thread_end, thread_in_invocation, thread_outside, tid}
use Rattle.spec_kernel.specs.Words.{ActResult, MayEnter, MayTurn, State, Turn, act, door_at, effect, event_answer, fork, found_answer, get_from, is_unborn_process, leave, now, object_at, port, port_at, port_tests, process_of, retrieve, settle, state_at, state_of, tell_queued, unless_refused, wait_for, with_state}
use Rattle.spec_kernel.proofs.Moves.{IsFree, IsLeaving, IsTurn, Moves, act_moves}
use Rattle.spec_kernel.proofs.Refusals.{last_not_held, not_held}
use Rattle.spec_kernel.proofs.Threads.{thread_at-end_process}
use Rattle.law_states.specs.Invariant.{Invariant}
use Rattle.law_states.proofs.Settling.{is_at_rest}
use Rattle.law_states.proofs.Steps.{running_is}
use Rattle.law_places.specs.Places.{answer_at, process_at}
use Rattle.law_places.proofs.Known.{TurnAt, invariant_before, next, turn_at}
use Rattle.law_runs.specs.Channels.{Names, is_at_port, port_under}
use Rattle.law_runs.specs.Ends.{EndsProcess}
use Rattle.law_runs.specs.PortWaits.{AsksToWait, BeginsWait, HasTooFew, PortWaits, WaitChange, WasInterrupted}
use Rattle.law_runs.specs.Answers.{EndAnswers}
use Rattle.law_runs.proofs.Answers.{answers_ends_of_waits, asks_to_wait}
use Rattle.law_runs.proofs.Channels.{IsThere, KnownChannels, answer_of, entry_answer, is_free}
use Rattle.law_runs.proofs.Forking.{fork_state, no_fellow, was_unborn}
use Rattle.law_runs.proofs.Parked.{IsThread, is_thread, state_there}
use Rattle.law_runs.proofs.OneThread.{Settled, is_stirred, leave_none, leave_state, one_changes, settled, settled_same, state-step, state_where}
use Rattle.law_runs.proofs.PortTurns.{names_port, port_there}
use Rattle.law_runs.proofs.RowChanges.{ends_moves}

-- a thread that is interrupted, or ends, or whose caller leaves

not_interrupted : (s : ThreadState) → is_at_port s ≡ false → is_at_port (interrupted_state s) ≡ false
not_interrupted (is.Getting q max nget one b) e = absurd (cc e)
not_interrupted s e = e

module _ (m : State) (h : Invariant m) (t : ℕ) where
  leave_port :
      (who : Leaving) (q max nget : ℕ) (one b : Bool) → state_of m t ≡ is.Getting q max nget one b →
      state_of (leave m who) t ≡ (if who.ends t then is.Done else is.Getting q max nget one (who.interrupts t || b))
  leave_port who q max nget one b e =
      leave_state m h t who (is.Getting q max nget one b) e (λ d. cc) (λ c d. cc)
      ∙ ap (λ s. if who.ends t then is.Done else s) (marked (who.interrupts t))
    where
      marked : (d : Bool) → state_where d (is.Getting q max nget one b) ≡ is.Getting q max nget one (d || b)
      marked true = refl
      marked false = refl

-- a port that is not ready for so many
too_few : (m : State) (q nget : ℕ) → IsThere (port_under m q) → is_ready_for nget (port m q) ≡ false → HasTooFew m q nget
too_few m q nget y r = go y.it.alert refl (ap (λ (o : Option Port). is_ready_for nget (port_in o)) (sym y.there) ∙ r)
  where
    go : (a : Option Alert) → y.it.alert ≡ a → (is_some a || nat_le nget (length y.it.queue)) ≡ false → HasTooFew m q nget
    go (Some a) e f = absurd (cc f)
    go None e f = record { port = y.it; there = y.there; no_alert = e; too_few = grind (arith, nat_tests, f) }

module _ (m : State) (xs : List Turn) (k : KnownChannels m xs) (i : ℕ) (x : Turn) (e : slice_get xs i ≡ Some x) where
  abbrev own : ℕ
  own = process_at m xs i x.thread

  abbrev before : State
  before = state_at m xs i

  inv : Invariant (state_at m xs i)
  inv = invariant_before m xs k.known i x e

  abbrev Change : ℕ → ThreadState → ThreadState → Type 0
  Change t s r = WaitChange m xs i x t s r

  change_as : (t : ℕ) (a b c d : ThreadState) → a ≡ b → c ≡ d → Change t b d → Change t a c
  change_as t a b c d f g h = subst (λ z. Change t z c) (sym f) (subst (λ z. Change t b z) (sym g) h)

  rest_is_none : (s : ThreadState) → is_at_rest s ≡ true → is_at_port s ≡ false
  rest_is_none (is.Getting q max nget one b) f = absurd (cc f)
  rest_is_none s f = grind (arith, f)

  stirred_is_none : (s : ThreadState) → is_stirred s ≡ true → is_at_port s ≡ false
  stirred_is_none (is.Getting q max nget one b) f = absurd (cc f)
  stirred_is_none s f = grind (arith, f)

  then_settled : (t : ℕ) (s r z : ThreadState) → Change t s r → Settled r z → Change t s z
  then_settled t s r z c (inl f) = subst (Change t s) (sym f) c
  then_settled t s r z c (inr f) = go c f.0
    where
      go : {a b : ThreadState} → Change t a b → is_at_rest b ≡ true → Change t a z
      go (WaitChange.elsewhere g h) l = WaitChange.elsewhere g (stirred_is_none z f.1)
      go (WaitChange.stays {s = c}) l = WaitChange.elsewhere (rest_is_none c l) (stirred_is_none z f.1)
      go (WaitChange.begins q max nget one g h j w) l = absurd (cc l)
      go (WaitChange.interrupted q max nget one already g h) l = absurd (cc l)
      go (WaitChange.ends q max nget one marked g h) l = absurd (cc l)
      go (WaitChange.with_process q max nget one marked g) l = absurd (cc l)

  running : (r : Request) → x.request ≡ Some r → state_of (state_at m xs i) x.thread ≡ is.Running
  running r f =
      let may : MayEnter (state_at m xs i) x.thread r = subst (MayTurn (state_at m xs i) x.thread) f (k.known.may i x e) in
      running_is (state_at m xs i) x.thread may.running

  -- a change of the thread whose turn it is
  own_changes :
      (t : ℕ) (change : Thread → Thread) →
      ((y : Thread) → y.state ≡ state_of (state_at m xs i) x.thread → Change x.thread y.state (change y).state) →
      Change t (state_of (state_at m xs i) t) (state_in (thread_at (change_thread (state_at m xs i).process_table x.thread change) t))
  own_changes t change h = one_changes Change (state_at m xs i).process_table x.thread t change (λ u r. WaitChange.stays) h

  -- from no wait at a port to none
  no_wait :
      (t : ℕ) (change : Thread → Thread) (s : ThreadState) → state_of (state_at m xs i) x.thread ≡ s → is_at_port s ≡ false →
      ((y : Thread) → is_at_port (change y).state ≡ false) →
      Change t (state_of (state_at m xs i) t) (state_in (thread_at (change_thread (state_at m xs i).process_table x.thread change) t))
  no_wait t change s f p h = own_changes t change (λ y g. WaitChange.elsewhere (ap is_at_port (g ∙ f) ∙ p) (h y))

  begins :
      (t q max nget : ℕ) (one : Bool) (r : Request) → x.request ≡ Some r → AsksToWait m xs i x q max nget one → answer_at m xs i x ≡ answer.Wait →
      HasTooFew (state_at m xs i) q nget →
      Change t (state_of (state_at m xs i) t) (state_of (with_state (state_at m xs i) x.thread (is.Getting q max nget one false)) t)
  begins t q max nget one r f asks a few =
      own_changes t (thread_at_state (is.Getting q max nget one false))
      (λ y g. change_as x.thread _ is.Running _ (is.Getting q max nget one false) (g ∙ running r f) refl (WaitChange.begins q max nget one refl asks a few))

  ends :
      (t q max nget : ℕ) (one marked : Bool) → x.request ≡ None → state_of (state_at m xs i) x.thread ≡ is.Getting q max nget one marked →
      Change t (state_of (state_at m xs i) t) (state_of (with_state (state_at m xs i) x.thread is.Running) t)
  ends t q max nget one marked f s =
      own_changes t (thread_at_state is.Running)
      (λ y g. change_as x.thread _ (is.Getting q max nget one marked) _ is.Running (g ∙ s) refl (WaitChange.ends q max nget one marked refl f))

  may_wait : (fd : Fd) (wait : Bool) → IsFree (state_at m xs i) x.thread (request.Get fd wait) → is_ready_for 1 (port (state_at m xs i) (port_at (state_at m xs i) own fd)) ≡ false → wait ≡ true
  may_wait fd wait f r = asks_to_wait wait _ (not_held (port_tests (object_at (state_at m xs i) own fd)) _ [] f) r

  may_wait_for_many :
      (fd : Fd) (max nget : ℕ) (wait : Bool) → IsFree (state_at m xs i) x.thread (request.GetN fd max nget wait) → (max == 0) ≡ false →
      is_ready_for nget (port (state_at m xs i) (port_at (state_at m xs i) own fd)) ≡ false → wait ≡ true
  may_wait_for_many fd max nget wait f z r =
      asks_to_wait wait (is_ready_for nget (port (state_at m xs i) (port_at (state_at m xs i) own fd)))
      (ap (λ b. not wait && (not b && not (is_ready_for nget (port (state_at m xs i) (port_at (state_at m xs i) own fd))))) (sym z)
      ∙ last_not_held (port_tests (object_at (state_at m xs i) own fd)) (refused_where (has_bad_count max nget) EINVAL)
      (refused_where (not wait && must_wait max nget (port (state_at m xs i) (port_at (state_at m xs i) own fd))) ETIME)
      f)
      r

  named :
      (fd : Fd) (wait : Bool) → IsFree (state_at m xs i) x.thread (request.Get fd wait) → Names m xs i x fd (obj.Port (port_at (state_at m xs i) own fd))
  named fd wait f = names_port m xs k i x e fd (get_tests wait (port (state_at m xs i) (port_at (state_at m xs i) own fd))) f

  named_for_many :
      (fd : Fd) (max nget : ℕ) (wait : Bool) → IsFree (state_at m xs i) x.thread (request.GetN fd max nget wait) →
      Names m xs i x fd (obj.Port (port_at (state_at m xs i) own fd))
  named_for_many fd max nget wait f = names_port m xs k i x e fd (getn_tests wait max nget (port (state_at m xs i) (port_at (state_at m xs i) own fd))) f

  turns :
      (t : ℕ) (q : Option Request) (s : ThreadState) (a : Answer) → IsTurn (state_at m xs i) x.thread q s a → x.request ≡ q →
      answer_at m xs i x ≡ a → Change t (state_of (state_at m xs i) t) (state_of (with_state (state_at m xs i) x.thread s) t)
  turns t q s a (IsTurn.awaits path f) g h = no_wait t (thread_at_state (is.Awaiting path)) is.Running (running (request.Await path) g) refl (λ y. refl)
  turns t q s a (IsTurn.starts_work op input) g h =
      no_wait t (thread_at_state (is.Working op input)) is.Running (running (request.Work op input) g) refl (λ y. refl)
  turns t q s a (IsTurn.finds path f) g h = no_wait t (thread_at_state is.Running) (is.Awaiting path) f refl (λ y. refl)
  turns t q s a (IsTurn.works op input f) g h = no_wait t (thread_at_state is.Running) (is.Working op input) f refl (λ y. refl)
  turns t q s a (IsTurn.wakes f) g h = no_wait t (thread_at_state is.Running) is.FailedReturn f refl (λ y. refl)
  turns t q s a (IsTurn.waits_for_one fd wait f r) g h =
      begins t (port_at (state_at m xs i) own fd) 1 1 true (request.Get fd wait) g
      (AsksToWait.by_get fd (g ∙ ap (λ b. Some (request.Get fd b)) (may_wait fd wait f r)) (named fd wait f)) h
      (too_few (state_at m xs i) (port_at (state_at m xs i) own fd) 1 (port_there m xs k i x e fd (port_at (state_at m xs i) own fd) (named fd wait f)) r)
  turns t q s a (IsTurn.waits_for_many fd max nget wait f z r) g h =
      begins t (port_at (state_at m xs i) own fd) max nget false (request.GetN fd max nget wait) g
      (AsksToWait.by_getn fd max nget (g ∙ ap (λ b. Some (request.GetN fd max nget b)) (may_wait_for_many fd max nget wait f z r)) (named_for_many fd max nget wait f)) h
      (too_few (state_at m xs i) (port_at (state_at m xs i) own fd) nget (port_there m xs k i x e fd (port_at (state_at m xs i) own fd) (named_for_many fd max nget wait f)) r)
  turns t q s a (IsTurn.was_interrupted p max nget one f) g h = ends t p max nget one true g f
  turns t q s a (IsTurn.lost_port p max nget one f r) g h = ends t p max nget one false g f

  -- where callers and threads leave
  leaves :
      (t : ℕ) (who : Leaving) →
      ((q max nget : ℕ) (one b : Bool) → state_of (state_at m xs i) t ≡ is.Getting q max nget one b →
      Change t (is.Getting q max nget one b) (if who.ends t then is.Done else is.Getting q max nget one (who.interrupts t || b))) →
      Change t (state_of (state_at m xs i) t) (state_of (leave (state_at m xs i) who) t)
  leaves t who h = go (state_of (state_at m xs i) t) refl
    where
      go : (s : ThreadState) → state_of (state_at m xs i) t ≡ s → Change t (state_of (state_at m xs i) t) (state_of (leave (state_at m xs i) who) t)
      go (is.Getting q max nget one b) f = change_as t _ _ _ _ f (leave_port (state_at m xs i) inv t who q max nget one b f) (h q max nget one b f)
      go s f = WaitChange.elsewhere none (leave_none (state_at m xs i) inv t is_at_port refl (λ since. refl) not_interrupted who none)
        where
          none : is_at_port (state_of (state_at m xs i) t) ≡ false
          none = ap is_at_port f

  not_its_own : (r : Request) (t q max nget : ℕ) (one b : Bool) → x.request ≡ Some r → state_of (state_at m xs i) t ≡ is.Getting q max nget one b → x.thread ≡ t → ⊥
  not_its_own r t q max nget one b f s same = absurd (cc (sym (running r f) ∙ ap (state_of (state_at m xs i)) same ∙ s))

  interrupts :
      (t : ℕ) (u : Tid) → x.request ≡ Some (request.Interrupt u) →
      Change t (state_of (state_at m xs i) t) (state_of (leave (state_at m xs i) (interruption u.0)) t)
  interrupts t u f = leaves t (interruption u.0) (λ q max nget one b s. go q max nget one b s (t == u.0) refl)
    where
      go :
          (q max nget : ℕ) (one b : Bool) → state_of (state_at m xs i) t ≡ is.Getting q max nget one b → (d : Bool) → (t == u.0) ≡ d →
          Change t (is.Getting q max nget one b) (is.Getting q max nget one (d || b))
      go q max nget one b s true g =
          let same : u.0 ≡ t = grind (arith, nat_tests, g) in
          WaitChange.interrupted q max nget one b (f ∙ ap (λ n. Some (request.Interrupt (tid n))) same)
          (not_its_own (request.Interrupt u) t q max nget one b f s)
      go q max nget one b s false g = WaitChange.stays

  exits :
      (t : ℕ) → x.request ≡ Some request.Exit → Change t (state_of (state_at m xs i) t) (state_of (leave (state_at m xs i) (thread_end x.thread)) t)
  exits t f = leaves t (thread_end x.thread) (λ q max nget one b s. go q max nget one b s (t == x.thread) refl)
    where
      go :
          (q max nget : ℕ) (one b : Bool) → state_of (state_at m xs i) t ≡ is.Getting q max nget one b → (d : Bool) → (t == x.thread) ≡ d →
          Change t (is.Getting q max nget one b) (if d then is.Done else is.Getting q max nget one b)
      go q max nget one b s true g = absurd (not_its_own request.Exit t q max nget one b f s (grind (arith, nat_tests, g)))
      go q max nget one b s false g = WaitChange.stays

  process_leaves :
      (t p : ℕ) → EndsProcess m xs i x p →
      Change t (state_of (state_at m xs i) t)
      (state_of (leave (state_at m xs i) (process_end (state_at m xs i).process_table (state_at m xs i).doors p)) t)
  process_leaves t p over =
      leaves t (process_end (state_at m xs i).process_table (state_at m xs i).doors p)
      (λ q max nget one b s. go q max nget one b (process_of (state_at m xs i) t == p) refl)
    where
      go :
          (q max nget : ℕ) (one b : Bool) → (d : Bool) → (process_of (state_at m xs i) t == p) ≡ d →
          Change t (is.Getting q max nget one b) (if d then is.Done else is.Getting q max nget one b)
      go q max nget one b true g =
          let same : p ≡ process_of (state_at m xs i) t = grind (arith, nat_tests, g) in
          WaitChange.with_process q max nget one b (subst (EndsProcess m xs i x) same over)
      go q max nget one b false g = WaitChange.stays

  -- a fork interrupts none that waits at a port
  forks :
      (t child : ℕ) → is_unborn_process (state_at m xs i) child ≡ true →
      Change t (state_of (state_at m xs i) t) (state_of (fork (state_at m xs i) x.thread own child).state t)
  forks t child f = go (fork_state (state_at m xs i) x.thread own child t inv f)
    where
      not_called :
          (q max nget : ℕ) (one b : Bool) → state_of (state_at m xs i) t ≡ is.Getting q max nget one b →
          Change t (is.Getting q max nget one b)
          (is.Getting q max nget one (is_fellow_caller (state_at m xs i).process_table x.thread t || b))
      not_called q max nget one b s =
          subst (λ d. Change t (is.Getting q max nget one b) (is.Getting q max nget one (d || b)))
          (sym (no_fellow (state_at m xs i) x.thread t (ap is_calling s)))
          WaitChange.stays

      go :
          (state_of (fork (state_at m xs i) x.thread own child).state t
          ≡ state_of (leave (state_at m xs i) (forking (state_at m xs i).process_table x.thread)) t)
          ⊎ ((state_of (state_at m xs i) t ≡ is.Dormant) × (state_of (fork (state_at m xs i) x.thread own child).state t ≡ is.Running)) →
          Change t (state_of (state_at m xs i) t) (state_of (fork (state_at m xs i) x.thread own child).state t)
      go (inl g) = change_as t _ _ _ _ refl g (leaves t (forking (state_at m xs i).process_table x.thread) not_called)
      go (inr g) = change_as t _ is.Dormant _ is.Running g.0 g.1 (WaitChange.elsewhere refl refl)

  moves :
      (t : ℕ) (q : Option Request) (a : ActResult) → Moves (state_at m xs i) x.thread q a → x.request ≡ q → answer_at m xs i x ≡ a.answer →
      Change t (state_of (state_at m xs i) t) (state_of a.state t)
  moves t q a (Moves.turns s y w z) g h = turns t q s y z g h
  moves t q a (Moves.calls fd bytes pass rsize f) g h = no_wait t (thread_at_state (is.Calling _)) is.Running (running _ g) refl (λ y. refl)
  moves t q a (Moves.returns bytes pass f v) g h = no_wait t (idle_thread (now (state_at m xs i))) is.Running (running _ g) refl (λ y. refl)
  moves t q a (Moves.returns_unbound bytes pass f v) g h = own_changes t thread_outside (λ y l. WaitChange.stays)
  moves t q a (Moves.enters r f room) g h = no_wait t (thread_in_invocation (item.Call r.number)) _ f.given refl (λ y. refl)
  moves t q a (Moves.fails r f room) g h = no_wait t (idle_thread (now (state_at m xs i))) _ f.given refl (λ y. refl)
  moves t q a (Moves.enters_notice n f) g h = no_wait t (thread_in_invocation (item.Notice n.number)) _ f.given refl (λ y. refl)
  moves t q a (Moves.collects c f) g h = no_wait t (thread_at_state is.Running) (is.Calling c) f refl (λ y. refl)
  moves t q a (Moves.retrieves p max nget one z) g h = ends t p max nget one false g z.waits
  moves t q a (Moves.leaves r who (IsLeaving.interrupts u)) g h = interrupts t u g
  moves t q a (Moves.leaves r who (IsLeaving.exits l)) g h = exits t g
  moves t q a (Moves.revokes fd f) g h = leaves t (revocation (door_at (state_at m xs i) own fd)) (λ p max nget one b s. WaitChange.stays)
  moves t q a (Moves.ends r p f) g h =
      change_as t _ _ _ _ refl
      (ap state_in
      (thread_at-end_process
      (leave (state_at m xs i) (process_end (state_at m xs i).process_table (state_at m xs i).doors p)).process_table p t))
      (process_leaves t p (ends_moves m xs k.known i x e r p g f))
  moves t q a (Moves.forks child f) g h = forks t child.0 (was_unborn (state_at m xs i) child.0 f)
  moves t q a _ g h = WaitChange.stays

  state_after : (t : ℕ) → state_of (state_at m xs (i + 1)) t ≡ state_of (settle (state_at m xs i) (act (state_at m xs i) x.thread x.request).state) t
  state_after t = ap (λ n. state_of n t) (next m xs k.known i x e) ∙ state-step (state_at m xs i) x.thread t x.request

  each : (t : ℕ) → Change t (state_of (state_at m xs i) t) (state_of (state_at m xs (i + 1)) t)
  each t =
      change_as t _ _ _ _ refl (state_after t)
      (then_settled t _ _ _
      (moves t x.request (act (state_at m xs i) x.thread x.request) (act_moves (state_at m xs i) x.thread x.request) refl (answer_of m xs k.known i x e))
      (settled (state_at m xs i) (act (state_at m xs i) x.thread x.request).state t))

  -- a thread that waits at a port after an act does after the event
  at_port_after :
      (t q max nget : ℕ) (one b : Bool) → state_of (act (state_at m xs i) x.thread x.request).state t ≡ is.Getting q max nget one b →
      state_of (state_at m xs (i + 1)) t ≡ is.Getting q max nget one b
  at_port_after t q max nget one b f =
      state_after t ∙ settled_same (state_at m xs i) (act (state_at m xs i) x.thread x.request).state t (is.Getting q max nget one b) f refl

  marks :
      (t q max nget : ℕ) (one already : Bool) → x.request ≡ Some (request.Interrupt (tid t)) →
      state_of (state_at m xs i) t ≡ is.Getting q max nget one already → state_of (state_at m xs (i + 1)) t ≡ is.Getting q max nget one true
  marks t q max nget one already f s =
      at_port_after t q max nget one true
      (ap (λ r. state_of (act (state_at m xs i) x.thread r).state t) f
      ∙ leave_port (state_at m xs i) inv t (interruption t) q max nget one already s
      ∙ ap (λ b. is.Getting q max nget one (b || already)) itself)
    where
      itself : (t == t) ≡ true
      itself = grind (arith, nat_tests)

  -- a get that is told to wait does

  not_waiting : (n max : ℕ) (one : Bool) → found_answer (state_at m xs i) n max one ≡ answer.Wait → ⊥
  not_waiting n max false f = cc f
  not_waiting n max true f = event (first_found (port (state_at m xs i) n)) f
    where
      event : (o : Option Queued) → event_answer o ≡ answer.Wait → ⊥
      event None g = cc g
      event (Some z) g = cc g

  begun :
      (fd : Fd) (n max nget : ℕ) (one : Bool) (r : Request) → x.request ≡ Some r → Names m xs i x fd (obj.Port n) →
      answer_at m xs i x ≡ (get_from (state_at m xs i) x.thread n max nget one).answer →
      (act (state_at m xs i) x.thread x.request).state ≡ (get_from (state_at m xs i) x.thread n max nget one).state →
      answer_at m xs i x ≡ answer.Wait → BeginsWait m xs i x fd max nget one
  begun fd n max nget one r f names a s w = go (is_ready_for nget (port (state_at m xs i) n)) refl a s
    where
      here : IsThread (state_at m xs i) x.thread
      here = is_thread (state_at m xs i) x.thread (λ d. cc (sym (running r f) ∙ d))

      itself : (x.thread == x.thread) ≡ true
      itself = grind (arith, nat_tests)

      go :
          (b : Bool) → is_ready_for nget (port (state_at m xs i) n) ≡ b →
          answer_at m xs i x
          ≡ (if b then retrieve (state_at m xs i) n max one else wait_for (state_at m xs i) x.thread n max nget one).answer →
          (act (state_at m xs i) x.thread x.request).state
          ≡ (if b then retrieve (state_at m xs i) n max one else wait_for (state_at m xs i) x.thread n max nget one).state →
          BeginsWait m xs i x fd max nget one
      go true g h l = absurd (not_waiting n max one (sym h ∙ w))
      go false g h l =
          record {
            number = n;
            names = names;
            too_few = too_few (state_at m xs i) n nget (port_there m xs k i x e fd n names) g;
            waits =
                at_port_after x.thread n max nget one false
                (ap (λ z. state_of z x.thread) l
                ∙ state_there (state_at m xs i).process_table x.thread x.thread (thread_at_state (is.Getting n max nget one false)) here.thread itself here.there);
          }

  entry_state :
      (r : Request) → x.request ≡ Some r → IsFree (state_at m xs i) x.thread r →
      (act (state_at m xs i) x.thread x.request).state ≡ (effect (state_at m xs i) x.thread own r).state
  entry_state r f g =
      ap (λ q. (act (state_at m xs i) x.thread q).state) f
      ∙ ap (λ o. (unless_refused (state_at m xs i) o (effect (state_at m xs i) x.thread own r)).state) g

  get_waits : (fd : Fd) (wait : Bool) → x.request ≡ Some (request.Get fd wait) → answer_at m xs i x ≡ answer.Wait → BeginsWait m xs i x fd 1 1 true
  get_waits fd wait f w =
      begun fd (port_at (state_at m xs i) own fd) 1 1 true (request.Get fd wait) f (named fd wait free)
      (entry_answer m xs k.known i x e (request.Get fd wait) f free) (entry_state (request.Get fd wait) f free) w
    where
      free : IsFree (state_at m xs i) x.thread (request.Get fd wait)
      free = is_free m xs k.known i x e (request.Get fd wait) answer.Wait f w (λ y h. cc)

  getn_waits :
      (fd : Fd) (max nget : ℕ) (wait : Bool) → x.request ≡ Some (request.GetN fd max nget wait) → answer_at m xs i x ≡ answer.Wait →
      BeginsWait m xs i x fd max nget false
  getn_waits fd max nget wait f w =
      by_max (max == 0) (entry_answer m xs k.known i x e (request.GetN fd max nget wait) f free) (entry_state (request.GetN fd max nget wait) f free)
    where
      free : IsFree (state_at m xs i) x.thread (request.GetN fd max nget wait)
      free = is_free m xs k.known i x e (request.GetN fd max nget wait) answer.Wait f w (λ y h. cc)

      by_max :
          (b : Bool) →
          answer_at m xs i x
          ≡ (if b then tell_queued (state_at m xs i) (port_at (state_at m xs i) own fd) else get_from (state_at m xs i) x.thread (port_at (state_at m xs i) own fd) max nget false).answer →
          (act (state_at m xs i) x.thread x.request).state
          ≡ (if b then tell_queued (state_at m xs i) (port_at (state_at m xs i) own fd) else get_from (state_at m xs i) x.thread (port_at (state_at m xs i) own fd) max nget false).state →
          BeginsWait m xs i x fd max nget false
      by_max true a s = absurd (cc (sym a ∙ w))
      by_max false a s =
          begun fd (port_at (state_at m xs i) own fd) max nget false (request.GetN fd max nget wait) f (named_for_many fd max nget wait free) a s w

-- a wait that is marked was interrupted

module _ (m : State) (xs : List Turn) (k : KnownChannels m xs) (t q max nget : ℕ) (one : Bool) where
  abbrev Marked : ℕ → Type 0
  Marked i = state_of (state_at m xs i) t ≡ is.Getting q max nget one true

  abbrev Was : ℕ → Type 0
  Was i = WasInterrupted m xs i t q max nget one

  longer : (i : ℕ) → Marked (suc i) → Was i → Was (suc i)
  longer i s w =
      record {
        at = w.at;
        turn = w.turn;
        earlier = omega (arith, w.earlier);
        found = w.found;
        interrupt = w.interrupt;
        already = w.already;
        waited = w.waited;
        since = λ j l h. go j l (split j l h);
      }
    where
      split : (j : ℕ) → w.at < j → j ≤ suc i → (j ≤ i) ⊎ (suc i ≡ j)
      split j l h = grind arith

      go : (j : ℕ) → w.at < j → (j ≤ i) ⊎ (suc i ≡ j) → Marked j
      go j l (inl h) = w.since j l h
      go j l (inr h) = subst Marked h s

  first : (i : ℕ) (x : Turn) (already : Bool) → slice_get xs i ≡ Some x → x.request ≡ Some (request.Interrupt (tid t)) →
      state_of (state_at m xs i) t ≡ is.Getting q max nget one already → Marked (suc i) → Was (suc i)
  first i x already e f s after =
      record {
        at = i;
        turn = x;
        earlier = omega arith;
        found = e;
        interrupt = f;
        already = already;
        waited = s;
        since = λ j l h. let same : suc i ≡ j = omega (arith, l, h) in subst Marked same after;
      }

  marked : (i : ℕ) → i ≤ length xs → Marked i → Was i
  marked zero l s = absurd (cc (sym (k.none_waits t) ∙ ap is_at_port s))
  marked (suc i) l s = go (turn_at xs i (omega (arith, l))) (marked i (omega (arith, l)))
    where
      by :
          (x : Turn) → slice_get xs i ≡ Some x → (Marked i → Was i) → {a b : ThreadState} → WaitChange m xs i x t a b →
          state_of (state_at m xs i) t ≡ a → b ≡ is.Getting q max nget one true → Was (suc i)
      by x e ih (WaitChange.elsewhere g h) f r = absurd (cc (sym h ∙ ap is_at_port r))
      by x e ih WaitChange.stays f r = longer i s (ih (f ∙ r))
      by x e ih (WaitChange.begins p a b c g h j w) f r = absurd (cc r)
      by x e ih (WaitChange.interrupted p a b c already g h) f r = first i x already e g (f ∙ same_wait p a b c already r) s
        where
          same_wait :
              (p a b : ℕ) (c already : Bool) → is.Getting p a b c true ≡ is.Getting q max nget one true →
              is.Getting p a b c already ≡ is.Getting q max nget one already
          same_wait p a b c already g = cc g
      by x e ih (WaitChange.ends p a b c d g h) f r = absurd (cc r)
      by x e ih (WaitChange.with_process p a b c d g) f r = absurd (cc r)

      go : TurnAt xs i → (Marked i → Was i) → Was (suc i)
      go y ih = by y.turn y.found ih (each m xs k i y.turn y.found t) refl (ap (λ n. state_of (state_at m xs n) t) (add-one i) ∙ s)

  -- and so is the answer of its end

  answers_so : {n : State} {s : ThreadState} {a : Answer} → EndAnswers n s a → s ≡ is.Getting q max nget one true → a ≡ answer.Failure EINTR
  answers_so (EndAnswers.was_interrupted p b c d) f = refl
  answers_so (EndAnswers.lost_port p b c d r) f = absurd (cc f)
  answers_so (EndAnswers.gets p b c z r) f = absurd (cc f)
  answers_so (EndAnswers.gets_many p b c z r l) f = absurd (cc f)
  answers_so (EndAnswers.enters c entry cookie bytes fds) f = absurd (cc f)
  answers_so (EndAnswers.fails_to_enter c) f = absurd (cc f)
  answers_so (EndAnswers.enters_notice c entry cookie) f = absurd (cc f)
  answers_so (EndAnswers.collects c bytes fds grown) f = absurd (cc f)
  answers_so (EndAnswers.collects_error c y z) f = absurd (cc f)
  answers_so (EndAnswers.finds path) f = absurd (cc f)
  answers_so (EndAnswers.ends_work op input) f = absurd (cc f)
  answers_so EndAnswers.wakes f = absurd (cc f)

  marked_where :
      {n : State} {s : ThreadState} {a : Answer} (b : Bool) → EndAnswers n s a → s ≡ is.Getting q max nget one b → a ≡ answer.Failure EINTR → b ≡ true
  marked_where b (EndAnswers.was_interrupted p c d z) f g = cc f
  marked_where b (EndAnswers.lost_port p c d z r) f g = absurd (cc g)
  marked_where b (EndAnswers.gets p c d z r) f g = absurd (cc g)
  marked_where b (EndAnswers.gets_many p c d z r l) f g = absurd (cc g)
  marked_where b (EndAnswers.enters c entry cookie bytes fds) f g = absurd (cc f)
  marked_where b (EndAnswers.fails_to_enter c) f g = absurd (cc f)
  marked_where b (EndAnswers.enters_notice c entry cookie) f g = absurd (cc f)
  marked_where b (EndAnswers.collects c bytes fds grown) f g = absurd (cc f)
  marked_where b (EndAnswers.collects_error c y z) f g = absurd (cc f)
  marked_where b (EndAnswers.finds path) f g = absurd (cc f)
  marked_where b (EndAnswers.ends_work op input) f g = absurd (cc f)
  marked_where b EndAnswers.wakes f g = absurd (cc f)

pub port_waits_hold : (m : State) (xs : List Turn) → KnownChannels m xs → PortWaits m xs
port_waits_hold m xs k =
    record {
      each = λ i t x e. each m xs k i x e t;
      get_waits = λ i x fd wait e. get_waits m xs k i x e fd wait;
      getn_waits = λ i x fd max nget wait e. getn_waits m xs k i x e fd max nget wait;
      marks = λ i t q max nget one already x e. marks m xs k i x e t q max nget one already;
      marked = λ i t q max nget one. marked m xs k t q max nget one i;
      told = told;
    }
  where
    told :
        (i q max nget : ℕ) (one already : Bool) (x : Turn) → slice_get xs i ≡ Some x → x.request ≡ None →
        state_of (state_at m xs i) x.thread ≡ is.Getting q max nget one already →
        (answer_at m xs i x ≡ answer.Failure EINTR) ↔ WasInterrupted m xs i x.thread q max nget one
    told i q max nget one already x e f s = (
      λ a.
          marked m xs k x.thread q max nget one i (omega (arith, slice_get_within xs i x e))
          (s
          ∙ ap (λ b. is.Getting q max nget one b)
          (marked_where m xs k x.thread q max nget one already (answers_ends_of_waits m xs k.known i x e f) s a)),
      λ w.
          answers_so m xs k x.thread q max nget one (answers_ends_of_waits m xs k.known i x e f) (w.since i w.earlier (omega arith)),
    )
