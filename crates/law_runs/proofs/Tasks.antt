-- What a thread does before and after an event, where it is at a task.
use Rattle.std.specs.Prelude.{ℕ, ◌≡◌, ◌+◌, ◌==◌, ◌<◌, ◌≤◌, ◌⊎◌, List, Option, Bool, true, false, if◌then◌else◌, Some, None, length, slice_get, suc, zero}
use Rattle.std.proofs.Common.{refl, sym, ap, subst, ◌∙◌, inl, inr, add-one}
use native.Mathlib.Omega.{arith}
use Rattle.std.proofs.lemmas.Bool.Decides.{nat_tests}
use Rattle.spec_kernel.specs.Types.{Answer, Request, Thread, ThreadState}
use Rattle.dk_base.specs.declared.object.Item.TheVariants as item
use Rattle.dk_base.specs.declared.request.Op.{Op}
use Rattle.dk_base.specs.declared.request.Request.TheVariants as request
use Rattle.spec_records.specs.declared.record.ThreadState.TheVariants as is
use Rattle.spec_records.specs.Words.{Leaving, change_thread, forking, idle_thread, interrupted_state, interruption, process_end, revocation, state_in, thread_at, thread_at_state, thread_end, thread_in_invocation, thread_outside}
use Rattle.spec_kernel.specs.Words.{ActResult, MayEnter, MayTurn, State, Turn, act, door_at, fork, go_on, is_unborn_process, leave, now, process_of, settle, state_at, state_of, with_state}
use Rattle.spec_kernel.proofs.Moves.{IsLeaving, IsTurn, Moves, act_moves}
use Rattle.spec_kernel.proofs.Threads.{thread_at-end_process}
use Rattle.law_states.specs.Invariant.{Invariant}
use Rattle.law_states.proofs.Settling.{is_at_rest}
use Rattle.law_states.proofs.Steps.{running_is}
use Rattle.law_places.specs.Places.{answer_at, process_at}
use Rattle.law_places.proofs.Known.{TurnAt, invariant_before, next, turn_at}
use Rattle.law_runs.specs.Ends.{EndsProcess}
use Rattle.law_runs.specs.Tasks.{BeginsTask, TaskChange, Tasks, WasAsked, is_at_task}
use Rattle.law_runs.proofs.Channels.{KnownChannels, answer_of, entry_acted, entry_answer}
use Rattle.law_runs.proofs.Forking.{fork_state, was_unborn}
use Rattle.law_runs.proofs.OneThread.{Settled, is_stirred, leave_none, leave_state, one_changes, settled, settled_same, state-step, state_where}
use Rattle.law_runs.proofs.Parked.{IsThread, is_thread, state_there}
use Rattle.law_runs.proofs.RowChanges.{ends_moves}

not_interrupted : (s : ThreadState) → is_at_task s ≡ false → is_at_task (interrupted_state s) ≡ false
not_interrupted (is.Getting q max nget one b) e = refl
not_interrupted s e = e

rest_is_none : (s : ThreadState) → is_at_rest s ≡ true → is_at_task s ≡ false
rest_is_none (is.Working op input) f = absurd (cc f)
rest_is_none s f = grind (arith, f)

stirred_is_none : (s : ThreadState) → is_stirred s ≡ true → is_at_task s ≡ false
stirred_is_none (is.Working op input) f = absurd (cc f)
stirred_is_none s f = grind (arith, f)

-- a thread that is at a task ends or stays at it where callers and threads leave
leave_task :
    (m : State) → Invariant m → (t : ℕ) (who : Leaving) (op : Op) (input : List ℕ) → state_of m t ≡ is.Working op input →
    state_of (leave m who) t ≡ (if who.ends t then is.Done else is.Working op input)
leave_task m h t who op input e =
    leave_state m h t who (is.Working op input) e (λ d. cc) (λ c d. cc) ∙ ap (λ s. if who.ends t then is.Done else s) (same (who.interrupts t))
  where
    same : (d : Bool) → state_where d (is.Working op input) ≡ is.Working op input
    same true = refl
    same false = refl

module _ (m : State) (xs : List Turn) (k : KnownChannels m xs) (i : ℕ) (x : Turn) (e : slice_get xs i ≡ Some x) where
  abbrev own : ℕ
  own = process_at m xs i x.thread

  inv : Invariant (state_at m xs i)
  inv = invariant_before m xs k.known i x e

  abbrev Change : ℕ → ThreadState → ThreadState → Type 0
  Change t s r = TaskChange m xs i x t s r

  change_as : (t : ℕ) (a b c d : ThreadState) → a ≡ b → c ≡ d → Change t b d → Change t a c
  change_as t a b c d f g h = subst (λ z. Change t z c) (sym f) (subst (λ z. Change t b z) (sym g) h)

  then_settled : (t : ℕ) (s r z : ThreadState) → Change t s r → Settled r z → Change t s z
  then_settled t s r z c (inl f) = subst (Change t s) (sym f) c
  then_settled t s r z c (inr f) = go c f.0
    where
      go : {a b : ThreadState} → Change t a b → is_at_rest b ≡ true → Change t a z
      go (TaskChange.elsewhere g h) l = TaskChange.elsewhere g (stirred_is_none z f.1)
      go (TaskChange.stays {s = c}) l = TaskChange.elsewhere (rest_is_none c l) (stirred_is_none z f.1)
      go (TaskChange.begins op input g h j) l = absurd (cc l)
      go (TaskChange.ends op input g h) l = absurd (cc l)
      go (TaskChange.with_process op input g) l = absurd (cc l)

  running : (r : Request) → x.request ≡ Some r → state_of (state_at m xs i) x.thread ≡ is.Running
  running r f =
      let may : MayEnter (state_at m xs i) x.thread r = subst (MayTurn (state_at m xs i) x.thread) f (k.known.may i x e) in
      running_is (state_at m xs i) x.thread may.running

  -- a change of the thread whose turn it is
  own_changes :
      (t : ℕ) (change : Thread → Thread) (s : ThreadState) → state_of (state_at m xs i) x.thread ≡ s →
      ((y : Thread) → Change x.thread s (change y).state) →
      Change t (state_of (state_at m xs i) t) (state_in (thread_at (change_thread (state_at m xs i).process_table x.thread change) t))
  own_changes t change s f h =
      one_changes Change (state_at m xs i).process_table x.thread t change (λ u r. TaskChange.stays)
      (λ y g. change_as x.thread _ s _ _ (g ∙ f) refl (h y))

  -- from no task to none
  no_task :
      (t : ℕ) (change : Thread → Thread) (s : ThreadState) → state_of (state_at m xs i) x.thread ≡ s → is_at_task s ≡ false →
      ((y : Thread) → is_at_task (change y).state ≡ false) →
      Change t (state_of (state_at m xs i) t) (state_in (thread_at (change_thread (state_at m xs i).process_table x.thread change) t))
  no_task t change s f p h = own_changes t change s f (λ y. TaskChange.elsewhere p (h y))

  turns :
      (t : ℕ) (q : Option Request) (s : ThreadState) (a : Answer) → IsTurn (state_at m xs i) x.thread q s a → x.request ≡ q →
      answer_at m xs i x ≡ a → Change t (state_of (state_at m xs i) t) (state_of (with_state (state_at m xs i) x.thread s) t)
  turns t q s a (IsTurn.awaits path f) g h = no_task t (thread_at_state (is.Awaiting path)) is.Running (running (request.Await path) g) refl (λ y. refl)
  turns t q s a (IsTurn.starts_work op input) g h =
      own_changes t (thread_at_state (is.Working op input)) is.Running (running (request.Work op input) g)
      (λ y. TaskChange.begins op input refl g h)
  turns t q s a (IsTurn.finds path f) g h = no_task t (thread_at_state is.Running) (is.Awaiting path) f refl (λ y. refl)
  turns t q s a (IsTurn.works op input f) g h =
      own_changes t (thread_at_state is.Running) (is.Working op input) f (λ y. TaskChange.ends op input refl g)
  turns t q s a (IsTurn.wakes f) g h = no_task t (thread_at_state is.Running) is.FailedReturn f refl (λ y. refl)
  turns t q s a (IsTurn.waits_for_one fd wait f r) g h = no_task t (thread_at_state s) is.Running (running (request.Get fd wait) g) refl (λ y. refl)
  turns t q s a (IsTurn.waits_for_many fd max nget wait f z r) g h =
      no_task t (thread_at_state s) is.Running (running (request.GetN fd max nget wait) g) refl (λ y. refl)
  turns t q s a (IsTurn.was_interrupted p max nget one f) g h =
      no_task t (thread_at_state is.Running) (is.Getting p max nget one true) f refl (λ y. refl)
  turns t q s a (IsTurn.lost_port p max nget one f r) g h =
      no_task t (thread_at_state is.Running) (is.Getting p max nget one false) f refl (λ y. refl)

  -- where callers and threads leave
  leaves :
      (t : ℕ) (who : Leaving) →
      ((op : Op) (input : List ℕ) → state_of (state_at m xs i) t ≡ is.Working op input → (b : Bool) → who.ends t ≡ b →
      Change t (is.Working op input) (if b then is.Done else is.Working op input)) →
      Change t (state_of (state_at m xs i) t) (state_of (leave (state_at m xs i) who) t)
  leaves t who h = go (state_of (state_at m xs i) t) refl
    where
      go : (s : ThreadState) → state_of (state_at m xs i) t ≡ s → Change t (state_of (state_at m xs i) t) (state_of (leave (state_at m xs i) who) t)
      go (is.Working op input) f =
          change_as t _ _ _ _ f (leave_task (state_at m xs i) inv t who op input f) (h op input f (who.ends t) refl)
      go s f = TaskChange.elsewhere none (leave_none (state_at m xs i) inv t is_at_task refl (λ since. refl) not_interrupted who none)
        where
          none : is_at_task (state_of (state_at m xs i) t) ≡ false
          none = ap is_at_task f

  none_ends :
      (t : ℕ) (who : Leaving) → who.ends t ≡ false → Change t (state_of (state_at m xs i) t) (state_of (leave (state_at m xs i) who) t)
  none_ends t who f = leaves t who (λ op input s. go op input)
    where
      go : (op : Op) (input : List ℕ) (b : Bool) → who.ends t ≡ b → Change t (is.Working op input) (if b then is.Done else is.Working op input)
      go op input true g = absurd (cc (sym f ∙ g))
      go op input false g = TaskChange.stays

  exits :
      (t : ℕ) → x.request ≡ Some request.Exit → Change t (state_of (state_at m xs i) t) (state_of (leave (state_at m xs i) (thread_end x.thread)) t)
  exits t f = leaves t (thread_end x.thread) go
    where
      go :
          (op : Op) (input : List ℕ) → state_of (state_at m xs i) t ≡ is.Working op input → (b : Bool) → (t == x.thread) ≡ b →
          Change t (is.Working op input) (if b then is.Done else is.Working op input)
      go op input s true g =
          let same : x.thread ≡ t = grind (arith, nat_tests, g) in
          absurd (cc (sym (running request.Exit f) ∙ ap (state_of (state_at m xs i)) same ∙ s))
      go op input s false g = TaskChange.stays

  process_leaves :
      (t p : ℕ) → EndsProcess m xs i x p →
      Change t (state_of (state_at m xs i) t)
      (state_of (leave (state_at m xs i) (process_end (state_at m xs i).process_table (state_at m xs i).doors p)) t)
  process_leaves t p over = leaves t (process_end (state_at m xs i).process_table (state_at m xs i).doors p) (λ op input s. go op input)
    where
      go :
          (op : Op) (input : List ℕ) (b : Bool) → (process_of (state_at m xs i) t == p) ≡ b →
          Change t (is.Working op input) (if b then is.Done else is.Working op input)
      go op input true g =
          let same : p ≡ process_of (state_at m xs i) t = grind (arith, nat_tests, g) in
          TaskChange.with_process op input (subst (EndsProcess m xs i x) same over)
      go op input false g = TaskChange.stays

  forks :
      (t child : ℕ) → is_unborn_process (state_at m xs i) child ≡ true →
      Change t (state_of (state_at m xs i) t) (state_of (fork (state_at m xs i) x.thread own child).state t)
  forks t child f = go (fork_state (state_at m xs i) x.thread own child t inv f)
    where
      go :
          (state_of (fork (state_at m xs i) x.thread own child).state t
          ≡ state_of (leave (state_at m xs i) (forking (state_at m xs i).process_table x.thread)) t)
          ⊎ ((state_of (state_at m xs i) t ≡ is.Dormant) × (state_of (fork (state_at m xs i) x.thread own child).state t ≡ is.Running)) →
          Change t (state_of (state_at m xs i) t) (state_of (fork (state_at m xs i) x.thread own child).state t)
      go (inl g) = change_as t _ _ _ _ refl g (none_ends t (forking (state_at m xs i).process_table x.thread) refl)
      go (inr g) = change_as t _ is.Dormant _ is.Running g.0 g.1 (TaskChange.elsewhere refl refl)

  moves :
      (t : ℕ) (q : Option Request) (a : ActResult) → Moves (state_at m xs i) x.thread q a → x.request ≡ q → answer_at m xs i x ≡ a.answer →
      Change t (state_of (state_at m xs i) t) (state_of a.state t)
  moves t q a (Moves.turns s y w z) g h = turns t q s y z g h
  moves t q a (Moves.calls fd bytes pass rsize f) g h = no_task t (thread_at_state (is.Calling _)) is.Running (running _ g) refl (λ y. refl)
  moves t q a (Moves.returns bytes pass f v) g h = no_task t (idle_thread (now (state_at m xs i))) is.Running (running _ g) refl (λ y. refl)
  moves t q a (Moves.returns_unbound bytes pass f v) g h =
      one_changes Change (state_at m xs i).process_table x.thread t thread_outside (λ u r. TaskChange.stays) (λ y l. TaskChange.stays)
  moves t q a (Moves.enters r f room) g h = no_task t (thread_in_invocation (item.Call r.number)) _ f.given refl (λ y. refl)
  moves t q a (Moves.fails r f room) g h = no_task t (idle_thread (now (state_at m xs i))) _ f.given refl (λ y. refl)
  moves t q a (Moves.enters_notice n f) g h = no_task t (thread_in_invocation (item.Notice n.number)) _ f.given refl (λ y. refl)
  moves t q a (Moves.collects c f) g h = no_task t (thread_at_state is.Running) (is.Calling c) f refl (λ y. refl)
  moves t q a (Moves.retrieves p max nget one z) g h =
      no_task t (thread_at_state is.Running) (is.Getting p max nget one false) z.waits refl (λ y. refl)
  moves t q a (Moves.leaves r who (IsLeaving.interrupts u)) g h = none_ends t (interruption u.0) refl
  moves t q a (Moves.leaves r who (IsLeaving.exits l)) g h = exits t g
  moves t q a (Moves.revokes fd f) g h = none_ends t (revocation (door_at (state_at m xs i) own fd)) refl
  moves t q a (Moves.ends r p f) g h =
      change_as t _ _ _ _ refl
      (ap state_in
      (thread_at-end_process
      (leave (state_at m xs i) (process_end (state_at m xs i).process_table (state_at m xs i).doors p)).process_table p t))
      (process_leaves t p (ends_moves m xs k.known i x e r p g f))
  moves t q a (Moves.forks child f) g h = forks t child.0 (was_unborn (state_at m xs i) child.0 f)
  moves t q a _ g h = TaskChange.stays

  state_after : (t : ℕ) → state_of (state_at m xs (i + 1)) t ≡ state_of (settle (state_at m xs i) (act (state_at m xs i) x.thread x.request).state) t
  state_after t = ap (λ n. state_of n t) (next m xs k.known i x e) ∙ state-step (state_at m xs i) x.thread t x.request

  each : (t : ℕ) → Change t (state_of (state_at m xs i) t) (state_of (state_at m xs (i + 1)) t)
  each t =
      change_as t _ _ _ _ refl (state_after t)
      (then_settled t _ _ _
      (moves t x.request (act (state_at m xs i) x.thread x.request) (act_moves (state_at m xs i) x.thread x.request) refl (answer_of m xs k.known i x e))
      (settled (state_at m xs i) (act (state_at m xs i) x.thread x.request).state t))

  -- a thread that its own act leaves in a state other than rest is in it after the event
  own_after :
      (s r : ThreadState) → state_of (state_at m xs i) x.thread ≡ s → (s ≡ is.Done → ⊥) → is_at_rest r ≡ false →
      (act (state_at m xs i) x.thread x.request).state ≡ with_state (state_at m xs i) x.thread r →
      state_of (state_at m xs (i + 1)) x.thread ≡ r
  own_after s r f there rest g =
      state_after x.thread
      ∙ settled_same (state_at m xs i) (act (state_at m xs i) x.thread x.request).state x.thread r
      (ap (λ n. state_of n x.thread) g
      ∙ state_there (state_at m xs i).process_table x.thread x.thread (thread_at_state r) here.thread itself here.there)
      rest
    where
      here : IsThread (state_at m xs i) x.thread
      here = is_thread (state_at m xs i) x.thread (λ d. there (sym f ∙ d))

      itself : (x.thread == x.thread) ≡ true
      itself = grind (arith, nat_tests)

  begun : (op : Op) (input : List ℕ) → x.request ≡ Some (request.Work op input) → BeginsTask m xs i x op input
  begun op input f =
      record {
        waits = entry_answer m xs k.known i x e (request.Work op input) f refl;
        is_at_it =
            own_after is.Running (is.Working op input) (running (request.Work op input) f) (λ d. cc) refl
            (entry_acted m xs k.known i x e (request.Work op input) f refl);
      }

  ended :
      (op : Op) (input : List ℕ) → state_of (state_at m xs i) x.thread ≡ is.Working op input →
      (x.request ≡ None) × (state_of (state_at m xs (i + 1)) x.thread ≡ is.Running)
  ended op input s = go x.request refl
    where
      go : (q : Option Request) → x.request ≡ q → (x.request ≡ None) × (state_of (state_at m xs (i + 1)) x.thread ≡ is.Running)
      go (Some r) f = absurd (cc (sym (running r f) ∙ s))
      go None f = (
        f,
        own_after (is.Working op input) is.Running s (λ d. cc) refl
            (ap (λ q. (act (state_at m xs i) x.thread q).state) f ∙ ap (λ r. (go_on (state_at m xs i) x.thread own r).state) s),
      )

-- a thread that is at a task asked for it

module _ (m : State) (xs : List Turn) (k : KnownChannels m xs) (t : ℕ) (op : Op) (input : List ℕ) where
  abbrev Is : ℕ → Type 0
  Is i = state_of (state_at m xs i) t ≡ is.Working op input

  abbrev Was : ℕ → Type 0
  Was i = WasAsked m xs i t op input

  longer : (i : ℕ) → Is (suc i) → Was i → Was (suc i)
  longer i s w =
      record {
        at = w.at;
        turn = w.turn;
        earlier = omega (arith, w.earlier);
        found = w.found;
        its_own = w.its_own;
        work = w.work;
        since = λ j l h. go j l (split j l h);
      }
    where
      split : (j : ℕ) → w.at < j → j ≤ suc i → (j ≤ i) ⊎ (suc i ≡ j)
      split j l h = grind arith

      go : (j : ℕ) → w.at < j → (j ≤ i) ⊎ (suc i ≡ j) → Is j
      go j l (inl h) = w.since j l h
      go j l (inr h) = subst Is h s

  first : (i : ℕ) (x : Turn) → slice_get xs i ≡ Some x → x.thread ≡ t → x.request ≡ Some (request.Work op input) → Is (suc i) → Was (suc i)
  first i x e own f after =
      record {
        at = i;
        turn = x;
        earlier = omega arith;
        found = e;
        its_own = own;
        work = f;
        since = λ j l h. let same : suc i ≡ j = omega (arith, l, h) in subst Is same after;
      }

  asked : (i : ℕ) → i ≤ length xs → Is i → Was i
  asked zero l s = absurd (cc (sym (k.none_works t) ∙ ap is_at_task s))
  asked (suc i) l s = go (turn_at xs i (omega (arith, l))) (asked i (omega (arith, l)))
    where
      same_work : (o : Op) (a : List ℕ) → is.Working o a ≡ is.Working op input → request.Work o a ≡ request.Work op input
      same_work o a g = cc g

      by :
          (x : Turn) → slice_get xs i ≡ Some x → (Is i → Was i) → {a b : ThreadState} → TaskChange m xs i x t a b →
          state_of (state_at m xs i) t ≡ a → b ≡ is.Working op input → Was (suc i)
      by x e ih (TaskChange.elsewhere g h) f r = absurd (cc (sym h ∙ ap is_at_task r))
      by x e ih TaskChange.stays f r = longer i s (ih (f ∙ r))
      by x e ih (TaskChange.begins o a own g h) f r = first i x e own (g ∙ ap (λ z. Some z) (same_work o a r)) s
      by x e ih (TaskChange.ends o a own g) f r = absurd (cc r)
      by x e ih (TaskChange.with_process o a g) f r = absurd (cc r)

      go : TurnAt xs i → (Is i → Was i) → Was (suc i)
      go y ih = by y.turn y.found ih (each m xs k i y.turn y.found t) refl (ap (λ n. state_of (state_at m xs n) t) (add-one i) ∙ s)

pub tasks_hold : (m : State) (xs : List Turn) → KnownChannels m xs → Tasks m xs
tasks_hold m xs k =
    record {
      each = λ i t x e. each m xs k i x e t;
      begun = λ i x op input e. begun m xs k i x e op input;
      ended = λ i x op input e. ended m xs k i x e op input;
      asked = λ i t op input. asked m xs k t op input i;
    }
