-- What a thread is bound to before and after an event.
use Rattle.std.specs.Prelude.{ℕ, ◌≡◌, ◌+◌, ◌≤◌, ◌==◌, ◌⊎◌, ◌&&◌, List, Option, Bool, true, false, if◌then◌else◌, Some, None, is_some, length, slice_get}
use Rattle.std.proofs.Common.{refl, sym, ap, subst, true≢false, ◌∙◌, inl, inr}
use native.Mathlib.Omega.{arith}
use Rattle.std.proofs.lemmas.Bool.Decides.{nat_tests}
use Rattle.std.proofs.lemmas.Option.{slice_get_within}
use Rattle.spec_kernel.specs.Types.{Door, Fd, Pid, Process, Request, Thread}
use Rattle.dk_base.specs.declared.object.Obj.TheVariants as obj
use Rattle.dk_base.specs.declared.request.Request.TheVariants as request
use Rattle.dk_base.specs.declared.answer.Answer.TheVariants as answer
use Rattle.dk_base.specs.ByNumber.{at_number, with_at_number}
use Rattle.spec_records.specs.declared.record.ThreadState.TheVariants as is
use Rattle.spec_records.specs.declared.pool.TheConstants.{LOST_DOOR}
use Rattle.spec_records.specs.Words.{bind_lost, bind_thread, bound_at, bound_in, bind_tests, first_place, first_refusal, is_first_of, is_live_in, is_spare_in, is_unborn_in, is_valid_in, process_in, unbind_thread}
use Rattle.spec_records.proofs.Lists.{at_number-with_at_number, numbered_there, numbered_within}
use Rattle.spec_kernel.specs.Words.{ActResult, MayEnter, MayTurn, State, Turn, act, bind_first, bound_of, door_at, effect, fail_returns, fork, has_lost_door, make_notices, is_unborn_process, is_valid, object_at, process_of, settle, state_at, state_of, step, thread_of, unless_refused, with_event_counted}
use Rattle.spec_kernel.proofs.Moves.{IsBinding, IsFree, Moves, act_moves}
use Rattle.spec_kernel.proofs.Failing.{bound_of-not_failed}
use Rattle.spec_kernel.proofs.Steps.{process_of-step}
use Rattle.spec_kernel.proofs.Settling.{doors-settle, give_and_start-all, has_lost_door-make_notices, make_notices-alone}
use Rattle.law_states.proofs.Steps.{running_is}
use Rattle.law_places.specs.Places.{IsBoundToInvalid, answer_at, process_at}
use Rattle.law_runs.specs.Bindings.{BindingChange, Bindings, IsBound, IsFirstThread}
use Rattle.law_runs.specs.Rows.{Forks}
use Rattle.law_places.proofs.Bound.{invalid_decides}
use Rattle.law_places.proofs.Known.{Known, invariant_before, next, stays}
use Rattle.law_places.proofs.ReturnRefusals.{no_return_refusal}
use Rattle.law_runs.proofs.Begins.{begins_hold, spare_at}
use Rattle.law_runs.proofs.Forking.{IsFirst, first_found, first_process, first_there, fork_is_free, fork_runs, was_unborn}
use Rattle.law_runs.proofs.InvalidDoors.{names_it}
use Rattle.law_runs.proofs.Parked.{HasFailed, IsThread, bound_here, fails_then, given_bound, is_thread, loses_door, loses_idle}
use Rattle.law_runs.proofs.RowChanges.{answers}
use Rattle.law_runs.proofs.Tables.{not_refused}

-- what settling makes of the binding of thread u, from the state that the act left: it stays, or the thread was idle, and fails

data Keeps (s n : State) (u : ℕ) : Type 0 where
  same : bound_of n u ≡ bound_of s u → Keeps s n u
  lost :
      (d since : ℕ) → state_of s u ≡ is.Idle since → bound_of s u ≡ Some d → is_valid n d ≡ false → state_of n u ≡ is.FailedReturn →
      bound_of n u ≡ None → Keeps s n u

settles : (before s : State) (u : ℕ) → Keeps s (with_event_counted (settle before s)) u
settles before s u = go (has_lost_door s u) refl
  where
    fails : (since : ℕ) × (state_of s u ≡ is.Idle since) → IsBoundToInvalid s u → HasFailed (settle before s) u → Keeps s (with_event_counted (settle before s)) u
    fails idle v h =
        lost v.door idle.0 idle.1 v.bound (ap (λ ds. is_valid_in (at_number ds v.door)) (doors-settle before s) ∙ v.not_valid) h.state h.bound

    go : (b : Bool) → has_lost_door s u ≡ b → Keeps s (with_event_counted (settle before s)) u
    go true e =
        let idle = loses_idle s u e in
        fails idle ((invalid_decides s u).0 (loses_door s u e)) (fails_then before s u idle.0 (loses_door s u e) idle.1)
    go false e =
        same
        (give_and_start-all (λ n. bound_of n u ≡ bound_of s u) (λ n w y p h. given_bound n w.item y.thread.0 u ∙ h) (λ n t d h. h) before
        (fail_returns (make_notices before s))
        (bound_of-not_failed (make_notices before s) u (has_lost_door-make_notices before s u ∙ e)
        ∙ ap (λ n. bound_of n u) (make_notices-alone before s)))

keeps-step : (m : State) (t : ℕ) (q : Option Request) (u : ℕ) → Keeps (act m t q).state (step m t q).state u
unfolding step
keeps-step m t q u = settles m (act m t q).state u

bound-with :
    (bindings : List (Option ℕ)) (t u : ℕ) (o : Option ℕ) →
    bound_at (with_at_number bindings t o) u ≡ bound_in (if (u == t) && is_some (at_number bindings t) then Some o else at_number bindings u)
bound-with bindings t u o = ap bound_in (at_number-with_at_number bindings t u o)

bound_valid : (p : ℕ) (o : Option Door) → first_refusal (bind_tests p o) ≡ None → is_valid_in o ≡ true
bound_valid p o f = grind arith

module _ (m : State) (xs : List Turn) (k : Known m xs) (i : ℕ) (x : Turn) (e : slice_get xs i ≡ Some x) where
  abbrev was : State
  was = state_at m xs i

  abbrev own : ℕ
  own = process_at m xs i x.thread

  named :
      (fd : Fd) → IsFree was x.thread (request.Bind fd) →
      object_at was own fd ≡ Some (obj.Door (door_at was own fd))
  named fd f = names_it was own _ fd refl (bound_valid own _ f)

  -- the first thread of a child

  spare_now : (t : ℕ) → is_spare_in (thread_of was t) ≡ is_spare_in (thread_of m t)
  spare_now t = spare_at m xs k i t (omega (arith, slice_get_within xs i x e))

  is_first : (p : ℕ) (y : Thread) → y.process.0 ≡ p → y.spare ≡ false → is_first_of p y ≡ true
  is_first p y f g = grind (arith, nat_tests, f, g)

  first_no_spare : (p : ℕ) (y : Thread) → is_first_of p y ≡ true → y.spare ≡ false
  first_no_spare p y f = grind (arith, nat_tests, f)

  -- a thread of it is there
  of_child : (child : Pid) → Forks m xs i x child → (t : ℕ) → process_of was t ≡ child.0 → IsThread was t
  of_child child f t own =
      is_thread was t
      (λ d. absurd
      (cc
      (sym
      ((invariant_before m xs k i x e).consistent.coherent.processes.unborn_dormant t
      (ap (is_unborn_process was) own ∙ was_unborn was child.0 (fork_is_free m xs i x child f)))
      ∙ d)))

  first_of :
      (child : Pid) → Forks m xs i x child → (t : ℕ) → process_of was t ≡ child.0 → is_spare_in (thread_of m t) ≡ false → (y : Thread) →
      thread_of was t ≡ Some y → is_first_of child.0 y ≡ true
  first_of child f t own spare y there =
      is_first child.0 y (sym (ap process_in there) ∙ own) (sym (ap is_spare_in there) ∙ spare_now t ∙ spare)

  first_thread : (child : Pid) → Forks m xs i x child → (t : ℕ) → IsFirst was.process_table child.0 t → IsFirstThread m xs i child.0 t
  first_thread child f t one =
      record {
        process = first_process was.process_table child.0 t one;
        no_spare = sym (spare_now t) ∙ ap is_spare_in one.there ∙ first_no_spare child.0 one.thread one.first;
        least = λ v own spare. least v own spare (of_child child f v own);
      }
    where
      least : (v : ℕ) → process_of was v ≡ child.0 → is_spare_in (thread_of m v) ≡ false → IsThread was v → t ≤ v
      least v own spare y = one.least v y.thread y.there (first_of child f v own spare y.thread y.there)

  module _ (u : ℕ) where
    -- the act of a thread that is not idle after it, or is bound to none
    record Changed (s : State) : Type 0 where
      change : BindingChange m xs i x u (bound_of was u) (bound_of s u)
      not_lost : (d since : ℕ) → bound_of s u ≡ Some d → state_of s u ≡ is.Idle since → ⊥

    changes :
        (s : State) (v : ℕ) (o : Option ℕ) → s.bindings ≡ with_at_number was.bindings v o →
        (v ≡ u → bound_of s u ≡ o → Changed s) → (bound_of s u ≡ bound_of was u) ⊎ Changed s
    changes s v o f h = go ((u == v) && is_some (at_number was.bindings v)) refl
      where
        by :
            (b : Bool) → ((u == v) && is_some (at_number was.bindings v)) ≡ b →
            bound_of s u ≡ bound_in (if b then Some o else at_number was.bindings u)
        by b g =
            ap (λ bs. bound_at bs u) f
            ∙ bound-with was.bindings v u o
            ∙ ap (λ (c : Bool). bound_in (if c then Some o else at_number was.bindings u)) g

        go :
            (b : Bool) → ((u == v) && is_some (at_number was.bindings v)) ≡ b →
            (bound_of s u ≡ bound_of was u) ⊎ Changed s
        go false g = inl (by false g)
        go true g = inr (h (grind (arith, nat_tests)) (by true g))

    -- a thread that is bound to none after it
    unbinds :
        (s : State) → bound_of s u ≡ None → ((d : ℕ) → bound_of was u ≡ Some d → BindingChange m xs i x u (Some d) None) → Changed s
    unbinds s f h =
        record {
          change = subst (λ o. BindingChange m xs i x u (bound_of was u) o) (sym f) (go (bound_of was u) refl);
          not_lost = λ d since g y. absurd (cc (sym f ∙ g));
        }
      where
        go : (o : Option ℕ) → bound_of was u ≡ o → BindingChange m xs i x u o None
        go None g = BindingChange.stays
        go (Some d) g = h d g

    -- the first thread of a child that begins
    fork_binds :
        (child : Pid) → Forks m xs i x child →
        (bound_of (fork was x.thread own child.0).state u ≡ bound_of was u) ⊎ Changed (fork was x.thread own child.0).state
    fork_binds child f = by (is_some (bound_of was x.thread)) refl
      where
        after : State
        after = (fork was x.thread own child.0).state

        lost :
            (place : ℕ) → first_place was.process_table child.0 ≡ Some place → is_some (bound_of was x.thread) ≡ true → place + 1 ≡ u →
            bound_of after u ≡ Some LOST_DOOR → Changed after
        lost place g b its there =
            let one : IsFirst was.process_table child.0 u =
            subst (IsFirst was.process_table child.0) its (first_there was.process_table child.0 place g) in
            record {
              change =
                  subst (λ o. BindingChange m xs i x u (bound_of was u) o) (sym there)
                  (BindingChange.forks _ child f b (first_thread child f u one));
              not_lost = λ d since c y. absurd (cc (sym (fork_runs was x.thread own child.0 u one.thread one.there one.first) ∙ y));
            }

        at_first :
            is_some (bound_of was x.thread) ≡ true → (o : Option ℕ) → first_place was.process_table child.0 ≡ o →
            after.bindings ≡ bind_first was.bindings o → (bound_of after u ≡ bound_of was u) ⊎ Changed after
        at_first b None g h = inl (ap (λ bs. bound_at bs u) h)
        at_first b (Some place) g h = changes after (place + 1) (Some LOST_DOOR) h (lost place g b)

        by : (b : Bool) → is_some (bound_of was x.thread) ≡ b → (bound_of after u ≡ bound_of was u) ⊎ Changed after
        by false b =
            inl
            (ap (λ (c : Bool). bound_at (if c then bind_first was.bindings (first_place was.process_table child.0) else was.bindings) u) b)
        by true b =
            at_first b (first_place was.process_table child.0) refl
            (ap (λ (c : Bool). if c then bind_first was.bindings (first_place was.process_table child.0) else was.bindings) b)

    move_binds :
        (q : Option Request) (a : ActResult) → Moves was x.thread q a → x.request ≡ q → answer_at m xs i x ≡ a.answer →
        MayTurn was x.thread q → (bound_of a.state u ≡ bound_of was u) ⊎ Changed a.state
    move_binds q a (Moves.bound r o (IsBinding.binds fd f)) g h may =
        changes a.state x.thread o refl
        (λ its there. record {
          change =
              subst (λ p. BindingChange m xs i x u (bound_of was u) p) (sym there)
              (BindingChange.binds _ _ its (record { fd = fd; asked = g; named = named fd f }) h);
          not_lost = λ d since b y. absurd (cc (sym (running_is was x.thread may.running) ∙ ap (state_of was) its ∙ y));
        })
    move_binds q a (Moves.bound r o (IsBinding.unbinds f)) g h may =
        changes a.state x.thread o refl (λ its there. unbinds a.state there (λ d b. BindingChange.unbinds d its g h))
    move_binds q a (Moves.returns_unbound bytes pass f v) g h may =
        changes a.state x.thread None refl
        (λ its there. unbinds a.state there
        (λ d b. BindingChange.returns d bytes pass its
        (record { asked = g; not_refused = no_return_refusal was (invariant_before m xs k i x e) x.thread own bytes pass f })
        (invalid ((invalid_decides was x.thread).0 v) d (ap (bound_of was) its ∙ b))))
      where
        invalid : IsBoundToInvalid was x.thread → (d : ℕ) → bound_of was x.thread ≡ Some d → is_valid was d ≡ false
        invalid w d b = let same : w.door ≡ d = cc (sym w.bound ∙ b) in subst (λ c. is_valid was c ≡ false) same w.not_valid
    move_binds q a (Moves.forks child f) g h may = fork_binds child (record { asked = g; answered = h })
    move_binds q a _ g h may = inl refl

    each : BindingChange m xs i x u (bound_of was u) (bound_of (state_at m xs (i + 1)) u)
    each =
        go (subst (λ o. Keeps s o u) (sym (next m xs k i x e)) (keeps-step was x.thread x.request u))
        (move_binds x.request _ (act_moves was x.thread x.request) refl (answers was x.thread x.request) (k.may i x e))
      where
        s : State
        s = (act was x.thread x.request).state

        go :
            Keeps s (state_at m xs (i + 1)) u → (bound_of s u ≡ bound_of was u) ⊎ Changed s →
            BindingChange m xs i x u (bound_of was u) (bound_of (state_at m xs (i + 1)) u)
        go (same f) (inl h) = subst (λ o. BindingChange m xs i x u (bound_of was u) o) (sym (f ∙ h)) BindingChange.stays
        go (same f) (inr c) = subst (λ o. BindingChange m xs i x u (bound_of was u) o) (sym f) c.change
        go (lost d since f g v y z) (inl h) =
            subst (λ o. BindingChange m xs i x u o (bound_of (state_at m xs (i + 1)) u)) (sym g ∙ h)
            (subst (λ o. BindingChange m xs i x u (Some d) o) (sym z) (BindingChange.fails d y v))
        go (lost d since f g v y z) (inr c) = absurd (c.not_lost d since g f)

  -- a request that is done

  free : (r : Request) → x.request ≡ Some r → answer_at m xs i x ≡ answer.Done → IsFree was x.thread r
  free r f g = not_refused was x.thread x.request r answer.Done f g (λ y h. cc)

  settled :
      (r : Request) (u : ℕ) → x.request ≡ Some r → IsFree was x.thread r →
      Keeps (effect was x.thread own r).state (state_at m xs (i + 1)) u
  settled r u f g =
      subst (λ o. Keeps (effect was x.thread own r).state o u) (sym (next m xs k i x e))
      (subst (λ s. Keeps s (step was x.thread x.request).state u)
      (ap (λ q. (act was x.thread q).state) f
      ∙ ap (λ o. (unless_refused was o (effect was x.thread own r)).state) g)
      (keeps-step was x.thread x.request u))

  running : (r : Request) → x.request ≡ Some r → state_of was x.thread ≡ is.Running
  running r f = go (subst (MayTurn was x.thread) f (k.may i x e))
    where
      go : MayEnter was x.thread r → state_of was x.thread ≡ is.Running
      go may = running_is was x.thread may.running

  place_of : (t : ℕ) → IsThread was t → is_some (at_number was.bindings t) ≡ true
  place_of t y =
      let within = numbered_within was.process_table.threads t y.thread y.there in
      numbered_there was.bindings t within.0 (omega (arith, within.1, (invariant_before m xs k i x e).consistent.places))

  has_place : state_of was x.thread ≡ is.Running → is_some (at_number was.bindings x.thread) ≡ true
  has_place f = place_of x.thread (is_thread was x.thread (λ d. absurd (cc (sym f ∙ d))))

  bound_itself : (t d : ℕ) → is_some (at_number was.bindings t) ≡ true → bound_at (bind_thread was.bindings t d) t ≡ Some d
  bound_itself t d f =
      let place : ((t == t) && is_some (at_number was.bindings t)) ≡ true = grind (arith, nat_tests, f) in
      bound-with was.bindings t t (Some d)
      ∙ ap (λ (b : Bool). bound_in (if b then Some (Some d) else at_number was.bindings t)) place

  bound : (fd : Fd) → x.request ≡ Some (request.Bind fd) → answer_at m xs i x ≡ answer.Done → IsBound m xs i x
  bound fd f g =
      record { door = d; binds = record { fd = fd; asked = f; named = named fd done }; bound = go (settled (request.Bind fd) x.thread f done) }
    where
      done : IsFree was x.thread (request.Bind fd)
      done = free (request.Bind fd) f g

      d : ℕ
      d = door_at was own fd

      here : bound_at (bind_thread was.bindings x.thread d) x.thread ≡ Some d
      here = bound_itself x.thread d (has_place (running (request.Bind fd) f))

      go :
          Keeps (effect was x.thread own (request.Bind fd)).state (state_at m xs (i + 1)) x.thread →
          bound_of (state_at m xs (i + 1)) x.thread ≡ Some d
      go (same b) = b ∙ here
      go (lost c since b y v w z) = absurd (cc (sym (running (request.Bind fd) f) ∙ b))

  unbound : x.request ≡ Some request.Unbind → answer_at m xs i x ≡ answer.Done → bound_of (state_at m xs (i + 1)) x.thread ≡ None
  unbound f g = go (settled request.Unbind x.thread f (free request.Unbind f g))
    where
      here : bound_at (unbind_thread was.bindings x.thread) x.thread ≡ None
      here = bound_here was.bindings x.thread x.thread (grind (arith, nat_tests))

      go :
          Keeps (effect was x.thread own request.Unbind).state (state_at m xs (i + 1)) x.thread →
          bound_of (state_at m xs (i + 1)) x.thread ≡ None
      go (same b) = b ∙ here
      go (lost d since b y v w z) = z

  -- a Fork

  forked :
      (t : ℕ) (child : Pid) → Forks m xs i x child → is_some (bound_of was x.thread) ≡ true → IsFirstThread m xs i child.0 t →
      bound_of (state_at m xs (i + 1)) t ≡ Some LOST_DOOR
  forked t child f b one = by_place (first_found was.process_table child.0 t there.thread there.there first)
    where
      done : IsFree was x.thread (request.Fork child)
      done = fork_is_free m xs i x child f

      there : IsThread was t
      there = of_child child f t one.process

      first : is_first_of child.0 there.thread ≡ true
      first = first_of child f t one.process one.no_spare there.thread there.there

      -- the place that is found is its own
      its_place : (place : ℕ) → IsFirst was.process_table child.0 (place + 1) → place + 1 ≡ t
      its_place place found =
          let its : IsFirstThread m xs i child.0 (place + 1) = first_thread child f (place + 1) found in
          omega (arith, found.least t there.thread there.there first, one.least (place + 1) its.process its.no_spare)

      bindings :
          (place : ℕ) → first_place was.process_table child.0 ≡ Some place → place + 1 ≡ t →
          (effect was x.thread own (request.Fork child)).state.bindings ≡ bind_lost was.bindings t
      bindings place g its =
          ap (λ (c : Bool). if c then bind_first was.bindings (first_place was.process_table child.0) else was.bindings) b
          ∙ ap (bind_first was.bindings) g ∙ ap (bind_lost was.bindings) its

      go :
          bound_of (effect was x.thread own (request.Fork child)).state t ≡ Some LOST_DOOR →
          Keeps (effect was x.thread own (request.Fork child)).state (state_at m xs (i + 1)) t →
          bound_of (state_at m xs (i + 1)) t ≡ Some LOST_DOOR
      go here (same c) = c ∙ here
      go here (lost d since y c v w z) =
          absurd (cc (sym (fork_runs was x.thread own child.0 t there.thread there.there first) ∙ y))

      by_place : (place : ℕ) × (first_place was.process_table child.0 ≡ Some place) → bound_of (state_at m xs (i + 1)) t ≡ Some LOST_DOOR
      by_place found =
          let its : found.0 + 1 ≡ t = its_place found.0 (first_there was.process_table child.0 found.0 found.1) in
          go (ap (λ bs. bound_at bs t) (bindings found.0 found.1 its) ∙ bound_itself t LOST_DOOR (place_of t there))
          (settled (request.Fork child) t f.asked done)

  forked_by_unbound :
      (t : ℕ) (child : Pid) → Forks m xs i x child → bound_of was x.thread ≡ None →
      (bound_of (state_at m xs (i + 1)) t ≡ bound_of was t) ⊎ (state_of (state_at m xs (i + 1)) t ≡ is.FailedReturn)
  forked_by_unbound t child f b = go (each t)
    where
      go :
          {o p : Option ℕ} → BindingChange m xs i x t o p → (p ≡ o) ⊎ (state_of (state_at m xs (i + 1)) t ≡ is.FailedReturn)
      go BindingChange.stays = inl refl
      go (BindingChange.binds o d its g h) = absurd (cc (sym h ∙ f.answered))
      go (BindingChange.forks o c g h one) = absurd (true≢false (sym h ∙ ap is_some b))
      go (BindingChange.unbinds d its g h) = absurd (cc (sym h ∙ f.answered))
      go (BindingChange.returns d bytes pass its g v) = absurd (cc (sym g.asked ∙ f.asked))
      go (BindingChange.fails d g v) = inr g

-- a thread of a process that has not begun makes no request, and begins to run as its process begins

module _ (m : State) (xs : List Turn) (k : Known m xs) where
  stays_unbound :
      (i t : ℕ) (x : Turn) → slice_get xs i ≡ Some x → is_unborn_process (state_at m xs i) (process_at m xs i t) ≡ true →
      is_unborn_process (state_at m xs (i + 1)) (process_at m xs i t) ≡ true → bound_of (state_at m xs i) t ≡ None →
      bound_of (state_at m xs (i + 1)) t ≡ None
  stays_unbound i t x e before after bound_to_none = go (each m xs k i x e t) bound_to_none
    where
      asleep : state_of (state_at m xs i) t ≡ is.Dormant
      asleep = (invariant_before m xs k i x e).consistent.coherent.processes.unborn_dormant t before

      live_begun : (o : Option Process) → is_live_in o ≡ true → is_unborn_in o ≡ true → ⊥
      live_begun o f g = absurd (grind arith)

      go : {o p : Option ℕ} → BindingChange m xs i x t o p → o ≡ None → p ≡ None
      go BindingChange.stays g = g
      go (BindingChange.binds o d its f h) g =
          absurd (cc (sym (running m xs k i x e (request.Bind f.fd) f.asked) ∙ ap (state_of (state_at m xs i)) its ∙ asleep))
      go (BindingChange.forks o child f h one) g =
          absurd
          (live_begun _ ((begins_hold m xs k).by_each i x child e f)
          (ap (is_unborn_process (state_at m xs (i + 1))) (sym one.process) ∙ after))
      go (BindingChange.unbinds d its f h) g = refl
      go (BindingChange.returns d bytes pass its f v) g = refl
      go (BindingChange.fails d f v) g = refl

  unborn :
      (i t : ℕ) → i ≤ length xs → is_unborn_process (state_at m xs i) (process_at m xs i t) ≡ true → bound_of (state_at m xs i) t ≡ None
  unborn i t l =
      stays m xs (λ n. is_unborn_process n (process_of n t) ≡ true → bound_of n t ≡ None) 0 one i (omega arith) l (λ h. k.no_binding t)
    where
      one :
          (a : ℕ) (x : Turn) → 0 ≤ a → slice_get xs a ≡ Some x →
          (is_unborn_process (state_at m xs a) (process_at m xs a t) ≡ true → bound_of (state_at m xs a) t ≡ None) →
          is_unborn_process (state_at m xs (a + 1)) (process_at m xs (a + 1) t) ≡ true → bound_of (state_at m xs (a + 1)) t ≡ None
      one a x b e h after = go (is_unborn_process (state_at m xs a) (process_at m xs a t)) refl
        where
          own : process_at m xs (a + 1) t ≡ process_at m xs a t
          own = ap (λ n. process_of n t) (next m xs k a x e) ∙ process_of-step (state_at m xs a) x.thread t x.request

          still : is_unborn_process (state_at m xs (a + 1)) (process_at m xs a t) ≡ true
          still = ap (is_unborn_process (state_at m xs (a + 1))) (sym own) ∙ after

          go : (c : Bool) → is_unborn_process (state_at m xs a) (process_at m xs a t) ≡ c → bound_of (state_at m xs (a + 1)) t ≡ None
          go true f = stays_unbound a t x e f still (h f)
          go false f =
              absurd
              (true≢false
              (sym still
              ∙ (begins_hold m xs k).once a (a + 1) (process_at m xs a t) (omega arith) (omega (arith, slice_get_within xs a x e)) f))

pub bindings_hold : (m : State) (xs : List Turn) → Known m xs → Bindings m xs
bindings_hold m xs k =
    record {
      none_at_first = k.no_binding;
      each = λ i t x e. each m xs k i x e t;
      unborn = unborn m xs k;
      bound = λ i x fd e. bound m xs k i x e fd;
      unbound = λ i x e. unbound m xs k i x e;
      forked = λ i t x child e. forked m xs k i x e t child;
      forked_by_unbound = λ i t x child e. forked_by_unbound m xs k i x e t child;
    }
