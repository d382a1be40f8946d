-- A fork: callers of the process leave their calls, and then a child process begins, whose threads run that are no spares. What holds of
-- a core is kept by the beginning of a process that has not begun, since all its threads are Dormant and it has made no door.
use Rattle.std.specs.Prelude.{ℕ, ◌≡◌, ◌⊎◌, ◌+◌, ◌≤◌, ◌==◌, ◌&&◌, not, List, Option, Bool, true, false, if◌then◌else◌, Some, None, is_some, length, map, option_map, suc}
use Rattle.std.proofs.Common.{refl, sym, ap, subst, true≢false, ◌∙◌, inl, inr, ⊎_elim}
use native.Mathlib.Omega.{arith}
use Rattle.std.proofs.lemmas.Bool.Decides.{nat_tests}
use Rattle.std.proofs.lemmas.List.Quantifiers.{position-Some}
use Rattle.std.proofs.lemmas.Option.{slice_get-get_or}
use Rattle.dk_base.specs.ByNumber.{at_number}
use Rattle.dk_base.specs.declared.answer.Answer.TheVariants as answer
use Rattle.dk_base.specs.declared.request.Request.TheVariants as request
use Rattle.spec_kernel.specs.Types.{Answer, Fd, Inv, Obj, Pid, Process, Request, Thread, ThreadState}
use Rattle.spec_records.specs.declared.pool.TheConstants.{LOST_DOOR}
use Rattle.spec_records.specs.declared.record.ThreadState.TheVariants as is
use Rattle.spec_records.specs.Words.{Leaving, ProcessTable, begun_thread, bound_at, first_place, first_refusal, forking, invocation_in, is_dormant, is_fellow_caller, is_first_of, is_live_in, is_unborn_in, live_process, new_thread, pid, process_in, state_in, thread_at, thread_at_state}
use Rattle.spec_records.proofs.Lists.{at_number-map, at_number-suc, at_number-with_at_number, length-with_at_number, same_length}
use Rattle.spec_kernel.specs.Leaving.{bind_first, bindings_after_fork}
use Rattle.spec_kernel.specs.Words.{State, bound_of, fork, forking_tests, invocation_of, is_live_process, is_unborn_process, leave, now, object_at, process_of, state_of, table_of, thread_of}
use Rattle.spec_kernel.proofs.Steps.{begun, bindings_after_fork-length, process_identity}
use Rattle.spec_kernel.proofs.Threads.{at_number-begin_process, left_thread_of-same, map-begin_process, map-change_process, thread_at-begin_process}
use Rattle.spec_kernel.proofs.Leaving.{left_in}
use Rattle.law_states.specs.Core.{Core, core, ended_in, is_outside, number_in}
use Rattle.law_states.specs.Records.{item_in, notice_of, record_of}
use Rattle.law_states.specs.Coherent.{IsCoherent, is_unfit}
use Rattle.law_states.specs.Invariant.{IsConsistent}
use Rattle.law_states.specs.Arrows.Interrupts.{forked}
use Rattle.law_states.specs.Events.{InvocationArrow}
use Rattle.law_states.proofs.Acts.{act_result}
use Rattle.law_states.proofs.Later.{AreSameDone, by_act_later, notice_left_later, serves_later}
use Rattle.law_states.proofs.Leaving.{Leaves, leaves_without_doors}

-- a core as a process begins: its threads stay or run, and stay bound or are bound to the lost door
pub record Begins (k : Core) (child : ℕ) (l : Core) : Type 0 where
  pub unborn : is_unborn_in (k.proc child) ≡ true
  pub role : (u : ℕ) → (l.role u ≡ k.role u) ⊎ ((k.process u ≡ child) × (l.role u ≡ is.Running))
  pub serves : (u : ℕ) → l.serves u ≡ k.serves u
  pub process : (u : ℕ) → l.process u ≡ k.process u
  pub number : (u : ℕ) → l.number u ≡ k.number u
  pub bound : (u : ℕ) → (l.bound u ≡ k.bound u) ⊎ ((k.process u ≡ child) × (l.bound u ≡ Some LOST_DOOR))
  pub proc : (p : ℕ) → l.proc p ≡ (if p == child then option_map live_process (k.proc child) else k.proc p)

module _ (k : Core) (child : ℕ) (role : ℕ → ThreadState) (serves : ℕ → Option Inv) (process : ℕ → ℕ) (number bound : ℕ → Option ℕ) (proc : ℕ → Option Process) where
  abbrev begun_core : Core
  begun_core = record k { role = role; serves = serves; process = process; number = number; bound = bound; proc = proc }

  module _ (h : IsCoherent k) (b : Begins k child begun_core) where
    dormant : (u : ℕ) → k.process u ≡ child → k.role u ≡ is.Dormant
    dormant u e = h.processes.unborn_dormant u (ap (λ p. is_unborn_in (k.proc p)) e ∙ b.unborn)

    not_dormant : (u : ℕ) → is_dormant (k.role u) ≡ false → k.process u ≡ child → ⊥
    not_dormant u e f = true≢false (sym (ap is_dormant (dormant u f)) ∙ e)

    kept_role : (u : ℕ) → is_dormant (k.role u) ≡ false → role u ≡ k.role u
    kept_role u e = ⊎_elim (λ f. f) (λ g. absurd (not_dormant u e g.0)) (b.role u)

    kept_bound : (u : ℕ) → is_dormant (k.role u) ≡ false → bound u ≡ k.bound u
    kept_bound u e = ⊎_elim (λ f. f) (λ g. absurd (not_dormant u e g.0)) (b.bound u)

    -- a thread that does not run is as before
    was_role : (u : ℕ) (s : ThreadState) → role u ≡ s → (s ≡ is.Running → ⊥) → k.role u ≡ s
    was_role u s e n = ⊎_elim (λ f. sym f ∙ e) (λ g. absurd (n (sym e ∙ g.1))) (b.role u)

    other_proc : (p : ℕ) → (p == child) ≡ false → proc p ≡ k.proc p
    other_proc p e = b.proc p ∙ ap (λ c. if c then option_map live_process (k.proc child) else k.proc p) e

    same_proc : (p : ℕ) → is_unborn_in (k.proc p) ≡ false → proc p ≡ k.proc p
    same_proc p e = go (p == child) refl
      where
        go : (c : Bool) → (p == child) ≡ c → proc p ≡ k.proc p
        go true f =
            let here : p ≡ child = grind (arith, nat_tests) in
            absurd (true≢false (sym (ap (λ q. is_unborn_in (k.proc q)) here ∙ b.unborn) ∙ e))
        go false f = other_proc p f

    -- the process that begins lives
    begun_proc : (p : ℕ) → (p == child) ≡ true → proc p ≡ option_map live_process (k.proc child)
    begun_proc p e = b.proc p ∙ ap (λ c. if c then option_map live_process (k.proc child) else k.proc p) e

    begun_not_ended : (o : Option Process) → ended_in (option_map live_process o) ≡ false
    begun_not_ended None = refl
    begun_not_ended (Some x) = refl

    begun_not_unborn : (o : Option Process) → is_unborn_in (option_map live_process o) ≡ false
    begun_not_unborn None = refl
    begun_not_unborn (Some x) = refl

    ended_done : (t : ℕ) → ended_in (proc (process t)) ≡ true → role t ≡ is.Done
    ended_done t e = go (k.process t == child) refl
      where
        here : ended_in (proc (k.process t)) ≡ true
        here = ap (λ p. ended_in (proc p)) (sym (b.process t)) ∙ e

        go : (c : Bool) → (k.process t == child) ≡ c → role t ≡ is.Done
        go true f =
            absurd (true≢false (sym here ∙ ap ended_in (begun_proc (k.process t) f) ∙ begun_not_ended (k.proc child)))
        go false f =
            let done : k.role t ≡ is.Done = h.processes.ended_done t (ap ended_in (sym (other_proc (k.process t) f)) ∙ here) in
            kept_role t (ap is_dormant done) ∙ done

    unborn_dormant : (t : ℕ) → is_unborn_in (proc (process t)) ≡ true → role t ≡ is.Dormant
    unborn_dormant t e = go (k.process t == child) refl
      where
        here : is_unborn_in (proc (k.process t)) ≡ true
        here = ap (λ p. is_unborn_in (proc p)) (sym (b.process t)) ∙ e

        go : (c : Bool) → (k.process t == child) ≡ c → role t ≡ is.Dormant
        go true f =
            absurd (true≢false (sym here ∙ ap is_unborn_in (begun_proc (k.process t) f) ∙ begun_not_unborn (k.proc child)))
        go false f =
            let was : k.role t ≡ is.Dormant = h.processes.unborn_dormant t (ap is_unborn_in (sym (other_proc (k.process t) f)) ∙ here) in
            ⊎_elim (λ i. i ∙ was) (λ g. absurd (grind (arith, nat_tests, g.0))) (b.role t)

    there : (o : Option Process) → is_some (option_map live_process o) ≡ is_some o
    there None = refl
    there (Some x) = refl

    process_there : (t n : ℕ) → number t ≡ Some n → is_some (proc (process t)) ≡ true
    process_there t n e = ap (λ p. is_some (proc p)) (b.process t) ∙ go (k.process t == child) refl
      where
        was : is_some (k.proc (k.process t)) ≡ true
        was = h.threads.process_there t n (sym (b.number t) ∙ e)

        go : (c : Bool) → (k.process t == child) ≡ c → is_some (proc (k.process t)) ≡ true
        go true f =
            let here : k.process t ≡ child = grind (arith, nat_tests) in
            ap is_some (begun_proc (k.process t) f) ∙ there (k.proc child) ∙ ap (λ p. is_some (k.proc p)) (sym here) ∙ was
        go false f = ap is_some (other_proc (k.process t) f) ∙ was

    bound_is : (t d : ℕ) → bound t ≡ Some d → (d == LOST_DOOR) ≡ false → k.bound t ≡ Some d
    bound_is t d e l = ⊎_elim (λ f. sym f ∙ e) (λ g. absurd (lost (sym e ∙ g.1))) (b.bound t)
      where
        lost : Some d ≡ Some LOST_DOOR → ⊥
        lost f = absurd (grind (arith, nat_tests))

    fit : (t : ℕ) → is_unfit (role t) ≡ false
    fit t = ⊎_elim (λ f. ap is_unfit f ∙ h.has_fit_state t) (λ g. ap is_unfit g.1) (b.role t)

    outside : (t : ℕ) → is_outside (role t) ≡ true → serves t ≡ None
    outside t e =
        ⊎_elim (λ f. b.serves t ∙ h.servers.outside t (ap is_outside (sym f) ∙ e))
        (λ g. absurd (true≢false (sym e ∙ ap is_outside g.1)))
        (b.role t)

    pub begun_keeps : IsCoherent begun_core
    begun_keeps =
        record {
          waits =
              record {
                given = λ c u e. let g = h.waits.given c u e in kept_role u (ap is_dormant g) ∙ g;
                given_back = λ c u e. h.waits.given_back c u (was_role u _ e (λ f. grind arith));
                caller = λ c t e. h.waits.caller c t (was_role t _ e (λ f. grind arith));
                live = λ c t e. h.waits.live c t (was_role t _ e (λ f. grind arith));
                calling = λ c e. let g = h.waits.calling c e in kept_role _ (ap is_dormant g) ∙ g;
              };
          invocations =
              record {
                entered = λ c u e. ap item_in (b.serves u) ∙ h.invocations.entered c u e;
                entered_back = λ c u e f. h.invocations.entered_back c u (ap item_in (sym (b.serves u)) ∙ e) f;
                kept = h.invocations.kept;
              };
          notices_given =
              record {
                notice_given = λ n u e. let g = h.notices_given.notice_given n u e in kept_role u (ap is_dormant g) ∙ g;
                notice_given_back = λ n u e. h.notices_given.notice_given_back n u (was_role u _ e (λ f. grind arith));
              };
          notices_entered =
              record {
                notice_entered = λ n u e. ap item_in (b.serves u) ∙ h.notices_entered.notice_entered n u e;
                notice_entered_back = λ n u e. h.notices_entered.notice_entered_back n u (ap item_in (sym (b.serves u)) ∙ e);
              };
          notices_at_doors =
              record {
                notice_door = h.notices_at_doors.notice_door;
                notice_valid = h.notices_at_doors.notice_valid;
                notice_given_owner = λ n u e. h.notices_at_doors.notice_given_owner n u e ∙ ap Some (sym (b.process u));
                notice_given_bound =
                    λ n u e. kept_bound u (ap is_dormant (h.notices_given.notice_given n u e)) ∙ h.notices_at_doors.notice_given_bound n u e;
                notice_entered_owner = λ n u e. h.notices_at_doors.notice_entered_owner n u e ∙ ap Some (sym (b.process u));
              };
          servers =
              record {
                outside = outside;
                below = λ c d t e f. h.servers.below c d t (ap item_in (sym (b.serves t)) ∙ e) (was_role t _ f (λ g. grind arith));
                served_made = λ c t e. h.servers.served_made c t (ap item_in (sym (b.serves t)) ∙ e);
              };
          calls = h.calls;
          at_doors =
              record {
                door_there = h.at_doors.door_there;
                no_cancel = h.at_doors.no_cancel;
                waiting_valid = h.at_doors.waiting_valid;
                given_owner = λ c u e. h.at_doors.given_owner c u e ∙ ap Some (sym (b.process u));
                given_bound = λ c u e. kept_bound u (ap is_dormant (h.waits.given c u e)) ∙ h.at_doors.given_bound c u e;
                entered_owner = λ c u e. h.at_doors.entered_owner c u e ∙ ap Some (sym (b.process u));
              };
          doors =
              record {
                none_lost = h.doors.none_lost;
                door_number = h.doors.door_number;
                owner_ended =
                    λ d x e. h.doors.owner_ended d x e ∙ ap (λ o. not (is_live_in o)) (sym (same_proc x.owner.0 (h.doors.owner_begun d x e)));
                owner_begun =
                    λ d x e. ap is_unborn_in (same_proc x.owner.0 (h.doors.owner_begun d x e)) ∙ h.doors.owner_begun d x e;
              };
          bindings =
              record {
                bound_own = λ t d e l. h.bindings.bound_own t d (bound_is t d e l) l ∙ ap Some (sym (b.process t));
                bound_private = λ t d e l. h.bindings.bound_private t d (bound_is t d e l) l;
                idle_not_lost =
                    λ t since e f.
                    let g : k.role t ≡ is.Idle since = was_role t _ e (λ i. grind arith) in
                    h.bindings.idle_not_lost t since g (sym (kept_bound t (ap is_dormant g)) ∙ f);
              };
          processes = record { ended_done = ended_done; unborn_dormant = unborn_dormant };
          threads =
              record {
                thread_number = λ t n e. h.threads.thread_number t n (sym (b.number t) ∙ e);
                process_there = process_there;
              };
          has_fit_state = fit;
        }

-- the state as a process begins

-- a thread after the beginning
record IsBegun (child : ℕ) (o p : Option Thread) : Type 0 where
  role : (state_in p ≡ state_in o) ⊎ ((process_in o ≡ child) × (state_in p ≡ is.Running))
  serves : invocation_in p ≡ invocation_in o
  process : process_in p ≡ process_in o
  number : number_in p ≡ number_in o

begun_is : (child : ℕ) (o : Option Thread) → IsBegun child o (option_map (begun_thread child) o)
begun_is child None = record { role = inl refl; serves = refl; process = refl; number = refl }
begun_is child (Some x) = go (x.process.0 == child) (not x.spare) refl
  where
    go : (a b : Bool) → (x.process.0 == child) ≡ a → IsBegun child (Some x) (Some (if a && b then thread_at_state is.Running x else x))
    go true true e =
        record { role = inr (grind (arith, nat_tests), refl); serves = refl; process = refl; number = refl }
    go true false e = record { role = inl refl; serves = refl; process = refl; number = refl }
    go false b e = record { role = inl refl; serves = refl; process = refl; number = refl }

-- to what a thread is bound after the beginning of a process
abbrev IsBoundAfter : State → ℕ → List (Option ℕ) → ℕ → Type 0
IsBoundAfter m child bindings u =
    (bound_at bindings u ≡ bound_of m u) ⊎ ((process_of m u ≡ child) × (bound_at bindings u ≡ Some LOST_DOOR))

module _ (m : State) (child : ℕ) (bindings : List (Option ℕ)) (table : List (Option Obj)) where
  abbrev after : State
  after = begun m child bindings table

  thread_after : (u : ℕ) → IsBegun child (thread_of m u) (thread_of after u)
  thread_after u =
      subst (IsBegun child (thread_of m u)) (sym (thread_at-begin_process m.process_table child u)) (begun_is child (thread_of m u))

  module _ (h : IsConsistent m) (unborn : is_unborn_process m child ≡ true) where
    -- a thread is done after it where it was so before
    pub begun-same_done : AreSameDone m after
    begun-same_done =
        record {
          after =
              λ u e. ⊎_elim (λ f. f ∙ e)
              (λ g.
              let was : state_of m u ≡ is.Dormant = h.coherent.processes.unborn_dormant u (ap (is_unborn_process m) g.0 ∙ unborn) in
              let both : is.Dormant ≡ is.Done = sym was ∙ e in
              absurd (grind arith))
              (thread_after u).role;
          before =
              λ u e. ⊎_elim (λ f. sym f ∙ e)
              (λ g. let both : is.Running ≡ is.Done = sym g.1 ∙ e in absurd (grind arith))
              (thread_after u).role;
        }

    module _ (bound : (u : ℕ) → IsBoundAfter m child bindings u) (places : length m.process_table.threads ≤ length bindings) where
      begins : Begins (core m) child (core after)
      begins =
          record {
            unborn = unborn;
            role = λ u. (thread_after u).role;
            serves = λ u. (thread_after u).serves;
            process = λ u. (thread_after u).process;
            number = λ u. (thread_after u).number;
            bound = bound;
            proc = at_number-begin_process m.process_table child;
          }

      lives_now : (p : ℕ) → is_live_process after p ≡ false → ((p == child) ≡ false) × (is_live_process m p ≡ false)
      lives_now p e = go (p == child) refl (at_number m.process_table.processes child) refl (sym (ap is_live_in (at_number-begin_process m.process_table child p)) ∙ e)
        where
          go :
              (b : Bool) → (p == child) ≡ b → (o : Option Process) → at_number m.process_table.processes child ≡ o →
              is_live_in (if b then option_map live_process o else at_number m.process_table.processes p) ≡ false →
              ((p == child) ≡ false) × (is_live_process m p ≡ false)
          go true f None g i = absurd (true≢false (sym unborn ∙ ap is_unborn_in g))
          go true f (Some x) g i = absurd (true≢false i)
          go false f o g i = (f, i)

      rows_after : (p : ℕ) (fd : Fd) → is_live_process after p ≡ false → object_at after p fd ≡ None
      rows_after p fd e =
          let w : ((p == child) ≡ false) × (is_live_process m p ≡ false) = lives_now p e in
          grind (arith, nat_tests, w.0, w.1, h.no_rows p fd, at_number-with_at_number m.tables child p table)

      processes_after : length after.process_table.processes ≡ length m.process_table.processes
      processes_after =
          same_length process_identity after.process_table.processes m.process_table.processes
          (map-change_process process_identity
          (record m.process_table { threads = map (begun_thread child) m.process_table.threads })
          child live_process
          (λ x. refl))

      pub begun_consistent : IsConsistent after
      begun_consistent =
          record {
            in_order = h.in_order;
            counted = h.counted;
            coherent =
                begun_keeps (core m) child (core after).role (core after).serves (core after).process (core after).number (core after).bound
                (core after).proc
                h.coherent
                begins;
            tables = length-with_at_number m.tables child table ∙ h.tables ∙ sym processes_after;
            no_rows = rows_after;
            notices_in_order = h.notices_in_order;
            notices_counted = h.notices_counted;
            places = grind (arith, places, same_length number after.process_table.threads m.process_table.threads (map-begin_process number (λ x. refl) m.process_table child));
          }
        where
          number : Thread → ℕ
          number x = x.number

-- the bindings after a fork

first_in : (table : ProcessTable) (child i : ℕ) → first_place table child ≡ Some i → process_in (thread_at table (i + 1)) ≡ child
first_in table child i e =
    let h = position-Some (is_first_of child) table.threads i (new_thread 0 0 true) e in
    ap process_in (ap (at_number table.threads) next ∙ at_number-suc table.threads i ∙ slice_get-get_or table.threads i (new_thread 0 0 true) h.0)
    ∙ grind (arith, nat_tests, h.1)
  where
    next : i + 1 ≡ suc i
    next = omega arith

bound_after : (m : State) (t child u : ℕ) → IsBoundAfter m child (bindings_after_fork m t child) u
bound_after m t child u = go (is_some (bound_of m t))
  where
    at_first : (o : Option ℕ) → first_place m.process_table child ≡ o → IsBoundAfter m child (bind_first m.bindings o) u
    at_first None e = inl refl
    at_first (Some i) e = by_place (u == i + 1) refl
      where
        by_place : (b : Bool) → (u == i + 1) ≡ b → IsBoundAfter m child (bind_first m.bindings (Some i)) u
        by_place false f = inl (grind (arith, nat_tests, f, at_number-with_at_number m.bindings (i + 1) u (Some LOST_DOOR)))
        by_place true f =
            let here : u ≡ i + 1 = grind (arith, nat_tests) in
            let own : process_of m u ≡ child = ap (process_of m) here ∙ first_in m.process_table child i e in
            bound_or_not (at_number m.bindings (i + 1)) refl here own
          where
            bound_or_not :
                (o : Option (Option ℕ)) → at_number m.bindings (i + 1) ≡ o → u ≡ i + 1 → process_of m u ≡ child →
                IsBoundAfter m child (bind_first m.bindings (Some i)) u
            bound_or_not None g here own =
                inl (grind (arith, nat_tests, g, here, f, at_number-with_at_number m.bindings (i + 1) u (Some LOST_DOOR)))
            bound_or_not (Some x) g here own =
                inr (own, grind (arith, nat_tests, g, here, f, at_number-with_at_number m.bindings (i + 1) u (Some LOST_DOOR)))

    go :
        (b : Bool) →
        IsBoundAfter m child (if b then bind_first m.bindings (first_place m.process_table child) else m.bindings) u
    go true = at_first (first_place m.process_table child) refl
    go false = inl refl

-- who is interrupted by a fork

fellow : (m : State) (t u : ℕ) → is_fellow_caller m.process_table t u ≡ true → (process_of m u ≡ process_of m t) × (u ≡ t → ⊥)
fellow m t u e = (grind (arith, nat_tests), λ f. absurd (grind (arith, nat_tests)))

was_unborn : (m : State) (child : ℕ) → first_refusal (forking_tests m child) ≡ None → is_unborn_process m child ≡ true
was_unborn m child f = grind arith

pub fork_leaves :
    (m : State) (t : ℕ) (child : Pid) → IsConsistent m → first_refusal (forking_tests m child.0) ≡ None →
    Leaves m t (Some (request.Fork child)) (fork m t (process_of m t) child.0)
fork_leaves m t child h f =
    record {
      does =
          record {
            consistent =
                begun_consistent n child.0 bindings table l.does.consistent unborn bound
                (subst (λ k. length n.process_table.threads ≤ k) (sym (bindings_after_fork-length m t child.0)) l.does.consistent.places);
            arrows = λ c. by_act_later m t q a n o (record_of m c) (record_of n c) (λ d. refl) done (l.does.arrows c);
            notices =
                λ c. notice_left_later m t q a n o (notice_of m c) (notice_of n c) (λ d. refl) done (l.does.kept.none_made c) (l.does.notices c);
            kept = l.does.kept;
          };
      serves =
          λ u. subst (InvocationArrow m t q a o u (invocation_of m u)) (sym (thread_after n child.0 bindings table u).serves)
          (serves_later m t q a n o u (invocation_of m u) (invocation_of n u) done (l.serves u));
      doors = λ d. l.doors d;
    }
  where
    q : Option Request
    q = Some (request.Fork child)

    a : Answer
    a = answer.Child (pid child.0)

    who : Leaving
    who = forking m.process_table t

    n : State
    n = leave m who

    bindings : List (Option ℕ)
    bindings = bindings_after_fork m t child.0

    table : List (Option Obj)
    table = table_of m (process_of m t)

    o : State
    o = begun n child.0 bindings table

    l : Leaves m t q (act_result n a)
    l =
        leaves_without_doors m t q who a h (λ u e. let i = fellow m t u e in forked child refl f i.0 i.1) (λ u e. refl) (λ d. refl)

    unborn : is_unborn_process n child.0 ≡ true
    unborn = was_unborn m child.0 f

    done : AreSameDone n o
    done = begun-same_done n child.0 bindings table l.does.consistent unborn

    -- leaving changes no process of a thread
    same_process : (u : ℕ) → process_of n u ≡ process_of m u
    same_process u = ap process_in (at_number-map (left_in m who) m.process_table.threads u) ∙ go (thread_of m u)
      where
        go : (x : Option Thread) → process_in (option_map (left_in m who) x) ≡ process_in x
        go None = refl
        go (Some x) = left_thread_of-same (λ (y : Thread). y.process.0) (λ v s y. refl) who (now m) m.call_tree.calls x

    bound : (u : ℕ) → IsBoundAfter n child.0 bindings u
    bound u = ⊎_elim (λ e. inl e) (λ e. inr (same_process u ∙ e.0, e.1)) (bound_after m t child.0 u)
