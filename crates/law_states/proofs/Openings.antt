-- An opening state meets the invariant.
use Rattle.std.specs.Prelude.{ℕ, ◌≡◌, ◌≤◌, List, Option, Bool, true, false, Some, None, is_some, length, All}
use Rattle.std.proofs.Common.{[], refl, sym, ap, subst, ⊎_elim}
use native.Mathlib.Omega.{arith}
use Rattle.std.proofs.lemmas.Bool.Decides.{nat_tests}
use Rattle.std.proofs.lemmas.List.Elements.{All-nil}
use Rattle.std.proofs.lemmas.List.{length-replicate}
use Rattle.dk_base.specs.declared.limits.TheConstants.{THREADS_MAX}
use Rattle.spec_kernel.specs.Types.{Process, ThreadState}
use Rattle.spec_records.specs.declared.record.ThreadState.TheVariants as is
use Rattle.dk_base.specs.ByNumber.{at_number}
use Rattle.spec_records.specs.declared.pool.TheConstants.{LOST_DOOR}
use Rattle.spec_records.specs.Words.{CallTree, IsCounted, NoticeList, call_number, is_to_fire, is_unborn_in, names_its_object, notice_number}
use Rattle.spec_kernel.specs.Words.{Channels, IsOpening, State, associations_in, is_live_process, pick, pool_of, process_of, ready_at, state_of, thread_of, timers_in}
use Rattle.spec_records.proofs.Lists.{numbered_there}
use Rattle.spec_kernel.proofs.Opening.{bound_of-opening, children-opening, invocation_of-opening, length-tables_opening, object_at-opening, opened, state_of-opening, unborn-opening, waiting_items-opening}
use Rattle.law_states.specs.Core.{Core, core, number_in, ended_in, is_ended_stage}
use Rattle.law_states.specs.Coherent.{IsCoherent}
use Rattle.law_states.specs.Invariant.{Invariant}

abbrev may_open : ThreadState → Bool
may_open is.Dormant = true
may_open is.Running = true
may_open is.Done = true
may_open _ = false

-- where there is no call, no door and no notice, and no thread is in a call
coherent_of :
    (k : Core) → ((c : ℕ) → k.call c ≡ None) → ((d : ℕ) → k.door d ≡ None) → ((n : ℕ) → k.notice n ≡ None) →
    ((t : ℕ) → may_open (k.role t) ≡ true) → ((t : ℕ) → k.serves t ≡ None) → ((t n : ℕ) → k.number t ≡ Some n → n ≡ t) →
    ((t : ℕ) → k.bound t ≡ None) → ((p : ℕ) → ended_in (k.proc p) ≡ false) →
    ((t : ℕ) → is_unborn_in (k.proc (k.process t)) ≡ true → k.role t ≡ is.Dormant) →
    ((t n : ℕ) → k.number t ≡ Some n → is_some (k.proc (k.process t)) ≡ true) → IsCoherent k
coherent_of k calls doors notices states outside numbers unbound living unborn there =
    record {
      waits =
          record {
            given = λ c v e. grind (arith, calls c);
            given_back = λ c v e. grind (arith, states v);
            caller = λ c v e. grind (arith, states v);
            live = λ c v e. grind (arith, states v);
            calling = λ c e. grind (arith, calls c);
          };
      invocations =
          record {
            entered = λ c v e. grind (arith, calls c);
            entered_back = λ c v e f. grind (arith, outside v);
            kept = λ c e. grind (arith, calls c);
          };
      notices_given = record { notice_given = λ n v e. grind (arith, notices n); notice_given_back = λ n v e. grind (arith, states v) };
      notices_entered =
          record { notice_entered = λ n v e. grind (arith, notices n); notice_entered_back = λ n v e. grind (arith, outside v) };
      notices_at_doors =
          record {
            notice_door = λ n e. grind (arith, notices n);
            notice_valid = λ n e. grind (arith, notices n);
            notice_given_owner = λ n v e. grind (arith, notices n);
            notice_given_bound = λ n v e. grind (arith, notices n);
            notice_entered_owner = λ n v e. grind (arith, notices n);
          };
      servers =
          record {
            outside = λ v e. grind (arith, outside v);
            below = λ c d v e f. grind (arith, states v, outside v);
            served_made = λ c v e. grind (arith, outside v);
          };
      calls =
          record {
            arguments = λ c x e f. grind (arith, calls c);
            call_number = λ c x e. grind (arith, calls c);
            unmade = λ c e. grind (arith, calls c);
          };
      at_doors =
          record {
            door_there = λ c x e. grind (arith, calls c);
            no_cancel = λ c x e. grind (arith, calls c);
            waiting_valid = λ c e. grind (arith, calls c);
            given_owner = λ c v e. grind (arith, calls c);
            given_bound = λ c v e. grind (arith, calls c);
            entered_owner = λ c v e. grind (arith, calls c);
          };
      doors =
          record {
            none_lost = doors LOST_DOOR;
            door_number = λ d x e. grind (arith, doors d);
            owner_ended = λ d x e. grind (arith, doors d);
            owner_begun = λ d x e. grind (arith, doors d);
          };
      bindings =
          record {
            bound_own = λ v d e f. grind (arith, unbound v);
            bound_private = λ v d e f. grind (arith, unbound v);
            idle_not_lost = λ v since e f. grind (arith, states v);
          };
      processes = record { ended_done = λ v e. grind (arith, living (k.process v)); unborn_dormant = unborn };
      threads = record { thread_number = λ v n e. grind (arith, numbers v n); process_there = there };
      has_fit_state = λ v. grind (arith, states v);
    }

module _ (m : State) (o : IsOpening m) where
  states : (t : ℕ) → may_open (state_of m t) ≡ true
  states t =
      ⊎_elim (λ e. ap may_open e) (⊎_elim (λ e. ap may_open e) (λ e. ap may_open e)) (state_of-opening o t)

  numbers : (t n : ℕ) → number_in (thread_of m t) ≡ Some n → n ≡ t
  numbers t n e = grind (arith, (opened o).threads t)

  living : (p : ℕ) → ended_in (at_number m.process_table.processes p) ≡ false
  living p = go (at_number m.process_table.processes p) refl
    where
      go : (x : Option Process) → at_number m.process_table.processes p ≡ x → ended_in x ≡ false
      go None e = refl
      go (Some x) e = ⊎_elim (λ f. ap is_ended_stage f) (λ f. ap is_ended_stage f) ((opened o).processes p x e).stage

  there : (t n : ℕ) → number_in (thread_of m t) ≡ Some n → is_some (at_number m.process_table.processes (process_of m t)) ≡ true
  there t n e = grind (arith, (opened o).declared t, numbered_there m.process_table.processes (process_of m t))

  pub no_call_at_first : (c : ℕ) → (core m).call c ≡ None
  no_call_at_first c = grind (arith, (opened o).call_tree)

  no_door : (d : ℕ) → (core m).door d ≡ None
  no_door d = grind (arith, nat_tests, (opened o).doors)

  no_notice : (n : ℕ) → (core m).notice n ≡ None
  no_notice n = grind (arith, nat_tests, (opened o).notice_list)

  pub opening_keeps : Invariant m
  opening_keeps =
      record {
        consistent =
            record {
              in_order = subst (λ (tree : CallTree). IsCounted call_number 0 tree.calls) (sym (opened o).call_tree) tt;
              counted = subst (λ (tree : CallTree). length tree.calls ≡ tree.made) (sym (opened o).call_tree) refl;
              coherent =
                  coherent_of (core m) no_call_at_first no_door no_notice states (invocation_of-opening o) numbers (bound_of-opening o) living (unborn-opening o) there;
              tables = length-tables_opening o;
              no_rows = λ p fd e. object_at-opening o p fd;
              notices_in_order = subst (λ (list : NoticeList). IsCounted notice_number 0 list.notices) (sym (opened o).notice_list) tt;
              notices_counted = subst (λ (list : NoticeList). length list.notices ≡ list.made) (sym (opened o).notice_list) refl;
              places =
                  subst (λ (bs : List (Option ℕ)). length m.process_table.threads ≤ length bs) (sym (opened o).bindings)
                  (subst (λ n. length m.process_table.threads ≤ n) (sym (length-replicate {A = Option ℕ} THREADS_MAX None)) (opened o).few_threads);
            };
        children = λ p q e. let i = children-opening o p q e in record { first = i.first; after = i.after; limit = i.limit };
        idle_valid = λ t d since e f. grind (arith, states t);
        given_out =
            subst (λ ws. All (λ w. pick m (pool_of m w.door) ≡ None) ws) (sym (waiting_items-opening o))
            (All-nil (λ w. pick m (pool_of m w.door) ≡ None));
        told =
            record {
              rows = subst (All (λ a. names_its_object m.tables a ≡ true)) (sym none) (All-nil (λ a. names_its_object m.tables a ≡ true));
              wait = subst (All (λ a. is_to_fire (ready_at m) a ≡ false)) (sym none) (All-nil (λ a. is_to_fire (ready_at m) a ≡ false));
              timers = subst (All (λ t. is_live_process m t.process.0 ≡ true)) (sym no_timer) (All-nil (λ t. is_live_process m t.process.0 ≡ true));
            };
      }
    where
      none : associations_in m ≡ []
      none = ap (λ (c : Channels). c.associations.associations) (opened o).channels

      no_timer : timers_in m ≡ []
      no_timer = ap (λ (c : Channels). c.timers.timers) (opened o).channels
