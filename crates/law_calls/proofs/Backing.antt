-- Each change of a call, with that of its thread, keeps what calls say of threads.
use Rattle.std.proofs.Common.{◌≡◌, ℕ, suc, ◌==◌, ◌&&◌, Bool, true, false, List, [], ◌∷◌, ◌++◌, Option, Some, None, IsSome, find, if◌then◌else◌, length, option_map, refl, sym, subst, ap, ◌∙◌, arith}
use Rattle.std.proofs.lemmas.Bool.Decides.{nat_tests}
use Rattle.dk_base.specs.ByNumber.{at_number}
use Rattle.dk_base.specs.declared.error.Errno.TheVariants.{EMFILE}
use Rattle.dk_base.specs.declared.object.Item.TheVariants as item
use Rattle.dk_base.specs.declared.object.Obj.{Obj}
use Rattle.spec_records.proofs.Lists.{at_number-push, numbered_past}
use Rattle.spec_records.proofs.NumberedLists.{find-passes}
use Rattle.spec_records.proofs.Places.{change_first-none}
use Rattle.spec_records.specs.declared.record.CallStage.TheVariants as stage
use Rattle.spec_records.specs.declared.record.ThreadState.TheVariants as is
use Rattle.spec_records.specs.Words.{CallTree, IsAscending, ProcessTable, at_stage, call_number, change_thread, collect_call, end_process, enter_call, enter_thread, fail_call, give_call, give_thread, invocation_in, is_calling, is_client_call_of, is_done, is_dormant, is_given_as, is_given_to, is_idle, is_live_call, is_queued, is_queued_as, is_served_by, is_to_collect, is_to_collect_as, live_calls, return_call, set_thread_state, state_in, thread_at, thread_at_state, thread_in_invocation, tid, with_ended, without_arguments_at}
use Rattle.spec_kernel.specs.Types.{Call, CallStage, Item, Process, Thread, ThreadState}
use Rattle.spec_kernel.specs.Words.{is_running_state}
use Rattle.call_tree.specs.Words.{is_called_by}
use Rattle.law_states.specs.Core.{is_outside}
use Rattle.law_states.specs.Records.{item_in}
use Rattle.law_calls.specs.Backed.{AreBacked, IsBacked, IsServedAt, is_given_item}
use Rattle.law_calls.proofs.Alls.{all_both, all_changed, all_filter, all_found, all_goes, all_push}
use Rattle.law_calls.proofs.Free.{backed_elsewhere, backed_on, changed_elsewhere, changed_here, either, find_none, free_turns, is_number, none_passes, not_called, not_served, number_is, serves_not, there, waits_not}

idle_so : (s : ThreadState) → is_idle s ≡ true → (is_calling s ≡ false) × (is_outside s ≡ true) × (is_done s ≡ false)
idle_so s e = (grind (arith, nat_tests), grind (arith, nat_tests), grind (arith, nat_tests))

pub idle_there : (s : ThreadState) → is_idle s ≡ true → is_done s ≡ false
idle_there s e = (idle_so s e).2

pub running_there : (s : ThreadState) → is_running_state s ≡ true → is_done s ≡ false
running_there s e = grind (arith, nat_tests)

pub some_call : (o : Option Call) → IsSome o → (x : Call) × (o ≡ Some x)
some_call None h = cc
some_call (Some x) h = (x, refl)

dormant_so : (s : ThreadState) → is_dormant s ≡ true → is_outside s ≡ true
dormant_so s e = grind (arith, nat_tests)

dormant_not_given : (s : ThreadState) (i : Item) → is_dormant s ≡ true → s ≡ is.Given i → ⊥
dormant_not_given s i e f = absurd (grind (arith, nat_tests))

idle_not_given : (s : ThreadState) (i : Item) → is_idle s ≡ true → s ≡ is.Given i → ⊥
idle_not_given s i e f = absurd (grind (arith, nat_tests))

running_so : (s : ThreadState) → is_running_state s ≡ true → (is_calling s ≡ false) × (is_outside s ≡ false) × (is_given_item s ≡ false) × (is_done s ≡ false)
running_so s e = (grind (arith, nat_tests), grind (arith, nat_tests), grind (arith, nat_tests), grind (arith, nat_tests))

outside_calm : (s : ThreadState) → is_outside s ≡ true → is_calling s ≡ false
outside_calm s e = grind (arith, nat_tests)

number_of : (c : ℕ) (q : Bool) (r : Call) → ((r.number == c) && q) ≡ true → (r.number ≡ c) × (q ≡ true)
number_of c q r e = (grind (arith, nat_tests), grind (arith, nat_tests))

not_abandoned : (s : CallStage) (a : Bool) → (a ≡ true → is_to_collect s ≡ true) → is_to_collect s ≡ false → a ≡ false
not_abandoned s a k n = either a (λ e. let m : true ≡ false = sym (k e) ∙ n in absurd cc)

module _ (table : ProcessTable) (tree : CallTree) (up : IsAscending call_number 0 tree.made tree.calls) (b : AreBacked table tree.calls) where
  -- an idle thread

  module _ (u : ℕ) (idle : is_idle (state_in (thread_at table u)) ≡ true) where
    pub idle_waits_not : find (is_called_by u) tree.calls ≡ None
    idle_waits_not = waits_not table u tree.calls b (idle_so _ idle).0

    pub idle_serves_not : find (is_served_by u) tree.calls ≡ None
    idle_serves_not = serves_not table u tree.calls b (idle_so _ idle).1 (λ c e. idle_not_given _ (item.Call c) idle e)

    pub idle_turns : (f : Thread → Thread) → AreBacked (change_thread table u f) tree.calls
    idle_turns f = free_turns table (change_thread table u f) u (changed_elsewhere table u f) tree.calls b idle_waits_not idle_serves_not

    pub call_given : (c : ℕ) (x : Call) → find (is_queued_as c) tree.calls ≡ Some x → AreBacked (give_thread table u (item.Call c)) (give_call tree c u).calls
    call_given c x found =
        all_changed (IsBacked table) (IsBacked after) (is_queued_as c) (at_stage (stage.Given (tid u))) x here
        (λ r k n. backed_elsewhere table after u elsewhere r k (not_called table u calm r k) (idle_served r k)) tree.calls 0 tree.made up found b
      where
        after : ProcessTable
        after = give_thread table u (item.Call c)

        elsewhere : (v : ℕ) → (v ≡ u → ⊥) → thread_at (give_thread table u (item.Call c)) v ≡ thread_at table v
        elsewhere = changed_elsewhere table u (thread_at_state (is.Given (item.Call c)))

        calm : is_calling (state_in (thread_at table u)) ≡ false
        calm = (idle_so _ idle).0

        idle_served : (r : Call) → IsBacked table r → is_served_by u r ≡ false
        idle_served r k = not_served table u (idle_so _ idle).1 r (λ e. idle_not_given _ (item.Call r.number) idle e) k

        old : IsBacked table x
        old = all_found (IsBacked table) (is_queued_as c) tree.calls x b found

        passes : (x.number ≡ c) × (is_queued x.stage ≡ true)
        passes = number_of c (is_queued x.stage) x (find-passes (is_queued_as c) tree.calls x found)

        queued_open : (s : CallStage) → is_queued s ≡ true → is_to_collect s ≡ false
        queued_open s e = grind (arith, nat_tests)

        moved : state_in (thread_at (give_thread table u (item.Call c)) u) ≡ is.Given (item.Call x.number)
        moved =
            let y = there table u (idle_so _ idle).2 in
            ap state_in (changed_here table u (thread_at_state (is.Given (item.Call c))) ∙ ap (option_map (thread_at_state (is.Given (item.Call c)))) y.1)
            ∙ ap (λ k. is.Given (item.Call k)) (sym passes.0)

        here : IsBacked (give_thread table u (item.Call c)) (at_stage (stage.Given (tid u)) x)
        here =
            let n = not_abandoned x.stage x.abandoned old.abandoned (queued_open x.stage passes.1) in
            let e = not_called table u calm x old in
            record {
              calling = (backed_elsewhere table after u elsewhere x old e (idle_served x old)).calling;
              served = moved;
              abandoned = λ a. let m : true ≡ false = sym a ∙ n in absurd cc;
            }

  -- a thread that is a spare, or was given a notice: it serves no call, and waits in none
  outside_turns :
      (t : ℕ) (f : Thread → Thread) → is_outside (state_in (thread_at table t)) ≡ true → ((c : ℕ) → state_in (thread_at table t) ≡ is.Given (item.Call c) → ⊥) →
      AreBacked (change_thread table t f) tree.calls
  outside_turns t f o given =
      free_turns table (change_thread table t f) t (changed_elsewhere table t f) tree.calls b (waits_not table t tree.calls b (outside_calm _ o)) (serves_not table t tree.calls b o given)

  pub dormant_turns : (t : ℕ) (f : Thread → Thread) → is_dormant (state_in (thread_at table t)) ≡ true → AreBacked (change_thread table t f) tree.calls
  dormant_turns t f e = outside_turns t f (dormant_so _ e) (λ c g. dormant_not_given _ (item.Call c) e g)

  pub noticed_turns : (t : ℕ) (f : Thread → Thread) (n : ℕ) → state_in (thread_at table t) ≡ is.Given (item.Notice n) → AreBacked (change_thread table t f) tree.calls
  noticed_turns t f n e = outside_turns t f (ap is_outside e) (λ c g. absurd (notice_not_call n c (sym e ∙ g)))
    where
      notice_not_call : (k c : ℕ) → is.Given (item.Notice k) ≡ is.Given (item.Call c) → ⊥
      notice_not_call k c g = absurd cc

  -- a thread that turns from one state to another, in neither of which it waits in a call or was given an item
  pub turned :
      (t : ℕ) (s : ThreadState) → is_calling (state_in (thread_at table t)) ≡ false → is_given_item (state_in (thread_at table t)) ≡ false →
      is_done (state_in (thread_at table t)) ≡ false → is_outside s ≡ false → AreBacked (set_thread_state table t s) tree.calls
  turned t s calm given alive inside =
      let f = thread_at_state s in
      let y = there table t alive in
      let at = changed_here table t f ∙ ap (option_map f) y.1 in
      all_goes (IsBacked table) (IsBacked (set_thread_state table t s))
      (λ r k. backed_on table (set_thread_state table t s) t (changed_elsewhere table t f) given
      (ap (λ o. item_in (invocation_in o)) at ∙ ap (λ o. item_in (invocation_in o)) (sym y.1)) (ap (λ o. is_outside (state_in o)) at ∙ inside) r k (not_called table t calm r k)) tree.calls b

  pub running_waits_not : (t : ℕ) → is_running_state (state_in (thread_at table t)) ≡ true → find (is_called_by t) tree.calls ≡ None
  running_waits_not t running = waits_not table t tree.calls b (running_so _ running).0

  -- a call is made by a thread that runs
  pub call_opened :
      (t : ℕ) (r : Call) → is_running_state (state_in (thread_at table t)) ≡ true → r.caller.0 ≡ t → r.stage ≡ stage.Queued → r.abandoned ≡ false →
      AreBacked (set_thread_state table t (is.Calling r.number)) (tree.calls ++ r ∷ [])
  call_opened t r running his queued stays =
      let s = running_so _ running in
      let f = thread_at_state (is.Calling r.number) in
      let y = there table t s.3 in
      let at : state_in (thread_at (set_thread_state table t (is.Calling r.number)) t) ≡ is.Calling r.number = ap state_in (changed_here table t f ∙ ap (option_map f) y.1) in
      all_push (IsBacked (set_thread_state table t (is.Calling r.number))) tree.calls r (turned t (is.Calling r.number) s.0 s.2 s.3 refl)
      (record {
        calling = subst (λ k. state_in (thread_at (set_thread_state table t (is.Calling r.number)) k) ≡ is.Calling r.number) (sym his) at;
        served = subst (IsServedAt (set_thread_state table t (is.Calling r.number)) r.number) (sym queued) tt;
        abandoned = λ a. let m : true ≡ false = sym a ∙ stays in absurd cc;
      })

  -- a thread that was given a call

  module _ (c t : ℕ) (given : state_in (thread_at table t) ≡ is.Given (item.Call c)) (x : Call) (found : find (is_given_as c t) tree.calls ≡ Some x) where
    calm : is_calling (state_in (thread_at table t)) ≡ false
    calm = ap is_calling given

    its_number : x.number ≡ c
    its_number = (number_of c _ x (find-passes (is_given_as c t) tree.calls x found)).0

    old : IsBacked table x
    old = all_found (IsBacked table) (is_given_as c t) tree.calls x b found

    same_item : (k : ℕ) → is.Given (item.Call c) ≡ is.Given (item.Call k) → k ≡ c
    same_item k e = cc

    other : (r : Call) → IsBacked table r → (r.number ≡ x.number → ⊥) → is_served_by t r ≡ false
    other r k n = not_served table t (ap is_outside given) r (λ e. n (same_item r.number (sym given ∙ e) ∙ sym its_number)) k

    pub call_failed : AreBacked table (fail_call tree c t).calls
    call_failed =
        all_changed (IsBacked table) (IsBacked table) (is_given_as c t) (without_arguments_at (stage.Ended EMFILE)) x
        (record { calling = old.calling; served = tt; abandoned = λ a. refl }) (λ r k n. k) tree.calls 0 tree.made up found b

    pub failed_serves_not : find (is_served_by t) (fail_call tree c t).calls ≡ None
    failed_serves_not =
        find_none (is_served_by t) (fail_call tree c t).calls
        (all_changed (IsBacked table) (λ r. is_served_by t r ≡ false) (is_given_as c t) (without_arguments_at (stage.Ended EMFILE)) x
        (grind (arith, nat_tests)) other tree.calls 0 tree.made up found b)

    -- whatever the thread turns to
    pub failed_turns : (f : Thread → Thread) → AreBacked (change_thread table t f) (fail_call tree c t).calls
    failed_turns f =
        free_turns table (change_thread table t f) t (changed_elsewhere table t f) (fail_call tree c t).calls call_failed
        (waits_not table t (fail_call tree c t).calls call_failed calm) failed_serves_not

    pub call_entered : AreBacked (enter_thread table t (item.Call c)) (enter_call tree c t).calls
    call_entered =
        all_changed (IsBacked table) (IsBacked (enter_thread table t (item.Call c))) (is_given_as c t) (without_arguments_at (stage.Entered (tid t))) x here
        (λ r k n. backed_elsewhere table (enter_thread table t (item.Call c)) t elsewhere r k (not_called table t calm r k) (other r k n)) tree.calls 0 tree.made up found b
      where
        elsewhere : (v : ℕ) → (v ≡ t → ⊥) → thread_at (enter_thread table t (item.Call c)) v ≡ thread_at table v
        elsewhere = changed_elsewhere table t (thread_in_invocation (item.Call c))

        at : (y : Thread) × (thread_at (enter_thread table t (item.Call c)) t ≡ Some (thread_in_invocation (item.Call c) y))
        at =
            let y = there table t (ap is_done given) in
            (y.0, changed_here table t (thread_in_invocation (item.Call c)) ∙ ap (option_map (thread_in_invocation (item.Call c))) y.1)

        open_given : (s : CallStage) → is_given_to t s ≡ true → is_to_collect s ≡ false
        open_given s e = grind (arith, nat_tests)

        here : IsBacked (enter_thread table t (item.Call c)) (without_arguments_at (stage.Entered (tid t)) x)
        here =
            let passes = number_of c (is_given_to t x.stage) x (find-passes (is_given_as c t) tree.calls x found) in
            let n = not_abandoned x.stage x.abandoned old.abandoned (open_given x.stage passes.1) in
            let e = either (x.caller.0 == t) (λ e.
            let h = subst (λ k. state_in (thread_at table k) ≡ is.Calling x.number) (is_number x.caller.0 t e) old.calling in
            let m : true ≡ false = sym (ap is_calling h) ∙ calm in absurd cc) in
            record {
              calling = ap state_in (elsewhere x.caller.0 (λ h. let m : true ≡ false = sym (number_is x.caller.0 t h) ∙ e in absurd cc)) ∙ old.calling;
              served = (ap (λ o. item_in (invocation_in o)) at.1 ∙ ap (λ k. Some (item.Call k)) (sym its_number), ap (λ o. is_outside (state_in o)) at.1);
              abandoned = λ a. let m : true ≡ false = sym a ∙ n in absurd cc;
            }

  -- a thread returns
  pub call_returned : (t : ℕ) (bytes : List ℕ) (objects : List Obj) → AreBacked table (return_call tree t bytes objects).calls
  call_returned t bytes objects = go (find (is_client_call_of t) tree.calls) refl
    where
      change : Call → Call
      change = without_arguments_at (stage.Returned bytes objects)

      go : (o : Option Call) → find (is_client_call_of t) tree.calls ≡ o → AreBacked table (return_call tree t bytes objects).calls
      go None e = subst (AreBacked table) (sym (change_first-none (is_client_call_of t) change tree.calls e)) b
      go (Some x) e =
          let old = all_found (IsBacked table) (is_client_call_of t) tree.calls x b e in
          all_changed (IsBacked table) (IsBacked table) (is_client_call_of t) change x
          (record { calling = old.calling; served = tt; abandoned = λ a. refl }) (λ r k n. k) tree.calls 0 tree.made up e b

  module _ (t : ℕ) (running : is_running_state (state_in (thread_at table t)) ≡ true) where
    -- what a thread that runs serves, it has entered
    served_entered : (r : Call) (s : CallStage) → r.stage ≡ s → IsBacked table r → IsServedAt table r.number s → is_served_by t r ≡ true → (is_client_call_of t r ≡ true) × (item_in (invocation_in (thread_at table t)) ≡ Some (item.Call r.number))
    served_entered r (stage.Given u) e k h q =
        let at : (u.0 == t) ≡ true = grind (arith, nat_tests) in
        let g = subst (λ v. state_in (thread_at table v) ≡ is.Given (item.Call r.number)) (is_number u.0 t at) h in
        let n : true ≡ false = sym (ap is_given_item g) ∙ (running_so _ running).2 in absurd cc
    served_entered r (stage.Entered u) e k h q =
        let at : (u.0 == t) ≡ true = grind (arith, nat_tests) in
        (grind (arith, nat_tests), subst (λ v. item_in (invocation_in (thread_at table v)) ≡ Some (item.Call r.number)) (is_number u.0 t at) h.0)
    served_entered r stage.Queued e k h q = absurd (grind (arith, nat_tests))
    served_entered r (stage.Returned bytes objects) e k h q = absurd (grind (arith, nat_tests))
    served_entered r (stage.Ended x) e k h q = absurd (grind (arith, nat_tests))
    served_entered r (stage.Answered n) e k h q = absurd (grind (arith, nat_tests))
    served_entered r stage.Gone e k h q = absurd (grind (arith, nat_tests))

    one_item : (c k : ℕ) → Some (item.Call c) ≡ Some (item.Call k) → c ≡ k
    one_item c k e = cc

    client_served : (r : Call) (s : CallStage) → r.stage ≡ s → is_client_call_of t r ≡ true → is_served_by t r ≡ true
    client_served r s e h = grind (arith, nat_tests)

    pub returned_serves_not : (bytes : List ℕ) (objects : List Obj) → find (is_served_by t) (return_call tree t bytes objects).calls ≡ None
    returned_serves_not bytes objects = go (find (is_client_call_of t) tree.calls) refl
      where
        change : Call → Call
        change = without_arguments_at (stage.Returned bytes objects)

        go : (o : Option Call) → find (is_client_call_of t) tree.calls ≡ o → find (is_served_by t) (return_call tree t bytes objects).calls ≡ None
        go None e =
            subst (λ rs. find (is_served_by t) rs ≡ None) (sym (change_first-none (is_client_call_of t) change tree.calls e))
            (find_none (is_served_by t) tree.calls
            (all_goes (λ r. IsBacked table r × (is_client_call_of t r ≡ false)) (λ r. is_served_by t r ≡ false)
            (λ r k. either (is_served_by t r) (λ q. let n : true ≡ false = sym (served_entered r r.stage refl k.0 k.0.served q).0 ∙ k.1 in absurd cc)) tree.calls
            (all_both (IsBacked table) (λ r. is_client_call_of t r ≡ false) tree.calls b (none_passes (is_client_call_of t) tree.calls e))))
        go (Some x) e =
            let old = all_found (IsBacked table) (is_client_call_of t) tree.calls x b e in
            let his = (served_entered x x.stage refl old old.served (client_served x x.stage refl (find-passes (is_client_call_of t) tree.calls x e))).1 in
            find_none (is_served_by t) (return_call tree t bytes objects).calls
            (all_changed (IsBacked table) (λ r. is_served_by t r ≡ false) (is_client_call_of t) change x
            (grind (arith, nat_tests))
            (λ r k n. either (is_served_by t r) (λ q. n (one_item r.number x.number (sym (served_entered r r.stage refl k k.served q).1 ∙ his)))) tree.calls 0 tree.made up e b)

    -- whatever the thread turns to
    pub returned_turns : (bytes : List ℕ) (objects : List Obj) (f : Thread → Thread) → AreBacked (change_thread table t f) (return_call tree t bytes objects).calls
    returned_turns bytes objects f =
        free_turns table (change_thread table t f) t (changed_elsewhere table t f) (return_call tree t bytes objects).calls (call_returned t bytes objects)
        (waits_not table t (return_call tree t bytes objects).calls (call_returned t bytes objects) (running_so _ running).0) (returned_serves_not bytes objects)

  -- a caller collects its call
  pub call_collected :
      (c t at : ℕ) → state_in (thread_at table t) ≡ is.Calling c → (x : Call) → find (is_to_collect_as c) tree.calls ≡ Some x →
      AreBacked (set_thread_state table t is.Running) (live_calls (collect_call tree c at)).calls
  call_collected c t at calls x found =
      all_filter (IsBacked after) is_live_call (collect_call tree c at).calls
      (all_changed (IsBacked table) (λ r. is_live_call r ≡ true → IsBacked after r) (is_to_collect_as c) (without_arguments_at (stage.Answered at)) x
      (λ live. absurd cc) others tree.calls 0 tree.made up found b)
    where
      after : ProcessTable
      after = set_thread_state table t is.Running

      f : Thread → Thread
      f = thread_at_state is.Running

      y : (z : Thread) × (thread_at table t ≡ Some z)
      y = there table t (ap is_done calls)

      here : thread_at (set_thread_state table t is.Running) t ≡ Some (f y.0)
      here = changed_here table t f ∙ ap (option_map f) y.1

      same_call : (k : ℕ) → is.Calling c ≡ is.Calling k → k ≡ c
      same_call k e = cc

      others : (r : Call) → IsBacked table r → (r.number ≡ x.number → ⊥) → is_live_call r ≡ true → IsBacked (set_thread_state table t is.Running) r
      others r k n live =
          backed_on table (set_thread_state table t is.Running) t (changed_elsewhere table t f) (ap is_given_item calls)
          (ap (λ o. item_in (invocation_in o)) here ∙ ap (λ o. item_in (invocation_in o)) (sym y.1)) (ap (λ o. is_outside (state_in o)) here) r k
          (either (is_called_by t r) (λ e.
          let h = subst (λ v. state_in (thread_at table v) ≡ is.Calling r.number) (is_number r.caller.0 t e) k.calling in
          n (same_call r.number (sym calls ∙ h) ∙ sym (number_of c (is_to_collect x.stage) x (find-passes (is_to_collect_as c) tree.calls x found)).0)))

  -- another thread
  pub thread_added : (y : Thread) → AreBacked (record table { threads = table.threads ++ y ∷ [] }) tree.calls
  thread_added y =
      free_turns table (record table { threads = table.threads ++ y ∷ [] }) t elsewhere tree.calls b
      (waits_not table t tree.calls b (ap (λ o. is_calling (state_in o)) none))
      (serves_not table t tree.calls b (ap (λ o. is_outside (state_in o)) none) (λ c e. absurd (done_not_given c (sym (ap state_in none) ∙ e))))
    where
      t : ℕ
      t = suc (length table.threads)

      none : thread_at table (suc (length table.threads)) ≡ None
      none = numbered_past table.threads (suc (length table.threads)) (omega arith)

      done_not_given : (c : ℕ) → is.Done ≡ is.Given (item.Call c) → ⊥
      done_not_given c e = absurd cc

      elsewhere : (u : ℕ) → (u ≡ suc (length table.threads) → ⊥) → at_number (table.threads ++ y ∷ []) u ≡ at_number table.threads u
      elsewhere u n =
          let e : (u == suc (length table.threads)) ≡ false = either (u == suc (length table.threads)) (λ e. n (is_number u (suc (length table.threads)) e)) in
          at_number-push table.threads y u ∙ ap (λ q. if q then Some y else at_number table.threads u) e

  -- a table with the same threads, of whatever processes
  pub processes_changed : (processes : List Process) → AreBacked (record table { processes = processes }) tree.calls
  processes_changed processes =
      all_goes (IsBacked table) (IsBacked (record table { processes = processes }))
      (λ r k. record { calling = k.calling; served = at r r.stage k.served; abandoned = k.abandoned }) tree.calls b
    where
      at : (r : Call) (s : CallStage) → IsServedAt table r.number s → IsServedAt (record table { processes = processes }) r.number s
      at r (stage.Given u) h = h
      at r (stage.Entered u) h = h
      at r _ h = tt

  -- the end of a process
  pub process_ended : (p : ℕ) → AreBacked (end_process table p) tree.calls
  process_ended p = go (at_number table.processes p)
    where
      go : (o : Option Process) → AreBacked (with_ended table p o) tree.calls
      go None = b
      go (Some z) = processes_changed _
