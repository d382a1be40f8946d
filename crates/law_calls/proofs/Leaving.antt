-- Where callers, threads and doors leave, what calls say of threads is kept.
use Rattle.std.proofs.Common.{◌≡◌, ℕ, ◌==◌, ◌||◌, Bool, true, false, Option, Some, None, find, if◌then◌else◌, map, option_map, refl, sym, subst, ap, ◌∙◌, arith}
use Rattle.std.proofs.lemmas.Bool.Decides.{nat_tests}
use Rattle.dk_base.specs.declared.error.Errno.TheVariants.{EBADF, EINTR}
use Rattle.dk_base.specs.declared.number.Tid.{Tid}
use Rattle.dk_base.specs.declared.object.Item.TheVariants as item
use Rattle.spec_records.proofs.Lists.{at_number-map}
use Rattle.spec_records.proofs.NumberedLists.{find-passes}
use Rattle.spec_records.specs.declared.record.CallStage.TheVariants as stage
use Rattle.spec_records.specs.declared.record.ThreadState.TheVariants as is
use Rattle.spec_records.specs.Words.{CallTree, Leaving, ProcessTable, abandoned_at, broken_call_at, deserted_at, deserted_in, ended_thread, ended_where, gone_call_at, interrupted_state, interrupted_where, invocation_in, is_calling, is_done, is_left, is_live_call, is_served_by, is_to_collect, left_call, left_calls, left_thread_of, left_threads, live_calls, state_in, thread_at, without_arguments_at}
use Rattle.spec_kernel.specs.Types.{Call, CallStage, Thread, ThreadState}
use Rattle.call_tree.specs.Words.{AreSound, is_call}
use Rattle.law_states.specs.Core.{is_outside}
use Rattle.law_states.specs.Records.{item_in}
use Rattle.law_calls.specs.Backed.{AreBacked, IsBacked, IsServedAt}
use Rattle.law_calls.proofs.Alls.{all_both, all_filter, all_found, all_map, all_numbered}
use Rattle.law_calls.proofs.Free.{either, is_number, there}

-- a call whose caller ends is no longer live
gone_dead : (s : CallStage) (r : Call) → r.stage ≡ s → is_live_call (gone_call_at s r) ≡ false
gone_dead s r e = grind (arith, nat_tests)

or_false : (a b : Bool) → (a || b) ≡ false → (a ≡ false) × (b ≡ false)
or_false true b e = absurd cc
or_false false b e = (refl, e)

interrupted_outside : (b : Bool) (x : Thread) → is_outside (interrupted_where b x).state ≡ is_outside x.state
interrupted_outside false x = refl
interrupted_outside true x = at x.state
  where
    at : (s : ThreadState) → is_outside (interrupted_state s) ≡ is_outside s
    at s = grind (arith, nat_tests)

interrupted_item : (b : Bool) (x : Thread) → (interrupted_where b x).invocation ≡ x.invocation
interrupted_item false x = refl
interrupted_item true x = refl

interrupted_alike : (b : Bool) (x : Thread) (s : ThreadState) → interrupted_state s ≡ s → x.state ≡ s → (interrupted_where b x).state ≡ s
interrupted_alike false x s k e = e
interrupted_alike true x s k e = ap interrupted_state e ∙ k

-- a caller that leaves does not park a thread that it finds Calling
deserted_calling :
    (now : ℕ) (no_cancel : Bool) (s : CallStage) (x : Thread) (n : ℕ) → x.state ≡ is.Calling n → ((u : Tid) → s ≡ stage.Given u → ⊥) → (deserted_at now no_cancel s x).state ≡ is.Calling n
deserted_calling now no_cancel (stage.Given u) x n e h = absurd (h u refl)
deserted_calling now true (stage.Entered u) x n e h = e
deserted_calling now false (stage.Entered u) x n e h = e
deserted_calling now no_cancel stage.Queued x n e h = e
deserted_calling now no_cancel (stage.Returned bytes objects) x n e h = e
deserted_calling now no_cancel (stage.Ended y) x n e h = e
deserted_calling now no_cancel (stage.Answered k) x n e h = e
deserted_calling now no_cancel stage.Gone x n e h = e

module _ (table : ProcessTable) (tree : CallTree) (sound : AreSound tree) (b : AreBacked table tree.calls) (numbered : (t : ℕ) (x : Thread) → thread_at table t ≡ Some x → x.number ≡ t) (who : Leaving) (now : ℕ) where
  abbrev after : ProcessTable
  after = left_threads who now tree.calls table

  -- a thread that does not end
  stays : (u : ℕ) (x : Thread) → thread_at table u ≡ Some x → who.ends u ≡ false → thread_at after u ≡ Some (deserted_in who now (find (is_served_by u) tree.calls) (interrupted_where (who.interrupts u) x))
  stays u x e k =
      at_number-map (left_thread_of who now tree.calls) table.threads u ∙ ap (option_map (left_thread_of who now tree.calls)) e
      ∙ ap (λ n. Some (if who.ends n then ended_thread x else deserted_in who now (find (is_served_by n) tree.calls) (interrupted_where (who.interrupts n) x))) (numbered u x e)
      ∙ ap (λ q. Some (if q then ended_thread x else deserted_in who now (find (is_served_by u) tree.calls) (interrupted_where (who.interrupts u) x))) k

  -- a caller
  caller_stays : (u n : ℕ) → who.ends u ≡ false → state_in (thread_at table u) ≡ is.Calling n → state_in (thread_at after u) ≡ is.Calling n
  caller_stays u n k calls =
      ap state_in (stays u x.0 x.1 k) ∙ deserted (find (is_served_by u) tree.calls) refl
    where
      x : (y : Thread) × (thread_at table u ≡ Some y)
      x = there table u (ap is_done calls)

      z : Thread
      z = interrupted_where (who.interrupts u) x.0

      calling : z.state ≡ is.Calling n
      calling = interrupted_alike (who.interrupts u) x.0 (is.Calling n) refl (ap state_in (sym x.1) ∙ calls)

      not_given : (q : Call) → find (is_served_by u) tree.calls ≡ Some q → (v : Tid) → q.stage ≡ stage.Given v → ⊥
      not_given q e v g =
          let old = all_found (IsBacked table) (is_served_by u) tree.calls q b e in
          let p = find-passes (is_served_by u) tree.calls q e in
          let at : (v.0 == u) ≡ true = grind (arith, nat_tests, p, g) in
          let h : state_in (thread_at table v.0) ≡ is.Given (item.Call q.number) = subst (IsServedAt table q.number) g old.served in
          let f : is.Calling n ≡ is.Given (item.Call q.number) = sym calls ∙ subst (λ k. state_in (thread_at table k) ≡ is.Given (item.Call q.number)) (is_number v.0 u at) h in
          let m : true ≡ false = ap is_calling f in absurd cc

      deserted : (o : Option Call) → find (is_served_by u) tree.calls ≡ o → (deserted_in who now o z).state ≡ is.Calling n
      deserted None e = calling
      deserted (Some q) e = go (is_left who q)
        where
          go : (c : Bool) → (if c then deserted_at now q.no_cancel q.stage z else z).state ≡ is.Calling n
          go true = deserted_calling now q.no_cancel q.stage z n calling (not_given q e)
          go false = calling

  -- the thread that serves a call which its caller does not leave
  server_stays :
      (u : ℕ) (r : Call) (x : Thread) → thread_at table u ≡ Some x → who.ends u ≡ false → find (is_served_by u) tree.calls ≡ Some r → is_left who r ≡ false →
      thread_at after u ≡ Some (interrupted_where (who.interrupts u) x)
  server_stays u r x e k found left =
      stays u x e k ∙ ap (λ o. Some (deserted_in who now o (interrupted_where (who.interrupts u) x))) found
      ∙ ap (λ c. Some (if c then deserted_at now r.no_cancel r.stage (interrupted_where (who.interrupts u) x) else interrupted_where (who.interrupts u) x)) left

  given_stays :
      (u : Tid) (r : Call) → who.ends u.0 ≡ false → find (is_served_by u.0) tree.calls ≡ Some r → is_left who r ≡ false →
      IsServedAt table r.number (stage.Given u) → IsServedAt after r.number (stage.Given u)
  given_stays u r k found left h =
      let x = there table u.0 (ap is_done h) in
      ap state_in (server_stays u.0 r x.0 x.1 k found left)
      ∙ interrupted_alike (who.interrupts u.0) x.0 (is.Given (item.Call r.number)) refl (ap state_in (sym x.1) ∙ h)

  inside_there : (s : ThreadState) → is_outside s ≡ false → is_done s ≡ false
  inside_there s e = grind (arith, nat_tests)

  entered_stays :
      (u : Tid) (r : Call) → who.ends u.0 ≡ false → find (is_served_by u.0) tree.calls ≡ Some r → is_left who r ≡ false →
      IsServedAt table r.number (stage.Entered u) → IsServedAt after r.number (stage.Entered u)
  entered_stays u r k found left h =
      let x = there table u.0 (inside_there _ h.1) in
      let same = server_stays u.0 r x.0 x.1 k found left in (
        ap (λ o. item_in (invocation_in o)) same ∙ ap item_in (interrupted_item (who.interrupts u.0) x.0) ∙ ap (λ o. item_in (invocation_in o)) (sym x.1) ∙ h.0,
        ap (λ o. is_outside (state_in o)) same ∙ interrupted_outside (who.interrupts u.0) x.0 ∙ ap (λ o. is_outside (state_in o)) (sym x.1) ∙ h.1,
      )

  -- a call whose caller does not end
  module _ (r : Call) (old : IsBacked table r) (found : find (is_call r.number) tree.calls ≡ Some r) (stays_caller : who.ends r.caller.0 ≡ false) where
    is_his : (u : ℕ) → is_served_by u r ≡ true → find (is_served_by u) tree.calls ≡ Some r
    is_his u e = sound.server (is_call r.number) r u found e

    not_left : who.interrupts r.caller.0 ≡ false → is_left who r ≡ false
    not_left e = ap (λ a. a || who.interrupts r.caller.0) stays_caller ∙ e

    abandons : (s : CallStage) → (r.abandoned ≡ true → is_to_collect s ≡ true) → is_to_collect s ≡ false → r.abandoned ≡ false
    abandons s k n = either r.abandoned (λ a. let m : true ≡ false = sym (k a) ∙ n in absurd cc)

    pub broken :
        (s : CallStage) → r.stage ≡ s → IsServedAt table r.number s → (r.abandoned ≡ true → is_to_collect s ≡ true) →
        IsServedAt after r.number (broken_call_at who s r).stage × ((broken_call_at who s r).abandoned ≡ true → is_to_collect (broken_call_at who s r).stage ≡ true)
    broken stage.Queued e h k = go (who.interrupts r.caller.0) (who.loses r.door)
      where
        go :
            (i l : Bool) →
            IsServedAt after r.number (if i then without_arguments_at (stage.Ended EINTR) r else ended_where l EBADF r).stage
            × ((if i then without_arguments_at (stage.Ended EINTR) r else ended_where l EBADF r).abandoned ≡ true
            → is_to_collect (if i then without_arguments_at (stage.Ended EINTR) r else ended_where l EBADF r).stage ≡ true)
        go true l = (tt, λ a. refl)
        go false true = (tt, λ a. refl)
        go false false = (subst (IsServedAt after r.number) (sym e) tt, old.abandoned)
    broken (stage.Given u) e h k = go (who.interrupts r.caller.0 || who.ends u.0) refl
      where
        go :
            (i : Bool) → (who.interrupts r.caller.0 || who.ends u.0) ≡ i →
            IsServedAt after r.number (ended_where i EINTR r).stage × ((ended_where i EINTR r).abandoned ≡ true → is_to_collect (ended_where i EINTR r).stage ≡ true)
        go true q = (tt, λ a. refl)
        go false q =
            let w = or_false (who.interrupts r.caller.0) (who.ends u.0) q in
            let n = abandons (stage.Given u) k refl in
            (subst (IsServedAt after r.number) (sym e) (given_stays u r w.1 (is_his u.0 (grind (arith, nat_tests, e, n))) (not_left w.0) h), old.abandoned)
    broken (stage.Entered u) e h k = go (who.interrupts r.caller.0) (who.ends u.0) refl refl
      where
        go :
            (i l : Bool) → who.interrupts r.caller.0 ≡ i → who.ends u.0 ≡ l →
            IsServedAt after r.number (if i then abandoned_at (stage.Ended EINTR) r else ended_where l EINTR r).stage
            × ((if i then abandoned_at (stage.Ended EINTR) r else ended_where l EINTR r).abandoned ≡ true
            → is_to_collect (if i then abandoned_at (stage.Ended EINTR) r else ended_where l EINTR r).stage ≡ true)
        go true l p q = (tt, λ a. refl)
        go false true p q = (tt, λ a. refl)
        go false false p q =
            let n = abandons (stage.Entered u) k refl in
            (subst (IsServedAt after r.number) (sym e) (entered_stays u r q (is_his u.0 (grind (arith, nat_tests, e, n))) (not_left p) h), old.abandoned)
    broken (stage.Returned bytes objects) e h k = (subst (IsServedAt after r.number) (sym e) tt, old.abandoned)
    broken (stage.Ended x) e h k = (subst (IsServedAt after r.number) (sym e) tt, old.abandoned)
    broken (stage.Answered x) e h k = (subst (IsServedAt after r.number) (sym e) tt, old.abandoned)
    broken stage.Gone e h k = (subst (IsServedAt after r.number) (sym e) tt, old.abandoned)

  broken_keeps : (s : CallStage) (r : Call) → ((broken_call_at who s r).caller.0 ≡ r.caller.0) × ((broken_call_at who s r).number ≡ r.number)
  broken_keeps s r = (grind (arith, nat_tests), grind (arith, nat_tests))

  left_backed : (r : Call) → IsBacked table r × (find (is_call r.number) tree.calls ≡ Some r) → is_live_call (left_call who r) ≡ true → IsBacked after (left_call who r)
  left_backed r h = go (who.ends r.caller.0) refl
    where
      go :
          (c : Bool) → who.ends r.caller.0 ≡ c → is_live_call (if c then gone_call_at r.stage r else broken_call_at who r.stage r) ≡ true →
          IsBacked after (if c then gone_call_at r.stage r else broken_call_at who r.stage r)
      go true e live = let n : true ≡ false = sym live ∙ gone_dead r.stage r refl in absurd cc
      go false e live =
          let w = broken r h.0 h.1 e r.stage refl h.0.served h.0.abandoned in
          let k = broken_keeps r.stage r in
          record {
            calling = ap (λ n. state_in (thread_at after n)) k.0 ∙ caller_stays r.caller.0 r.number e h.0.calling ∙ ap is.Calling (sym k.1);
            served = subst (λ n. IsServedAt after n (broken_call_at who r.stage r).stage) (sym k.1) w.0;
            abandoned = w.1;
          }

  pub calls_left : AreBacked (left_threads who now tree.calls table) (live_calls (left_calls who tree)).calls
  calls_left =
      all_filter (IsBacked after) is_live_call (map (left_call who) tree.calls)
      (all_map (λ r. IsBacked table r × (find (is_call r.number) tree.calls ≡ Some r)) (λ r. is_live_call r ≡ true → IsBacked after r) (left_call who) left_backed tree.calls
      (all_both (IsBacked table) (λ r. find (is_call r.number) tree.calls ≡ Some r) tree.calls b (all_numbered tree.calls 0 tree.made sound.ascending)))
