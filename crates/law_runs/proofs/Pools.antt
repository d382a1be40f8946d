-- No pool has both an idle thread and what waits.
use Rattle.std.specs.Prelude.{ℕ, ◌≡◌, ◌==◌, ◌⊎◌, ◌∷◌, [], List, Option, Bool, true, false, if◌then◌else◌, Some, None, All, find}
use Rattle.std.proofs.Common.{refl, sym, ap, subst, ◌∙◌, inl, inr}
use native.Mathlib.Omega.{arith}
use Rattle.std.proofs.lemmas.Bool.{false≢true}
use Rattle.std.proofs.lemmas.Bool.Decides.{nat_tests}
use Rattle.std.proofs.lemmas.List.Elements.{All-head, All-tail}
use Rattle.spec_kernel.specs.Types.{Door, Thread}
use Rattle.spec_records.specs.declared.pool.Pool.TheVariants.{Common, Private}
use Rattle.spec_records.specs.declared.pool.TheConstants.{LOST_DOOR}
use Rattle.spec_records.specs.Words.{is_pool, is_queued, is_waiting_stage, parked_in, parked_thread, pool_in, pool_of_thread, process_in, state_in, tid, waiting_call, waiting_notice}
use Rattle.spec_kernel.specs.Words.{State, bound_of, door_of, pick, pool_of, thread_of, waiting_items}
use Rattle.spec_kernel.proofs.Giving.{none_idle}
use Rattle.spec_kernel.proofs.Places.{IsIn}
use Rattle.spec_kernel.proofs.Waits.{in_waits, in_waits-notice}
use Rattle.law_states.specs.Invariant.{Invariant}
use Rattle.law_states.specs.Records.{has_notice_number, has_number, owner_in}
use Rattle.law_places.specs.Counts.{has_own_pool}
use Rattle.law_runs.specs.Pools.{HasNoneIdle, IsBoundToLost, IsBoundToOwn, WaitsAt}
use Rattle.law_places.specs.Places.{MayServe}
use Rattle.law_places.proofs.Counts.{private_is}
use Rattle.law_runs.proofs.Parked.{IsThread, is_thread}

found_in : {X : Type 0} (test : X → Bool) (xs : List X) (x : X) → find test xs ≡ Some x → IsIn x xs
found_in test [] x e = absurd (cc e)
found_in test (y ∷ ys) x e = go (test y) e (found_in test ys x)
  where
    go : (b : Bool) → (if b then Some y else find test ys) ≡ Some x → (find test ys ≡ Some x → IsIn x ys) → IsIn x (y ∷ ys)
    go true f h = inl (cc f)
    go false f h = inr (h f)

all_in : {X : Type 0} (P : X → Type 0) (xs : List X) (x : X) → All P xs → IsIn x xs → P x
all_in P [] x h k = absurd k
all_in P (y ∷ ys) x h (inl e) = subst P (sym e) (All-head P y ys h)
all_in P (y ∷ ys) x h (inr k) = all_in P ys x (All-tail P y ys h) k

-- the pool of a thread that may serve a door is the door's

bound_pool :
    (o : Option Door) (x : Thread) (b : Option ℕ) (d : ℕ) → has_own_pool o ≡ true → ((y : Door) → o ≡ Some y → y.number ≡ d) →
    b ≡ Some d → is_pool (pool_in o) (pool_of_thread x b) ≡ true
bound_pool None x b d p n e = absurd (cc p)
bound_pool (Some y) x b d p n e =
    ap (λ c. is_pool (if c then Private y.number else Common y.owner) (pool_of_thread x b)) p
    ∙ ap (λ c. is_pool (Private y.number) (pool_of_thread x c)) e
    ∙ grind (arith, nat_tests, n y refl)

unbound_pool :
    (o : Option Door) (x : Thread) (b : Option ℕ) → has_own_pool o ≡ false → owner_in o ≡ Some x.process.0 → b ≡ None →
    is_pool (pool_in o) (pool_of_thread x b) ≡ true
unbound_pool None x b p f e = absurd (cc f)
unbound_pool (Some y) x b p f e =
    ap (λ c. is_pool (if c then Private y.number else Common y.owner) (pool_of_thread x b)) p
    ∙ ap (λ c. is_pool (Common y.owner) (pool_of_thread x c)) e
    ∙ grind (arith, nat_tests, f)

module _ (m : State) (h : Invariant m) where
  same_pool :
      (t d : ℕ) (x : Thread) → thread_of m t ≡ Some x → MayServe m t d → is_pool (pool_of m d) (pool_of_thread x (bound_of m t)) ≡ true
  same_pool t d x e (MayServe.bound p b) = bound_pool (door_of m d) x (bound_of m t) d p (h.consistent.coherent.doors.door_number d) b
  same_pool t d x e (MayServe.unbound p b o) = unbound_pool (door_of m d) x (bound_of m t) p (o ∙ ap (λ z. Some (process_in z)) e) b

  -- no thread is picked for what waits
  none_picked : (d : ℕ) → WaitsAt m d → pick m (pool_of m d) ≡ None
  none_picked d (WaitsAt.by_call c r e s f) =
      ap (λ n. pick m (pool_of m n)) (sym f)
      ∙ all_in (λ w. pick m (pool_of m w.door) ≡ None) (waiting_items m) (waiting_call r) h.given_out
      (in_waits m r (ap is_queued s) (found_in (has_number c) m.call_tree.calls r e))
  none_picked d (WaitsAt.by_notice c n e s f) =
      ap (λ k. pick m (pool_of m k)) (sym f)
      ∙ all_in (λ w. pick m (pool_of m w.door) ≡ None) (waiting_items m) (waiting_notice n) h.given_out
      (in_waits-notice m n (ap is_waiting_stage s) (found_in (has_notice_number c) m.notice_list.notices n e))

  pub none_idle_in : HasNoneIdle m
  none_idle_in t d since e serves waits = go (is_thread m t (λ f. absurd (cc (sym e ∙ f))))
    where
      go : IsThread m t → ⊥
      go x =
          false≢true
          (sym
          (none_idle m (pool_of m d) t (record { thread = tid t; pool = pool_of_thread x.thread (bound_of m t); since = since })
          (none_picked d waits)
          (ap (parked_thread m.bindings t) x.there
          ∙ ap (parked_in t (pool_of_thread x.thread (bound_of m t))) (sym (ap state_in x.there) ∙ e)))
          ∙ same_pool t d x.thread x.there serves)

  pub bound_to_own : (t d : ℕ) → bound_of m t ≡ Some d → IsBoundToOwn m t d ⊎ IsBoundToLost m t d
  bound_to_own t d e = go (d == LOST_DOOR) refl
    where
      go : (b : Bool) → (d == LOST_DOOR) ≡ b → IsBoundToOwn m t d ⊎ IsBoundToLost m t d
      go false l =
          inl
          (record {
            is_private = sym (private_is (door_of m d)) ∙ h.consistent.coherent.bindings.bound_private t d e l;
            own = h.consistent.coherent.bindings.bound_own t d e l;
            valid = λ since f. h.idle_valid t d since f e;
          })
      go true l =
          let lost : d ≡ LOST_DOOR = grind (arith, nat_tests) in
          inr (record { lost = lost; not_idle = λ since f. h.consistent.coherent.bindings.idle_not_lost t since f (e ∙ ap Some lost) })
