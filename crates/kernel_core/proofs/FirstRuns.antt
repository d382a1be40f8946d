-- The first thread of a child that begins runs, and it alone is bound anew.
use Rattle.std.proofs.Common.{◌≡◌, ◌⊎◌, inl, inr, ℕ, suc, ◌+◌, ◌==◌, Bool, true, false, if◌then◌else◌, Option, None, Some, get_or, is_some, option_map, refl, ap, ◌∙◌, arith}
use Rattle.std.proofs.lemmas.Bool.Decides.{nat_tests}
use Rattle.std.proofs.lemmas.List.Quantifiers.{position-Some}
use Rattle.std.proofs.lemmas.Option.{slice_get-get_or}
use Rattle.dk_base.specs.ByNumber.{at_number}
use Rattle.spec_records.specs.declared.pool.TheConstants.{LOST_DOOR}
use Rattle.spec_records.specs.declared.record.ThreadState.TheVariants as is
use Rattle.spec_records.specs.Words.{Leaving, begun_thread, bound_at, first_place, forking, is_first_of, left_thread_of, new_thread, state_in, thread_at_state}
use Rattle.spec_records.proofs.Lists.{at_number-map, at_number-suc, at_number-with_at_number}
use Rattle.spec_kernel.specs.Leaving.{bind_first}
use Rattle.spec_kernel.specs.Types.{Thread}
use Rattle.spec_kernel.specs.Words.{State, bound_of, fork, leave, now, state_of, thread_of}
use Rattle.spec_kernel.proofs.Threads.{left_thread_of-same, thread_at-begin_process}

module _ (m : State) (t p child : ℕ) where
  abbrev n : State
  n = (fork m t p child).state

  first_runs : (i : ℕ) → first_place m.process_table child ≡ Some i → state_of n (i + 1) ≡ is.Running
  first_runs i e =
      let h = position-Some (is_first_of child) m.process_table.threads i (new_thread 0 0 true) e in
      let there : thread_of m (i + 1) ≡ Some x =
      ap (at_number m.process_table.threads) next ∙ at_number-suc m.process_table.threads i ∙ slice_get-get_or m.process_table.threads i (new_thread 0 0 true) h.0 in
      let first : is_first_of child (left x) ≡ true = left_thread_of-same (is_first_of child) (λ v s y. refl) who (now m) m.call_tree.calls x ∙ h.1 in
      ap state_in
      (thread_at-begin_process (leave m who).process_table child (i + 1)
      ∙ ap (option_map (begun_thread child)) (at_number-map left m.process_table.threads (i + 1) ∙ ap (option_map left) there))
      ∙ ap (λ b. (if b then thread_at_state is.Running (left x) else left x).state) first
    where
      x : Thread
      x = get_or m.process_table.threads i (new_thread 0 0 true)

      who : Leaving
      who = forking m.process_table t

      left : Thread → Thread
      left y = left_thread_of who (now m) m.call_tree.calls y

      next : i + 1 ≡ suc i
      next = omega arith

  -- a thread is bound as before, or it runs
  pub bound_or_runs : (u : ℕ) → (bound_of n u ≡ bound_of m u) ⊎ (state_of n u ≡ is.Running)
  bound_or_runs u = go (is_some (bound_of m t))
    where
      at_first : (o : Option ℕ) → first_place m.process_table child ≡ o → (bound_at (bind_first m.bindings o) u ≡ bound_of m u) ⊎ (state_of n u ≡ is.Running)
      at_first None e = inl refl
      at_first (Some i) e = by_place (u == i + 1) refl
        where
          by_place : (b : Bool) → (u == i + 1) ≡ b → (bound_at (bind_first m.bindings (Some i)) u ≡ bound_of m u) ⊎ (state_of n u ≡ is.Running)
          by_place true f = let here : u ≡ i + 1 = grind (arith, nat_tests) in inr (ap (state_of n) here ∙ first_runs i e)
          by_place false f = inl (grind (arith, nat_tests, f, at_number-with_at_number m.bindings (i + 1) u (Some LOST_DOOR)))

      go :
          (b : Bool) →
          (bound_at (if b then bind_first m.bindings (first_place m.process_table child) else m.bindings) u ≡ bound_of m u) ⊎ (state_of n u ≡ is.Running)
      go true = at_first (first_place m.process_table child) refl
      go false = inl refl
