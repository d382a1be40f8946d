-- A kernel without a process can be left: nothing waits, and nobody is parked.
use Rattle.std.proofs.Common.{◌≡◌, ℕ, zero, suc, List, [], Option, Some, None, slice_get, refl, sym, ap, ◌∙◌}
use Rattle.std.specs.Prelude.{replicate}
use Rattle.dk_base.specs.ByNumber.{at_number}
use Rattle.dk_base.specs.declared.limits.TheConstants.{THREADS_MAX}
use Rattle.spec_records.specs.Words.{bound_at, bound_in, parked_at, parked_thread}
use Rattle.spec_records.proofs.Lists.{at_number-suc}
use Rattle.spec_kernel.specs.Types.{Parked}
use Rattle.call_tree.specs.Words.{CallsValue}
use Rattle.server_pool.specs.Words.{no_pools}
use Rattle.law_pools.proofs.Starting.{agrees_none}
use Rattle.exit_paths.specs.Words.{CanExit}

nothing_at : {X : Type 0} (k : ℕ) (x : X) → at_number [] k ≡ Some x → ⊥
nothing_at zero x e = cc
nothing_at (suc k) x e = let f : None ≡ Some x = sym (at_number-suc [] k) ∙ e in cc

unbound : (n t d : ℕ) → bound_at (replicate n None) t ≡ Some d → ⊥
unbound n zero d e = cc
unbound n (suc t) d e = go n t (sym (ap bound_in (at_number-suc (replicate n None) t)) ∙ e)
  where
    go : (m k : ℕ) → bound_in (slice_get (replicate m None) k) ≡ Some d → ⊥
    go zero k f = cc
    go (suc m) zero f = cc
    go (suc m) (suc k) f = go m k f

none_parked : (bindings : List (Option ℕ)) (t : ℕ) (x : Parked) → parked_at (record { processes = []; threads = [] }) bindings t ≡ Some x → ⊥
none_parked bindings t x e = go (at_number [] t) refl e
  where
    go : (o : Option _) → at_number [] t ≡ o → parked_thread bindings t o ≡ Some x → ⊥
    go None f g = cc
    go (Some y) f g = nothing_at t y f

pub can_exit_first : (calls : CallsValue) → calls.tree ≡ record { made = 0; calls = [] } → CanExit 0 [] (record { procs = record { processes = []; threads = [] }; calls = calls; pools = no_pools })
can_exit_first calls e =
    record {
      list = record { made = 0; notices = [] };
      agreed = rw e agrees_none;
      placed =
          rw e
          (record {
            thread_number = λ t x f. absurd (nothing_at t x f);
            process_there = λ t x f. absurd (nothing_at t x f);
            owner_there = λ d x f v. absurd (nothing_at d x f);
            door_number = λ d x f. absurd (nothing_at d x f);
            bound_private = λ t d f g. absurd (unbound THREADS_MAX t d f);
            bound_own = λ t d f g. absurd (unbound THREADS_MAX t d f);
            given_not_lost = λ i r u f g. cc;
            queued_door = λ i r f q. cc;
            notice_door = λ i n f. cc;
          });
      earlier = λ t x f. absurd (none_parked no_pools.bindings t x f);
    }
