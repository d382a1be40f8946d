-- The pick of a pool is an idle thread of the process that made the pool's door, and is bound to a door that has a pool of its own.
use Rattle.std.specs.Prelude.{ℕ, ◌≡◌, Option, true, Some, None, zero, suc, length}
use Rattle.std.proofs.Common.{refl, sym, ap, ◌∙◌}
use native.Mathlib.Omega.{arith}
use Rattle.std.proofs.lemmas.Bool.Decides.{nat_tests}
use Rattle.spec_kernel.specs.Types.{Door, Parked, Pool, Thread, ThreadState}
use Rattle.spec_records.specs.declared.record.ThreadState.TheVariants as is
use Rattle.spec_records.specs.declared.pool.Pool.TheVariants.{Common, Private}
use Rattle.spec_records.specs.Words.{better_parked, is_pool, is_valid_in, parked_at, parked_in, parked_thread, pick_among, pid, pool_in, pool_of_door, pool_of_thread}
use Rattle.spec_kernel.specs.Words.{State, bound_of, door_of, pick, pool_of, process_of, state_of, thread_of}
use Rattle.law_states.specs.Records.{owner_in}
use Rattle.law_states.specs.Core.{Core, core}
use Rattle.law_states.specs.Coherent.{IsCoherent, bound_for}

abbrev pub pool_by : ℕ → Option ℕ → Pool
pool_by p None = Common (pid p)
pool_by p (Some d) = Private d

pub record IsParked (m : State) (t : ℕ) (y : Parked) : Type 0 where
  pub thread : y.thread.0 ≡ t
  pub idle : state_of m t ≡ is.Idle y.since
  pub pool : y.pool ≡ pool_by (process_of m t) (bound_of m t)

pool_of_thread_by : (x : Thread) (b : Option ℕ) → pool_of_thread x b ≡ pool_by x.process.0 b
pool_of_thread_by x None = refl
pool_of_thread_by x (Some d) = refl

parked_in_is :
    (t : ℕ) (pool : Pool) (s : ThreadState) (y : Parked) → parked_in t pool s ≡ Some y →
    (y.thread.0 ≡ t) × (y.pool ≡ pool) × (s ≡ is.Idle y.since)
parked_in_is t pool s y e = (grind arith, grind arith, grind arith)

pub parked_is : (m : State) (t : ℕ) (y : Parked) → parked_at m.process_table m.bindings t ≡ Some y → IsParked m t y
parked_is m t y = go (thread_of m t) refl
  where
    go : (o : Option Thread) → thread_of m t ≡ o → parked_thread m.bindings t o ≡ Some y → IsParked m t y
    go None f e = grind arith
    go (Some x) f e =
        let p = parked_in_is t (pool_of_thread x (bound_of m t)) x.state y e in
        record { thread = p.0; idle = grind arith; pool = p.1 ∙ pool_of_thread_by x (bound_of m t) ∙ grind arith }

pub record IsPick (m : State) (pool : Pool) (y : Parked) : Type 0 where
  pub parked : parked_at m.process_table m.bindings y.thread.0 ≡ Some y
  pub of_pool : is_pool pool y.pool ≡ true

better_is :
    (m : State) (pool : Pool) (t : ℕ) (best : Option Parked) (y : Parked) → ((x : Parked) → best ≡ Some x → IsPick m pool x) →
    better_parked pool best (parked_at m.process_table m.bindings t) ≡ Some y → IsPick m pool y
better_is m pool t best y h e =
    record {
      parked =
          grind (arith, λ (x : Parked) (f : best ≡ Some x). (h x f).parked, λ (x : Parked) (f : parked_at m.process_table m.bindings t ≡ Some x). (parked_is m t x f).thread);
      of_pool = grind (arith, λ (x : Parked) (f : best ≡ Some x). (h x f).of_pool);
    }

pick_among_is : (m : State) (pool : Pool) (n : ℕ) (y : Parked) → pick_among m.process_table m.bindings pool n ≡ Some y → IsPick m pool y
pick_among_is m pool zero y e = grind arith
pick_among_is m pool (suc n) y e = better_is m pool (suc n) (pick_among m.process_table m.bindings pool n) y (λ x f. pick_among_is m pool n x f) e

pub pick_is : (m : State) (pool : Pool) (y : Parked) → pick m pool ≡ Some y → IsPick m pool y
pick_is m pool y e = pick_among_is m pool (length m.process_table.threads) y e

owner_of_pick :
    (k : Core) (d t : ℕ) (x : Door) (b : Option ℕ) → IsCoherent k → k.door d ≡ Some x → k.bound t ≡ b →
    is_pool (pool_of_door x) (pool_by (k.process t) b) ≡ true → owner_in (k.door d) ≡ Some (k.process t)
owner_of_pick k d t x b h e f g = grind (arith, nat_tests, h.bindings.bound_own t d, h.doors.door_number d x, h.doors.none_lost)

bound_of_pick :
    (k : Core) (d t : ℕ) (x : Door) (b : Option ℕ) → IsCoherent k → k.door d ≡ Some x →
    is_pool (pool_of_door x) (pool_by (k.process t) b) ≡ true → b ≡ bound_for d (Some x)
bound_of_pick k d t x b h e g = grind (arith, nat_tests, h.doors.door_number d x)

-- a thread of the pool of a valid door
pub record IsOfPool (m : State) (d t : ℕ) : Type 0 where
  pub owner : owner_in (door_of m d) ≡ Some (process_of m t)
  pub bound : bound_of m t ≡ bound_for d (door_of m d)

pub picked_is :
    (m : State) (d : ℕ) (y : Parked) → IsCoherent (core m) → is_valid_in (door_of m d) ≡ true → pick m (pool_of m d) ≡ Some y →
    IsOfPool m d y.thread.0
picked_is m d y h v e = go (door_of m d) refl v
  where
    p : IsPick m (pool_of m d) y
    p = pick_is m (pool_of m d) y e

    i : IsParked m y.thread.0 y
    i = parked_is m y.thread.0 y p.parked

    go : (o : Option Door) → door_of m d ≡ o → is_valid_in o ≡ true → IsOfPool m d y.thread.0
    go None f w = absurd (grind arith)
    go (Some x) f w =
        record {
          owner = owner_of_pick (core m) d y.thread.0 x (bound_of m y.thread.0) h f refl of_pool;
          bound = bound_of_pick (core m) d y.thread.0 x (bound_of m y.thread.0) h f of_pool ∙ sym (ap (bound_for d) f);
        }
      where
        of_pool : is_pool (pool_of_door x) (pool_by (process_of m y.thread.0) (bound_of m y.thread.0)) ≡ true
        of_pool = ap (λ z. is_pool (pool_of_door x) z) (sym i.pool) ∙ ap (λ o. is_pool (pool_in o) y.pool) (sym f) ∙ p.of_pool
