-- The laws' counts are the step's.
use Rattle.std.specs.Prelude.{ℕ, ◌≡◌, ◌+◌, ◌<◌, ◌≤◌, ◌==◌, ◌&&◌, List, ◌∷◌, Option, Bool, true, false, cond, if◌then◌else◌, Some, None, length, not}
use Rattle.std.proofs.Common.{refl, sym, ap, ◌∙◌}
use native.Mathlib.Omega.{arith}
use Rattle.std.proofs.lemmas.Bool.Decides.{nat_tests}
use Rattle.std.proofs.lemmas.List.Recursion.{is_count_by}
use Rattle.spec_kernel.specs.Types.{Call, CallStage, Door, Obj}
use Rattle.spec_records.specs.Words.{free_rows, is_pool, is_private, is_private_in, is_queued, is_queued_in, pid, pool_in}
use Rattle.spec_records.specs.declared.pool.Pool.TheVariants.{Common, Private}
use Rattle.spec_records.specs.declared.record.CallStage.TheVariants as stage
use Rattle.spec_kernel.specs.Words.{State, bound_of, calls_waiting, door_of, has_room, pool_of, process_of, table_of}
use Rattle.std.specs.Prelude.{is_none}
use Rattle.law_states.specs.Coherent.{bound_for}
use Rattle.law_states.specs.Records.{owner_in}
use Rattle.law_places.specs.Places.{MayServe}
use Rattle.law_places.specs.Counts.{calls_in_pool, count_waiting_with, free_descriptors, free_places, has_own_pool, have_one_pool, is_waiting, waits_with}

pub free_is : (t : List (Option Obj)) → free_places t ≡ free_rows t
free_is = is_count_by free_places is_none refl go
  where
    go : (o : Option Obj) (t : List (Option Obj)) → free_places (o ∷ t) ≡ cond (is_none o) (1 + free_places t) (free_places t)
    go None t = refl
    go (Some o) t = refl

pub room_is : (m : State) (p : ℕ) (os : List Obj) → has_room m p os ≡ true → length os ≤ free_descriptors m p
room_is m p os e = let f : free_places (table_of m p) ≡ free_rows (table_of m p) = free_is (table_of m p) in grind (arith, nat_tests, e, f)

pub too_few_is : (m : State) (p : ℕ) (os : List Obj) → has_room m p os ≡ false → free_descriptors m p < length os
too_few_is m p os e = let f : free_places (table_of m p) ≡ free_rows (table_of m p) = free_is (table_of m p) in grind (arith, nat_tests, e, f)

pub private_is : (o : Option Door) → is_private_in o ≡ has_own_pool o
private_is None = refl
private_is (Some d) = refl

-- a thread of a door's pool
pub may_serve :
    (m : State) (t d : ℕ) → owner_in (door_of m d) ≡ Some (process_of m t) → bound_of m t ≡ bound_for d (door_of m d) → MayServe m t d
may_serve m t d o e = go (has_own_pool (door_of m d)) refl
  where
    bound : (b : Bool) → has_own_pool (door_of m d) ≡ b → bound_of m t ≡ (if b then Some d else None)
    bound b f = e ∙ ap (λ (c : Bool). if c then Some d else None) (private_is (door_of m d) ∙ f)

    go : (b : Bool) → has_own_pool (door_of m d) ≡ b → MayServe m t d
    go true f = MayServe.bound f (bound true f)
    go false f = MayServe.unbound f (bound false f) o

-- one pool
pool_is : (a b : Option Door) → is_pool (pool_in a) (pool_in b) ≡ have_one_pool a b
pool_is None None = refl
pool_is None (Some b) = go (is_private b.attrs) refl
  where
    go : (d : Bool) → is_private b.attrs ≡ d → is_pool (Common (pid 0)) (if d then Private b.number else Common b.owner) ≡ (not d && (0 == b.owner.0))
    go true e = refl
    go false e = refl
pool_is (Some a) None = go (is_private a.attrs) refl
  where
    go : (c : Bool) → is_private a.attrs ≡ c → is_pool (if c then Private a.number else Common a.owner) (Common (pid 0)) ≡ (if c then false && (a.number == 0) else not false && (a.owner.0 == 0))
    go true e = refl
    go false e = refl
pool_is (Some a) (Some b) = go (is_private a.attrs) (is_private b.attrs)
  where
    go :
        (c d : Bool) → is_pool (if c then Private a.number else Common a.owner) (if d then Private b.number else Common b.owner)
        ≡ (if c then d && (a.number == b.number) else not d && (a.owner.0 == b.owner.0))
    go true true = refl
    go true false = refl
    go false true = refl
    go false false = refl

waiting_is : (s : CallStage) → is_waiting s ≡ is_queued s
waiting_is stage.Queued = refl
waiting_is s = grind arith

test_is : (m : State) (d : ℕ) (r : Call) → waits_with m d r ≡ is_queued_in m.doors (pool_of m d) r
test_is m d r =
    ap (λ b. b && have_one_pool (door_of m d) (door_of m r.door)) (waiting_is r.stage)
    ∙ ap (λ b. is_queued r.stage && b) (sym (pool_is (door_of m d) (door_of m r.door)))

pub waiting_calls_are : (m : State) (d : ℕ) → calls_in_pool m d ≡ calls_waiting m (pool_of m d)
waiting_calls_are m d = is_count_by (count_waiting_with m d) (is_queued_in m.doors (pool_of m d)) refl go m.call_tree.calls
  where
    go :
        (r : Call) (rs : List Call) →
        count_waiting_with m d (r ∷ rs) ≡ cond (is_queued_in m.doors (pool_of m d) r) (1 + count_waiting_with m d rs) (count_waiting_with m d rs)
    go r rs = ap (λ (b : Bool). if b then 1 + count_waiting_with m d rs else count_waiting_with m d rs) (test_is m d r)
