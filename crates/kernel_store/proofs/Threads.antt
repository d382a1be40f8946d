-- A thread that is made, with a number above all others, and a spare that is taken back where there is no memory for it.
use Rattle.std.proofs.Common.{◌≡◌, ℕ, zero, suc, ◌+◌, ◌-◌, ◌<◌, ◌==◌, ◌||◌, Bool, true, false, if◌then◌else◌, List, [], ◌∷◌, ◌++◌, Option, Some, None, option_map, is_some, length, length-append, take, refl, sym, ap, ◌∙◌, subst, arith}
use Rattle.std.proofs.lemmas.Bool.Decides.{nat_tests}
use Rattle.dk_base.specs.ByNumber.{at_number}
use Rattle.dk_base.specs.declared.number.PathId.{PathId}
use Rattle.spec_records.specs.declared.record.ThreadState.TheVariants as is
use Rattle.proc_table.specs.Words.{is_getting}
use Rattle.spec_records.specs.Words.{CallTree, NoticeList, ProcessTable, is_live_in, is_spare_of, is_unborn_in, new_thread_where, thread_at}
use Rattle.spec_kernel.specs.Types.{Door, Process, Thread}
use Rattle.server_pool.specs.Words.{AllBelow, PoolsValue, change_at_number, change_spares, spares_of, spares_or_none, with_spare, without_highest}
use Rattle.server_pool.proofs.Changed.{changed_elsewhere, changed_here}
use Rattle.law_pools.specs.Words.{Agrees, spare_at, spare_in, spares_among}
use Rattle.law_pools.proofs.Readers.{length-change_at_number, same_number}
use Rattle.law_pools.proofs.Starting.{agrees_spare, agrees_thread, agrees_unborn}
use Rattle.exit_paths.specs.Words.{HoldsSame}

pub is_there : (o : Option Process) → (is_live_in o || is_unborn_in o) ≡ true → is_some o ≡ true
is_there None e = cc
is_there (Some x) e = refl

-- a thread as it is added, of a process that has begun or not

pub where_awaits_not : (unborn : Bool) (n p : ℕ) (spare : Bool) (path : PathId) → (new_thread_where unborn n p spare).state ≡ is.Awaiting path → ⊥
where_awaits_not true n p spare path e = absurd cc
where_awaits_not false n p true path e = absurd cc
where_awaits_not false n p false path e = absurd cc

pub where_gets_not : (unborn : Bool) (n p : ℕ) (spare : Bool) → is_getting (new_thread_where unborn n p spare).state ≡ false
where_gets_not true n p spare = refl
where_gets_not false n p true = refl
where_gets_not false n p false = refl

module _
    {n : ℕ} {table : ProcessTable} {doors : List Door} {tree : CallTree} {list : NoticeList} {v : PoolsValue} (h : Agrees n table doors tree list v) (p : ℕ) where
  abbrev with_where : Bool → Bool → ProcessTable
  with_where unborn spare = record table { threads = table.threads ++ new_thread_where unborn (length table.threads + 1) p spare ∷ [] }

  -- one that is Dormant is among the spares
  pub agrees_dormant :
      (unborn spare dormant : Bool) → dormant ≡ (spare || unborn) → dormant ≡ true → is_some (at_number table.processes p) ≡ true →
      Agrees n (with_where unborn spare) doors tree list (change_spares v p (with_spare (length table.threads + 1)))
  agrees_dormant true spare dormant is e there = agrees_unborn h p spare there
  agrees_dormant false true dormant is e there = agrees_spare h p there
  agrees_dormant false false dormant is e there = cc

  -- another is not
  pub agrees_awake : (unborn spare dormant : Bool) → dormant ≡ (spare || unborn) → dormant ≡ false → Agrees n (with_where unborn spare) doors tree list v
  agrees_awake false false dormant is e = agrees_thread h p
  agrees_awake true true dormant is e = cc
  agrees_awake true false dormant is e = cc
  agrees_awake false true dormant is e = cc

-- the spares are below each number above those of all threads

all_append : (t : ℕ) (us vs : List ℕ) → AllBelow t us → AllBelow t vs → AllBelow t (us ++ vs)
all_append t [] vs h k = k
all_append t (u ∷ us) vs h k = (h.0, all_append t us vs h.1 k)

one_below : (t p u : ℕ) (o : Option Thread) → u < t → AllBelow t (spare_in p u o)
one_below t p u None l = tt
one_below t p u (Some x) l = go (is_spare_of p x)
  where
    go : (b : Bool) → AllBelow t (if b then u ∷ [] else [])
    go true = (l, tt)
    go false = tt

all_below : (table : ProcessTable) (t p n : ℕ) → n < t → AllBelow t (spares_among table p n)
all_below table t p zero l = tt
all_below table t p (suc n) l =
    all_append t (spares_among table p n) (spare_at table p (suc n)) (all_below table t p n (omega arith)) (one_below t p (suc n) (thread_at table (suc n)) l)

pub spares_below :
    {n : ℕ} {table : ProcessTable} {doors : List Door} {tree : CallTree} {list : NoticeList} {v : PoolsValue} → Agrees n table doors tree list v → (p t : ℕ) →
    length table.threads < t → AllBelow t (spares_of v p)
spares_below {n} {table} h p t l = subst (AllBelow t) (sym (h.spares p)) (all_below table t p (length table.threads) l)

-- a spare that is taken back

taken_back : (t : ℕ) (ts : List ℕ) → without_highest (with_spare t ts) ≡ ts
taken_back t ts = ap (λ k. take (k - 1) (ts ++ t ∷ [])) (length-append ts (t ∷ [])) ∙ ap (λ k. take k (ts ++ t ∷ [])) less ∙ front ts
  where
    less : length ts + 1 - 1 ≡ length ts
    less = omega arith

    front : (us : List ℕ) → take (length us) (us ++ t ∷ []) ≡ us
    front [] = refl
    front (u ∷ us) = ap (λ vs. u ∷ vs) (front us)

pub same_taken_back : (v : PoolsValue) (p t : ℕ) → HoldsSame v (change_spares (change_spares v p (with_spare t)) p without_highest)
same_taken_back v p t =
    record {
      bindings = refl;
      stacks = λ pool. refl;
      queues = λ pool. refl;
      spares = λ q. spares q (p == q) refl;
      common = refl;
      spare_lists = length-change_at_number added p without_highest ∙ length-change_at_number v.spares p (with_spare t);
      private = refl;
    }
  where
    added : List (List ℕ)
    added = change_at_number v.spares p (with_spare t)

    back : (o : Option (List ℕ)) → spares_or_none (option_map without_highest (option_map (with_spare t) o)) ≡ spares_or_none o
    back None = refl
    back (Some ts) = taken_back t ts

    spares : (q : ℕ) (b : Bool) → (p == q) ≡ b → spares_or_none (at_number (change_at_number added p without_highest) q) ≡ spares_of v q
    spares q true e =
        subst (λ k. spares_or_none (at_number (change_at_number added p without_highest) k) ≡ spares_of v k) (same_number p q e)
        (ap spares_or_none (changed_here added p without_highest ∙ ap (option_map without_highest) (changed_here v.spares p (with_spare t)))
        ∙ back (at_number v.spares p))
    spares q false e =
        let other : p ≡ q → ⊥ = λ f. grind (arith, nat_tests) in
        ap spares_or_none (changed_elsewhere added p q without_highest other ∙ changed_elsewhere v.spares p q (with_spare t) other)
