-- What waits in one pool, and in those of some doors, is given out pool by pool, and then spares start.
use Rattle.std.proofs.Common.{◌≡◌, inl, inr, ℕ, ◌+◌, ◌<◌, ◌==◌, ◌∷◌, ◌||◌, ◌&&◌, add-one, drop, if◌then◌else◌, length, Bool, true, false, not, is_none, is_some, List, [], Option, None, Some, refl, sym, subst, ap, ap₂, ⊎_elim, ◌∙◌, true≢false}
use Rattle.std.proofs.Math.ListN.{get_or}
use Rattle.std.proofs.Math.Seq.{drop-cons}
use Rattle.spec_records.specs.declared.pool.Pool.TheVariants.{Common}
use Rattle.spec_records.specs.Words.{bound_at, is_pool, pid, process_in, thread_at}
use Rattle.spec_kernel.specs.Types.{Parked, Pool}
use Rattle.spec_kernel.specs.Words.{State, fail_returns, give, give_and_start, has_first_common_door, has_given_last, pick, pool_of}
use Rattle.spec_kernel.proofs.Giving.{same_pool}
use Rattle.dk_base.specs.declared.thread_set.ThreadSet.{ThreadSet}
use Rattle.dk_base.specs.Words.{has, with_thread}
use Rattle.server_pool.specs.Words.{PoolsValue, pick_of, stack_in}
use Rattle.law_pools.specs.Words.{IsGivenOut, IsGivenOutIn, IsParkedIn, is_this, own_pool, pool_by}
use Rattle.law_pools.proofs.Readers.{is_pool-sym, same_number}
use Rattle.law_pools.proofs.Unparking.{parked_in_own}
use Rattle.law_pools.proofs.GivingFirst.{given_out_gives_nothing}
use Rattle.law_pools.proofs.Settling.{doors-give}
use Rattle.law_pools.proofs.Stacks.{pick_agrees}
use Rattle.kernel_store.specs.Frames.{AreIn, IsGivenOutToOthers, serves_any}
use Rattle.kernel_store.specs.Giving.{HasGiven, IsServed, IsTold, start_meant}
use Rattle.kernel_store.specs.Stored.{IsAgreed, StoreValue, stored_state}
use Rattle.kernel_store.proofs.AnyOrder.{meant_alike, start_each-is}
use Rattle.kernel_store.proofs.Others.{to_others}

doors_given : (pool : Pool) (before after : StoreValue) → HasGiven pool before after → (stored_state before).doors ≡ (stored_state after).doors
doors_given pool before after all =
    sym (doors-give (stored_state before)) ∙ ap (λ (m : State). m.doors) all.giving.given ∙ doors-give (stored_state after)

-- a pool that was given out before, or is given out now, is given out
out_after :
    (pool : Pool) (before after : StoreValue) → HasGiven pool before after → (other : Pool) →
    (is_pool pool other ≡ false → IsGivenOutIn before.pools other) → IsGivenOutIn after.pools other
out_after pool before after all other out = go (is_pool pool other) refl
  where
    go : (b : Bool) → is_pool pool other ≡ b → IsGivenOutIn after.pools other
    go true e = subst (IsGivenOutIn after.pools) (same_pool pool other e) all.out
    go false e = ⊎_elim (λ f. inl (all.giving.stacks other e ∙ f)) (λ f. inr (all.giving.queues other e ∙ f)) (out e)

-- the pools of others than these doors are given out
abbrev pub AreOut : List ℕ → State → StoreValue → Type 0
AreOut ds m now = (pool : Pool) → serves_any m ds pool ≡ false → IsGivenOutIn now.pools pool

-- where none is left out it is given out to all
pub to_all : (set : ThreadSet) (v : PoolsValue) (pool : Pool) → ((t : ℕ) → has set t ≡ false) → IsGivenOutToOthers set v pool → IsGivenOutIn v pool
to_all set v pool none out = ⊎_elim (λ a. inl (empty (stack_in v pool) a)) inr out
  where
    empty : (stack : List Parked) → AreIn set stack → stack ≡ []
    empty [] a = refl
    empty (x ∷ xs) a = absurd (true≢false (sym (a 0 x refl) ∙ none x.thread.0))

-- the pools of others than these doors are given out, but to some threads
abbrev pub AreOutToOthers : ThreadSet → List ℕ → StoreValue → Type 0
AreOutToOthers set ds now = (pool : Pool) → serves_any (stored_state now) ds pool ≡ false → IsGivenOutToOthers set now.pools pool

served_alike :
    (given : Pool) (before after : StoreValue) → HasGiven given before after → (ds : List ℕ) (other : Pool) →
    serves_any (stored_state before) ds other ≡ serves_any (stored_state after) ds other
served_alike given before after all ds other = ap (λ doors. serves_any (record (stored_state before) { doors = doors }) ds other) (doors_given given before after all)

others_kept :
    (given : Pool) (before after : StoreValue) → HasGiven given before after → (set : ThreadSet) (other : Pool) → is_pool given other ≡ false →
    IsGivenOutToOthers set before.pools other → IsGivenOutToOthers set after.pools other
others_kept given before after all set other e out =
    ⊎_elim (λ a. inl (subst (AreIn set) (sym (all.giving.stacks other e)) a)) (λ f. inr (all.giving.queues other e ∙ f)) out

pub out_touched :
    (touched : Pool) (set : ThreadSet) (ds : List ℕ) (before after : StoreValue) →
    ((pool : Pool) → is_pool touched pool ≡ false → serves_any (stored_state before) ds pool ≡ false → IsGivenOutToOthers set before.pools pool) →
    HasGiven touched before after → AreOutToOthers set ds after
out_touched touched set ds before after out all other f = go (is_pool touched other) refl
  where
    go : (b : Bool) → is_pool touched other ≡ b → IsGivenOutToOthers set after.pools other
    go true e = to_others set after.pools other (subst (IsGivenOutIn after.pools) (same_pool touched other e) all.out)
    go false e = others_kept touched before after all set other e (out other e (served_alike touched before after all ds other ∙ f))

-- the pool in which the next thread parks is given out, and the thread is left out of the set
pub out_parked :
    (now after : StoreValue) (set rest : ThreadSet) (ds : List ℕ) (t : ℕ) (pool : Pool) → IsAgreed now → pool ≡ own_pool (stored_state now) t →
    ((u : ℕ) → has rest u ≡ with_thread set t false u) → HasGiven pool now after → AreOutToOthers set ds now → AreOutToOthers rest ds after
out_parked now after set rest ds t pool h own out all others other f = go (is_pool pool other) refl
  where
    fewer : is_pool pool other ≡ false → AreIn set (stack_in now.pools other) → AreIn rest (stack_in now.pools other)
    fewer e a i x there = out x.thread.0 ∙ by (x.thread.0 == t) refl
      where
        its : IsParkedIn now.processes now.pools.bindings now.latest other x
        its = (h.stacks other).parked i x there

        elsewhere : x.thread.0 ≡ t → ⊥
        elsewhere same =
            let its_pool : pool ≡ x.pool =
            own
            ∙ ap (λ u. pool_by (process_in (thread_at now.processes u)) (bound_at now.pools.bindings u)) (sym same)
            ∙ sym (parked_in_own now.processes now.pools.bindings x.thread.0 x its.parked) in
            true≢false (sym its.same_pool ∙ ap (is_pool other) (sym its_pool) ∙ is_pool-sym other pool ∙ e)

        by : (b : Bool) → (x.thread.0 == t) ≡ b → (if b then false else has set x.thread.0) ≡ true
        by true g = absurd (elsewhere (same_number x.thread.0 t g))
        by false g = a i x there

    go : (b : Bool) → is_pool pool other ≡ b → IsGivenOutToOthers rest after.pools other
    go true e = to_others rest after.pools other (subst (IsGivenOutIn after.pools) (same_pool pool other e) all.out)
    go false e =
        others_kept pool now after all rest other e
        (⊎_elim (λ a. inl (fewer e a)) inr (others other (served_alike pool now after all ds other ∙ f)))

pub out_next :
    (now after : StoreValue) (ds : List ℕ) (i : ℕ) (pool : Pool) → i < length ds → AreOut (drop i ds) (stored_state now) now →
    pool ≡ pool_of (stored_state now) (get_or ds i 0) → HasGiven pool now after → AreOut (drop (i + 1) ds) (stored_state after) after
out_next now after ds i pool l h own all =
    λ other f. out_after pool now after all other
    (λ e. h other
    (ap (λ es. serves_any (stored_state now) es other) (drop-cons ds i 0 l ∙ ap (λ k. get_or ds i 0 ∷ drop k ds) (sym (add-one i)))
    ∙ ap₂ (λ b c. b || c) (ap (λ q. is_pool q other) (sym own) ∙ e)
    (ap (λ doors. serves_any (record (stored_state now) { doors = doors }) (drop (i + 1) ds) other) (doors_given pool now after all) ∙ f)))

-- nothing is left to give, and a spare of this process starts
pub served_none :
    (s after : StoreValue) (first : Option ℕ) → IsAgreed s → AreOut [] (stored_state s) s →
    stored_state after ≡ start_meant (λ p. is_this p first || false) (stored_state s) (length s.processes.processes) →
    length after.processes.processes ≡ length s.processes.processes → (IsGivenOut s.pools → IsGivenOut after.pools) → after.latest ≡ s.latest →
    IsServed first s after
served_none s after first agreed out started processes given_out latest =
    record {
      state =
          started
          ∙ ap (λ m. start_meant (λ p. is_this p first || false) m (length m.process_table.processes)) (sym none)
          ∙ sym
          (meant_alike (λ p. is_this p first || false) (λ p. is_this p first || has_given_last (stored_state s) (give (stored_state s)) p)
          (give (stored_state s)) (length (give (stored_state s)).process_table.processes)
          (λ p low l. ap (λ b. is_this p first || b) (ap (λ m. has_given_last (stored_state s) m p) none ∙ not_both (pick (stored_state s) (Common (pid p))))));
      processes = processes ∙ ap (λ (m : State). length m.process_table.processes) (sym none);
      idle = λ pool e. ap (λ m. is_none (pick m pool)) none ∙ e;
      given_out = given_out all_out;
      latest = latest;
    }
  where
    all_out : IsGivenOut s.pools
    all_out pool = out pool refl

    none : give (stored_state s) ≡ stored_state s
    none = given_out_gives_nothing s.latest (stored_state s) s.pools refl agreed all_out

    not_both : (o : Option Parked) → (is_some o && is_none o) ≡ false
    not_both None = refl
    not_both (Some x) = refl

-- a pool is given out, then what else waits, and then the process that is told starts a spare as well
module _
    (pool : Pool) (first last : Option ℕ) (s mid now after : StoreValue) (told : IsTold pool first last s mid) (served : IsServed first mid now)
  where
    abbrev all : State
    all = give (stored_state mid)

    same : give (stored_state s) ≡ all
    same = told.given.giving.given

    pick_before : (q : Pool) → pick (stored_state s) q ≡ pick_of (stack_in s.pools q)
    pick_before = pick_agrees told.agreed

    pick_mid : (q : Pool) → pick (stored_state mid) q ≡ pick_of (stack_in mid.pools q)
    pick_mid = pick_agrees told.given.agreed

    fewer : (q : Pool) → is_none (pick (stored_state s) q) ≡ true → is_none (pick (stored_state mid) q) ≡ true
    fewer q e = go (is_pool pool q) refl
      where
        go : (b : Bool) → is_pool pool q ≡ b → is_none (pick (stored_state mid) q) ≡ true
        go true f =
            subst (λ r. is_none (pick (stored_state mid) r) ≡ true) (same_pool pool q f)
            (ap is_none (pick_mid pool)
            ∙ told.given.giving.idle (ap is_none (sym (pick_before pool)) ∙ ap (λ r. is_none (pick (stored_state s) r)) (same_pool pool q f) ∙ e))
        go false f = ap is_none (pick_mid q ∙ ap pick_of (told.given.giving.stacks q f) ∙ sym (pick_before q)) ∙ e

    abbrev told_last : ℕ → Bool
    told_last p = is_pool pool (Common (pid p)) && (is_some (pick_of (stack_in s.pools pool)) && not (is_some (pick_of (stack_in mid.pools pool))))

    by_cases :
        (o m g : Option Parked) → (is_none o ≡ true → is_none m ≡ true) → (is_none m ≡ true → is_none g ≡ true) →
        (is_some o && is_none g) ≡ ((is_some o && not (is_some m)) || (is_some m && is_none g))
    by_cases None None g h k = refl
    by_cases None (Some x) g h k = let e : false ≡ true = h refl in cc
    by_cases (Some y) None g h k = k refl
    by_cases (Some y) (Some x) g h k = refl

    lasts : (p : ℕ) → has_given_last (stored_state s) all p ≡ (told_last p || has_given_last (stored_state mid) all p)
    lasts p = go (is_pool pool (Common (pid p))) refl
      where
        go :
            (b : Bool) → is_pool pool (Common (pid p)) ≡ b →
            has_given_last (stored_state s) all p
            ≡ ((b && (is_some (pick_of (stack_in s.pools pool)) && not (is_some (pick_of (stack_in mid.pools pool))))) || has_given_last (stored_state mid) all p)
        go true f =
            by_cases (pick (stored_state s) (Common (pid p))) (pick (stored_state mid) (Common (pid p))) (pick all (Common (pid p)))
            (fewer (Common (pid p))) (served.idle (Common (pid p)))
            ∙ ap₂ (λ b c. (is_some b && not (is_some c)) || has_given_last (stored_state mid) all p)
            (pick_before (Common (pid p)) ∙ ap (λ q. pick_of (stack_in s.pools q)) (sym (same_pool pool (Common (pid p)) f)))
            (pick_mid (Common (pid p)) ∙ ap (λ q. pick_of (stack_in mid.pools q)) (sym (same_pool pool (Common (pid p)) f)))
        go false f =
            ap (λ o. is_some o && is_none (pick all (Common (pid p))))
            (pick_before (Common (pid p)) ∙ ap pick_of (sym (told.given.giving.stacks (Common (pid p)) f)) ∙ sym (pick_mid (Common (pid p))))

    abbrev meant_mid : ℕ → Bool
    meant_mid p = is_this p first || has_given_last (stored_state mid) all p

    or_moved : (f l t g : Bool) → (f || t) ≡ (l || f) → (f || (t || g)) ≡ (l || (f || g))
    or_moved true true t g e = refl
    or_moved true false t g e = refl
    or_moved false true true g e = refl
    or_moved false true false g e = cc
    or_moved false false true g e = cc
    or_moved false false false g e = refl

    -- the process that is told is not meant yet
    pub told_apart : (p : ℕ) → is_this p last ≡ true → meant_mid p ≡ false
    told_apart p e = go (is_this p first) (told.apart p e) (told_last p) (told.either p) (lost_none p)
      where
        lost_none : (p : ℕ) → told_last p ≡ true → has_given_last (stored_state mid) all p ≡ false
        lost_none p f =
            none (is_pool pool (Common (pid p))) refl (is_some (pick_of (stack_in s.pools pool))) (is_some (pick_of (stack_in mid.pools pool))) refl f
          where
            none :
                (b : Bool) → is_pool pool (Common (pid p)) ≡ b → (c d : Bool) → is_some (pick_of (stack_in mid.pools pool)) ≡ d →
                (b && (c && not d)) ≡ true → has_given_last (stored_state mid) all p ≡ false
            none true e true false g h =
                ap (λ d. d && is_none (pick all (Common (pid p))))
                (ap is_some (pick_mid (Common (pid p)) ∙ ap (λ q. pick_of (stack_in mid.pools q)) (sym (same_pool pool (Common (pid p)) e))) ∙ g)
            none true e true true g h = cc
            none true e false d g h = cc
            none false e c d g h = cc

        go :
            (b : Bool) → b ≡ false → (t : Bool) → (b || t) ≡ (is_this p last || b) → (t ≡ true → has_given_last (stored_state mid) all p ≡ false) →
            (b || has_given_last (stored_state mid) all p) ≡ false
        go true f t h k = cc
        go false f true h k = k refl
        go false f false h k = let w : false ≡ true = h ∙ ap (λ c. c || false) e in cc

    pub served_more :
        stored_state after ≡ start_meant (λ p. is_this p last || meant_mid p) all (length all.process_table.processes) →
        length after.processes.processes ≡ length now.processes.processes → (IsGivenOut now.pools → IsGivenOut after.pools) → after.latest ≡ now.latest →
        IsServed first s after
    served_more started processes given_out latest =
        record {
          state =
              subst (λ m. stored_state after ≡ start_meant (λ p. is_this p first || has_given_last (stored_state s) m p) m (length m.process_table.processes)) (sym same)
              (started
              ∙ sym
              (meant_alike (λ p. is_this p last || meant_mid p) (λ p. is_this p first || has_given_last (stored_state s) all p) all (length all.process_table.processes)
              (λ p low l.
              ap (λ b. is_this p first || b) (lasts p)
              ∙ or_moved (is_this p first) (is_this p last) (told_last p) (has_given_last (stored_state mid) all p) (told.either p))));
          processes = processes ∙ served.processes ∙ ap (λ (m : State). length m.process_table.processes) (sym same);
          idle = λ q e. ap (λ m. is_none (pick m q)) same ∙ served.idle q (fewer q e);
          given_out = given_out served.given_out;
          latest = latest ∙ served.latest ∙ told.given.giving.latest;
        }

-- the process that this act gives its first common door
abbrev pub MakesFirst : Option ℕ → State → State → Type 0
MakesFirst first before given = (p : ℕ) → has_first_common_door before given p ≡ is_this p first

-- settling is that, once idle threads that lost their doors woke
pub settles :
    (s failed after : StoreValue) (first : Option ℕ) → stored_state failed ≡ fail_returns (stored_state s) → IsServed first failed after → (before : State) →
    MakesFirst first before (give (fail_returns (stored_state s))) → stored_state after ≡ give_and_start before (fail_returns (stored_state s))
settles s failed after first fails served before makes =
    subst (λ m. stored_state after ≡ give_and_start before m) fails
    (served.state
    ∙ sym
    (start_each-is before (stored_state failed) (give (stored_state failed)) (λ p. is_this p first || has_given_last (stored_state failed) (give (stored_state failed)) p)
    (λ p. ap (λ b. b || has_given_last (stored_state failed) (give (stored_state failed)) p) (ap (λ m. has_first_common_door before (give m) p) fails ∙ makes p))
    (length (give (stored_state failed)).process_table.processes)))
