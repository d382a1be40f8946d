-- What idle threads that lost their doors leave of a store as they wake, one after the other.
use Rattle.std.proofs.Common.{◌≡◌, ⊎_elim, inl, inr, ℕ, zero, suc, ◌<◌, ◌==◌, ◌&&◌, ◌||◌, ◌∷◌, Bool, true, false, if◌then◌else◌, List, [], Option, None, Some, slice_get, cond, filter, length, refl, sym, subst, ap, ◌∙◌, true≢false, arith}
use Rattle.std.proofs.lemmas.Bool.Decides.{nat_tests}
use Rattle.std.proofs.lemmas.List.Sorted.{length_permutation}
use Rattle.spec_records.specs.declared.pool.Pool.TheVariants.{Common, Private}
use Rattle.spec_records.specs.declared.record.ThreadState.TheVariants as is
use Rattle.spec_records.specs.Words.{is_idle, is_pool, numbers_where, thread_at_state}
use Rattle.dk_base.proofs.NumbersWhere.{more-numbers_where}
use Rattle.spec_kernel.specs.Types.{Parked, Pool}
use Rattle.spec_kernel.specs.Words.{State, bound_of, fail_return, fail_returns, has_invalid_door, has_lost_door, is_bound_to_invalid, process_of, state_of}
use Rattle.spec_kernel.proofs.Failing.{lost_is_idle, lost_within}
use Rattle.spec_kernel.proofs.Giving.{same_pool}
use Rattle.spec_kernel.proofs.Places.{IsIn}
use Rattle.spec_kernel.proofs.Settling.{fail_returns-none}
use Rattle.dk_base.specs.declared.thread_set.ThreadSet.{ThreadSet}
use Rattle.dk_base.specs.Words.{has, with_thread}
use Rattle.server_pool.specs.Words.{PoolValue, PoolsValue, change_pool, is_another_thread, pick_of, stack_in, unpark_in, without_thread}
use Rattle.law_pools.specs.Words.{IsListed, IsParkedIn, own_pool, pool_by}
use Rattle.law_pools.proofs.Leaving.{read_change, read_kept}
use Rattle.law_pools.proofs.LeavingPools.{IsParkedSomewhere, idle_is_parked}
use Rattle.law_pools.proofs.Parked.{in_at, pick_parked_in, top_of_stack, IsTop}
use Rattle.law_pools.proofs.Stacks.{given_is_idle, length-change_thread}
use Rattle.law_pools.proofs.Unparking.{parked_in_own}
use Rattle.kernel_store.specs.Failing.{FailsOn, IsFailing, LosesNoneIn, count_lost}
use Rattle.kernel_store.specs.Frames.{AreIn, IsGivenOutToOthers, LoseDoorsIn}
use Rattle.kernel_store.specs.Stored.{IsAgreed, StoreValue, stored_state}
use Rattle.kernel_store.proofs.Failed.{fails_first, gone, lost_else, still_lost}

pub failing_none : (s : StoreValue) → IsFailing s s
failing_none s = record { fails = refl; lost = λ t e. (e, refl); given_out = λ set pool h. h; latest = refl }

pub failing_more : (a b c : StoreValue) → IsFailing a b → IsFailing b c → IsFailing a c
failing_more a b c h k =
    record {
      fails = k.fails ∙ h.fails;
      lost = λ t e. let f = k.lost t e in let g = h.lost t f.0 in (g.0, f.1 ∙ g.1);
      given_out = λ set pool l. k.given_out set pool (h.given_out set pool l);
      latest = k.latest ∙ h.latest;
    }

-- an item of a list that others left was there before
kept_at : (p : Parked → Bool) (xs : List Parked) (i : ℕ) (x : Parked) → slice_get (filter p xs) i ≡ Some x → (j : ℕ) × (slice_get xs j ≡ Some x)
kept_at p [] i x e = grind arith
kept_at p (y ∷ ys) i x e = go (p y) (λ j f. kept_at p ys j x f) i e
  where
    go :
        (b : Bool) → ((j : ℕ) → slice_get (filter p ys) j ≡ Some x → (k : ℕ) × (slice_get ys k ≡ Some x)) →
        (i : ℕ) → slice_get (cond b (y ∷ filter p ys) (filter p ys)) i ≡ Some x → (k : ℕ) × (slice_get (y ∷ ys) k ≡ Some x)
    go true ih zero f = (0, f)
    go true ih (suc j) f = let more = ih j f in (suc more.0, more.1)
    go false ih j f = let more = ih j f in (suc more.0, more.1)

-- a thread that leaves a pool leaves none behind who was not there
out_unparked :
    (v : PoolsValue) (own : Pool) (t : ℕ) (set : ThreadSet) (pool : Pool) → IsGivenOutToOthers set v pool →
    IsGivenOutToOthers set (change_pool v own (unpark_in t)) pool
out_unparked v own t set pool out =
    ⊎_elim
    (λ a. inl (subst (AreIn set) (sym (read_change (λ (x : PoolValue). x.parked) (without_thread t) (unpark_in t) (λ x. refl) refl v own pool)) (fewer (is_pool own pool) a)))
    (λ e. inr (read_kept (λ (x : PoolValue). x.waiting) (unpark_in t) (λ x. refl) v own pool ∙ e)) out
  where
    fewer : (b : Bool) → AreIn set (stack_in v pool) → AreIn set (if b then without_thread t (stack_in v pool) else stack_in v pool)
    fewer true a = λ i x e. let k = kept_at (is_another_thread t) (stack_in v pool) i x e in a k.0 x k.1
    fewer false a = a

bound_alike : (v : PoolsValue) (bound : List (Option ℕ)) (set : ThreadSet) (pool : Pool) → IsGivenOutToOthers set v pool → IsGivenOutToOthers set (record v { bindings = bound }) pool
bound_alike v bound set (Common p) out = out
bound_alike v bound set (Private d) out = out

-- one thread wakes

fewer_lost : (m : State) (t : ℕ) → has_lost_door m t ≡ true → count_lost (fail_return m t) < count_lost m
fewer_lost m t lost =
    let k = fail_return m t in
    let n = length m.process_table.threads in
    let same : length k.process_table.threads ≡ n = length-change_thread m.process_table t (thread_at_state is.FailedReturn) in
    let within = lost_within m t lost in
    let one = length_permutation (t ∷ numbers_where (has_lost_door k) n) (numbers_where (has_lost_door m) n)
    (more-numbers_where (has_lost_door k) (has_lost_door m) n t within.0 within.1 (gone m t lost) lost (λ u ne. lost_else m t lost u (grind (arith, nat_tests, ne)))) in
    subst (λ j. length (numbers_where (has_lost_door k) j) < count_lost m) (sym same) (omega (arith, one))

module _ (s after : StoreValue) (own : Pool) (t : ℕ) (lost : has_lost_door (stored_state s) t ≡ true) (state : stored_state after ≡ fail_return (stored_state s) t)
    (bound : List (Option ℕ)) (pools : after.pools ≡ record (change_pool s.pools own (unpark_in t)) { bindings = bound }) (latest : after.latest ≡ s.latest) where
  pub gone_here : has_lost_door (stored_state after) t ≡ false
  gone_here = ap (λ m. has_lost_door m t) state ∙ gone (stored_state s) t lost

  pub fails_on : FailsOn s after
  fails_on =
      record {
        failing =
            record {
              fails = ap fail_returns state ∙ fails_first (stored_state s) t lost;
              lost =
                  λ u e.
                  let k = still_lost (stored_state s) t lost u (sym (ap (λ m. has_lost_door m u) state) ∙ e) in
                  (k.0, ap (λ m. own_pool m u) state ∙ k.1);
              given_out =
                  λ set pool out.
                  subst (λ v. IsGivenOutToOthers set v pool) (sym pools)
                  (bound_alike (change_pool s.pools own (unpark_in t)) bound set pool (out_unparked s.pools own t set pool out));
              latest = latest;
            };
        fewer = subst (λ m. count_lost m < count_lost (stored_state s)) (sym state) (fewer_lost (stored_state s) t lost);
      }

-- the threads of a pool

same_invalid : (m : State) (u v : ℕ) → own_pool m u ≡ own_pool m v → has_invalid_door m u ≡ has_invalid_door m v
same_invalid m u v e = go (process_of m u) (process_of m v) (bound_of m u) (bound_of m v) e
  where
    go : (p q : ℕ) (b c : Option ℕ) → pool_by p b ≡ pool_by q c → is_bound_to_invalid m b ≡ is_bound_to_invalid m c
    go p q None None f = refl
    go p q (Some d) (Some c) f = let same : d ≡ c = cc in ap (λ k. is_bound_to_invalid m (Some k)) same
    go p q None (Some c) f = cc
    go p q (Some d) None f = cc

module _ (s : StoreValue) (h : IsAgreed s) (pool : Pool) where
  abbrev m : State
  m = stored_state s

  own_is : (t : ℕ) → is_pool pool (own_pool m t) ≡ true → own_pool m t ≡ pool
  own_is t e = sym (same_pool pool (own_pool m t) e)

  none_lost : (t : ℕ) → (has_lost_door m t ≡ true → ⊥) → has_lost_door m t ≡ false
  none_lost t never = go (has_lost_door m t) refl
    where
      go : (b : Bool) → has_lost_door m t ≡ b → b ≡ false
      go true e = absurd (never e)
      go false e = refl

  pub none_parked : pick_of (stack_in s.pools pool) ≡ None → LosesNoneIn pool m
  none_parked none t own =
      none_lost t
      (λ lost.
      let p : IsParkedSomewhere s.processes s.pools.bindings t = idle_is_parked s.processes s.pools.bindings t (lost_is_idle m t lost) in
      let k : IsListed (stack_in s.pools pool) p.record_of =
      (h.stacks pool).all t p.record_of p.parked (subst (λ q. is_pool q p.record_of.pool ≡ true) (own_is t own) p.own) in
      subst (IsTop (λ z. IsIn z (stack_in s.pools pool))) none (top_of_stack (stack_in s.pools pool) (h.stacks pool).in_order) p.record_of
      (in_at (stack_in s.pools pool) k.place p.record_of k.there))

  module _ (x : Parked) (picked : pick_of (stack_in s.pools pool) ≡ Some x) where
    its : IsParkedIn s.processes s.pools.bindings s.latest pool x
    its = pick_parked_in s.processes s.pools.bindings s.latest pool (stack_in s.pools pool) x (h.stacks pool) picked

    its_own : own_pool m x.thread.0 ≡ pool
    its_own = sym (parked_in_own s.processes s.pools.bindings x.thread.0 x its.parked) ∙ sym (same_pool pool x.pool its.same_pool)

    pub pick_keeps : has_lost_door m x.thread.0 ≡ false → LosesNoneIn pool m
    pick_keeps kept t own =
        none_lost t
        (λ lost.
        let same = same_invalid m t x.thread.0 (own_is t own ∙ sym its_own) in
        let idle : is_idle (state_of m x.thread.0) ≡ true = given_is_idle h pool x picked in
        true≢false (sym (both (is_idle (state_of m x.thread.0)) (has_invalid_door m x.thread.0) idle (sym same ∙ invalid (is_idle (state_of m t)) (has_invalid_door m t) lost)) ∙ kept))
      where
        both : (a b : Bool) → a ≡ true → b ≡ true → (a && b) ≡ true
        both a b e f = grind arith

        invalid : (a b : Bool) → (a && b) ≡ true → b ≡ true
        invalid a b e = grind arith

-- all of them

pub all_failed :
    (a b c : StoreValue) (touched : Pool) (parked : ThreadSet) → LoseDoorsIn touched parked (stored_state a) → IsFailing a b →
    LosesNoneIn touched (stored_state b) → IsFailing b c → ((t : ℕ) → has parked t ≡ true → has_lost_door (stored_state c) t ≡ false) →
    stored_state c ≡ fail_returns (stored_state a)
all_failed a b c touched parked lose first none second others =
    sym (fail_returns-none (stored_state c) none_left) ∙ second.fails ∙ first.fails
  where
    none_left : (t : ℕ) → has_lost_door (stored_state c) t ≡ false
    none_left t = go (has_lost_door (stored_state c) t) refl
      where
        by_pool : has_lost_door (stored_state c) t ≡ true → (b : Bool) → is_pool touched (own_pool (stored_state a) t) ≡ b → (b || has parked t) ≡ true → ⊥
        by_pool e true f k =
            let l = second.lost t e in
            let j = first.lost t l.0 in
            true≢false (sym l.0 ∙ none t (ap (is_pool touched) j.1 ∙ f))
        by_pool e false f k = true≢false (sym e ∙ others t k)

        go : (d : Bool) → has_lost_door (stored_state c) t ≡ d → d ≡ false
        go true e =
            let l = second.lost t e in
            let j = first.lost t l.0 in
            absurd (by_pool e (is_pool touched (own_pool (stored_state a) t)) refl (lose t j.0))
        go false e = refl

-- of the threads of a set, those that are left

pub next_failed :
    (now after : StoreValue) (set rest more : ThreadSet) (t : ℕ) → ((u : ℕ) → has set u ≡ true → has rest u ≡ false → has_lost_door (stored_state now) u ≡ false) →
    ((u : ℕ) → has more u ≡ with_thread rest t false u) → IsFailing now after → has_lost_door (stored_state after) t ≡ false →
    (u : ℕ) → has set u ≡ true → has more u ≡ false → has_lost_door (stored_state after) u ≡ false
next_failed now after set rest more t done out failing here u e f = go (u == t) refl (sym (out u) ∙ f)
  where
    go : (b : Bool) → (u == t) ≡ b → (if b then false else has rest u) ≡ false → has_lost_door (stored_state after) u ≡ false
    go true g k = let same : u ≡ t = grind (arith, nat_tests) in ap (has_lost_door (stored_state after)) same ∙ here
    go false g k = still (has_lost_door (stored_state after) u) refl
      where
        still : (d : Bool) → has_lost_door (stored_state after) u ≡ d → d ≡ false
        still true l = absurd (true≢false (sym (failing.lost u l).0 ∙ done u e k))
        still false l = refl
