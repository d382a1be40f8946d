-- What settling needs, once the act of a turn is done.
use Rattle.std.proofs.Common.{◌≡◌, ◌⊎◌, inl, inr, ⊎_elim, ℕ, ◌&&◌, ◌||◌, Bool, true, false, [], Option, Some, None, refl, sym, subst, ap, ◌∙◌, true≢false, arith}
use Rattle.dk_base.specs.ByNumber.{at_number}
use Rattle.spec_records.specs.Words.{ProcessTable, end_process, is_idle, is_pool, thread_at, with_ended}
use Rattle.dk_base.specs.declared.thread_set.ThreadSet.{ThreadSet}
use Rattle.dk_base.specs.Words.{has}
use Rattle.spec_kernel.specs.Types.{Pool, Process, Request}
use Rattle.spec_kernel.specs.Words.{StandsFor, State, act, has_invalid_door, has_lost_door, state_of}
use Rattle.law_pools.specs.Words.{own_pool}
use Rattle.law_states.specs.Events.{is_leaving}
use Rattle.kernel_store.specs.Words.{AllIsGivenOut, ArePlaced, CanSettle, FillsOnePool, IsGivenOutToOthers, ParksAgain, StoreValue, stored_state}
use Rattle.kernel_store.proofs.Others.{to_others}
use Rattle.kernel_core.specs.Entries.{touched_by}
use Rattle.kernel_core.proofs.Losing.{IsFound, act_loses}

either : (a b : Bool) → (a ≡ true) ⊎ (b ≡ true) → (a || b) ≡ true
either a b (inl e) = grind arith
either a b (inr e) = grind arith

idle_of : (a b : Bool) → (a && b) ≡ true → a ≡ true
idle_of a b e = grind arith

module _
    (m : State) (before n : StoreValue) (t : ℕ) (touched : Pool) (parked : ThreadSet) (placed : ArePlaced m)
    (none : (u : ℕ) → has_lost_door m u ≡ false) (same : stored_state before ≡ m) (out : AllIsGivenOut before) where
  pub settles_entry :
      (r : Request) → touched ≡ touched_by m t r → StandsFor (stored_state n) (act m t (Some r)).state →
      (is_leaving r ≡ false → (u : ℕ) → has_lost_door (act m t (Some r)).state u ≡ false) →
      (is_leaving r ≡ false → FillsOnePool (touched_by (stored_state before) t r) before n) → (is_leaving r ≡ true → ParksAgain parked before n) →
      CanSettle touched parked [] n
  settles_entry r its acted stays fills parks = go (is_leaving r) refl
    where
      go : (b : Bool) → is_leaving r ≡ b → CanSettle touched parked [] n
      go false e =
          record {
            given_out =
                λ pool f g.
                to_others parked n.pools pool ((fills e).given_out out pool (ap (λ (k : State). is_pool (touched_by k t r) pool) same ∙ ap (λ p. is_pool p pool) (sym its) ∙ f));
            lost = λ u f. absurd (true≢false (sym f ∙ ap (λ k. has_lost_door k u) acted ∙ stays e u));
          }
      go true e =
          let left = parks e in
          record {
            given_out = λ pool f g. left.given_out out pool;
            lost =
                λ u f.
                let found : IsFound m t (Some r) (stored_state n) u =
                subst (λ k. IsFound m t (Some r) k u) (sym acted) (act_loses m none placed t (Some r) e u (sym (ap (λ k. has_lost_door k u) acted) ∙ f)) in
                either (is_pool touched (own_pool (stored_state n) u)) (has parked u)
                (⊎_elim (λ k. inl (ap (λ p. is_pool p (own_pool (stored_state n) u)) its ∙ k))
                (λ k.
                inr
                (left.idle u (ap (λ (s : State). is_idle (state_of s u)) same ∙ k)
                (idle_of (is_idle (state_of (stored_state n) u)) (has_invalid_door (stored_state n) u) f))) found);
          }

  pub settles_end :
      touched ≡ own_pool m t → StandsFor (stored_state n) (act m t None).state → FillsOnePool (own_pool (stored_state before) t) before n →
      CanSettle touched parked [] n
  settles_end its acted fills =
      record {
        given_out =
            λ pool f g.
            to_others parked n.pools pool (fills.given_out out pool (ap (λ (k : State). is_pool (own_pool k t) pool) same ∙ ap (λ p. is_pool p pool) (sym its) ∙ f));
        lost =
            λ u f.
            let found : IsFound m t None (stored_state n) u =
            subst (λ k. IsFound m t None k u) (sym acted) (act_loses m none placed t None refl u (sym (ap (λ k. has_lost_door k u) acted) ∙ f)) in
            either (is_pool touched (own_pool (stored_state n) u)) (has parked u) (inl (ap (λ p. is_pool p (own_pool (stored_state n) u)) its ∙ found));
      }

-- threads that parked again by an act do so once what it closes is closed
pub parks_then :
    (set : ThreadSet) (a b c : StoreValue) → c.pools ≡ b.pools → ((t : ℕ) → is_idle (state_of (stored_state c) t) ≡ is_idle (state_of (stored_state b) t)) →
    ParksAgain set a b → ParksAgain set a c
parks_then set a b c pools same h =
    record {
      idle = λ t e f. h.idle t e (sym (same t) ∙ f);
      given_out = λ out pool. subst (λ v. IsGivenOutToOthers set v pool) (sym pools) (h.given_out out pool);
    }

-- the end of a process leaves its threads
pub same_thread : (table : ProcessTable) (p t : ℕ) → thread_at (end_process table p) t ≡ thread_at table t
same_thread table p t = go (at_number table.processes p)
  where
    go : (o : Option Process) → thread_at (with_ended table p o) t ≡ thread_at table t
    go None = refl
    go (Some x) = refl
