-- Spares of a store start.
use Rattle.std.proofs.Common.{◌≡◌, ℕ, ◌==◌, Bool, true, false, List, [], ◌∷◌, Option, None, Some, option_map, length, refl, sym, subst, ap, ap₂, ◌∙◌}
use Rattle.dk_base.specs.ByNumber.{at_number}
use Rattle.spec_records.specs.declared.record.ThreadState.TheVariants as is
use Rattle.spec_records.specs.Words.{CallTree, NoticeList, ProcessTable, is_done, is_dormant, is_idle, set_thread_state, start_spare, state_in, thread_at}
use Rattle.spec_kernel.specs.Types.{Door, ThreadState}
use Rattle.spec_kernel.specs.Words.{start_one}
use Rattle.server_pool.specs.Words.{PoolsValue, change_spares, lowest_spare, spares_of, spares_or_none, without_lowest}
use Rattle.server_pool.proofs.Changed.{changed_here}
use Rattle.law_pools.specs.Words.{Agrees, IsGivenOut}
use Rattle.law_pools.proofs.Readers.{length-change_at_number, same_number, spares-change_other}
use Rattle.law_pools.proofs.Spares.{IsLowest, lowest_of, spare_dormant}
use Rattle.law_pools.proofs.Starting.{agrees_start, no_spare, start_spare_is}
use Rattle.kernel_store.specs.Stored.{IsAgreed, StoreValue, stored_state}

-- the lowest spare of a process starts

with_lowest : (spares : List ℕ) (t : ℕ) → Some t ≡ lowest_spare spares → (rest : List ℕ) × (spares ≡ t ∷ rest)
with_lowest [] t e = cc
with_lowest (u ∷ rest) t e = (rest, cc)

dormant_not_idle : (s : ThreadState) → is_dormant s ≡ true → is_idle s ≡ false
dormant_not_idle is.Dormant e = refl
dormant_not_idle _ e = cc

dormant_not_done : (s : ThreadState) → is_dormant s ≡ true → is_done s ≡ false
dormant_not_done is.Dormant e = refl
dormant_not_done _ e = cc

module _ (s : StoreValue) (h : IsAgreed s) (p t : ℕ) (its_lowest : Some t ≡ lowest_spare (spares_of s.pools p)) where
  spares : (rest : List ℕ) × (spares_of s.pools p ≡ t ∷ rest)
  spares = with_lowest (spares_of s.pools p) t its_lowest

  lowest : IsLowest s.processes p (length s.processes.threads) t
  lowest = lowest_of s.processes p (length s.processes.threads) t spares.0 (sym (h.spares p) ∙ spares.1)

  pub spare_is_dormant : is_dormant (state_in (thread_at s.processes t)) ≡ true
  spare_is_dormant = spare_dormant p t (thread_at s.processes t) lowest.spare

  pub spare_not_idle : is_idle (state_in (thread_at s.processes t)) ≡ false
  spare_not_idle = dormant_not_idle (state_in (thread_at s.processes t)) spare_is_dormant

  pub spare_not_done : is_done (state_in (thread_at s.processes t)) ≡ false
  spare_not_done = dormant_not_done (state_in (thread_at s.processes t)) spare_is_dormant

  module _
      (table : ProcessTable) (pools : PoolsValue) (turned : table ≡ set_thread_state s.processes t is.Running)
      (left : pools ≡ change_spares s.pools p without_lowest) where
    started : table ≡ start_spare s.processes p
    started = turned ∙ sym (start_spare_is h p t spares.0 spares.1)

    pub agrees_started : Agrees s.latest table s.doors.items s.calls.tree s.notices.list pools
    agrees_started =
        subst (λ v. Agrees s.latest table s.doors.items s.calls.tree s.notices.list v) (sym left)
        (subst (λ x. Agrees s.latest x s.doors.items s.calls.tree s.notices.list (change_spares s.pools p without_lowest)) (sym started)
        (agrees_start h p t spares.0 spares.1))

    pub state_started : stored_state (record s { processes = table; pools = pools }) ≡ start_one (stored_state s) p true
    state_started =
        ap₂ (λ x v. stored_state (record s { processes = x; pools = v })) started left

-- where there is none, no thread starts

none_left : (o : Option (List ℕ)) → spares_or_none o ≡ [] → spares_or_none (option_map without_lowest o) ≡ spares_or_none o
none_left None e = refl
none_left (Some us) e = ap without_lowest e ∙ sym e

no_lowest : (spares : List ℕ) → None ≡ lowest_spare spares → spares ≡ []
no_lowest [] e = refl
no_lowest (t ∷ rest) e = cc

agrees_without :
    {n : ℕ} {table : ProcessTable} {doors : List Door} {tree : CallTree} {list : NoticeList} {v : PoolsValue} → Agrees n table doors tree list v → (p : ℕ) →
    spares_of v p ≡ [] → Agrees n table doors tree list (change_spares v p without_lowest)
agrees_without {n} {table} {doors} {tree} {list} {v} h p e =
    record {
      stacks = h.stacks;
      queues = h.queues;
      spares = λ q. spares q (p == q) refl ∙ h.spares q;
      calls = h.calls;
      call_dates = h.call_dates;
      notices = h.notices;
      notice_dates = h.notice_dates;
      kept = h.kept;
      common = h.common;
      spare_lists = length-change_at_number v.spares p without_lowest ∙ h.spare_lists;
      private = h.private;
    }
  where
    spares : (q : ℕ) (b : Bool) → (p == q) ≡ b → spares_of (change_spares v p without_lowest) q ≡ spares_of v q
    spares q false f = spares-change_other v p q without_lowest f
    spares q true f =
        subst (λ r. spares_of (change_spares v p without_lowest) r ≡ spares_of v r) (same_number p q f)
        (ap spares_or_none (changed_here v.spares p without_lowest) ∙ none_left (at_number v.spares p) e)

module _
    (s : StoreValue) (h : IsAgreed s) (p : ℕ) (none : None ≡ lowest_spare (spares_of s.pools p)) (pools : PoolsValue)
    (left : pools ≡ change_spares s.pools p without_lowest) where
  no_spares : spares_of s.pools p ≡ []
  no_spares = no_lowest (spares_of s.pools p) none

  pub agrees_unstarted : Agrees s.latest s.processes s.doors.items s.calls.tree s.notices.list pools
  agrees_unstarted = subst (λ v. Agrees s.latest s.processes s.doors.items s.calls.tree s.notices.list v) (sym left) (agrees_without h p no_spares)

  pub state_unstarted : stored_state (record s { pools = pools }) ≡ start_one (stored_state s) p true
  state_unstarted =
      ap (λ v. stored_state (record s { pools = v })) left
      ∙ ap (λ table. record (stored_state s) { process_table = table }) (sym (no_spare h p no_spares))

-- pools with fewer spares have as little to give
pub given_out-spares :
    (v pools : PoolsValue) (p : ℕ) → pools ≡ change_spares v p without_lowest → IsGivenOut v → IsGivenOut pools
given_out-spares v pools p left out = subst IsGivenOut (sym left) out
