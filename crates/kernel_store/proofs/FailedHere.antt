-- An idle thread that lost its door wakes: the pools hold what the records say then.
use Rattle.std.proofs.Common.{◌≡◌, ℕ, true, List, Option, sym, subst, ap, ap₂, ◌∙◌}
use Rattle.spec_records.specs.declared.record.ThreadState.TheVariants as is
use Rattle.spec_records.specs.Words.{ProcessTable, is_idle, is_pool, set_thread_state, state_in, thread_at, unbind_thread}
use Rattle.spec_kernel.specs.Types.{Pool}
use Rattle.spec_kernel.specs.Words.{fail_return, has_invalid_door, has_lost_door}
use Rattle.server_pool.specs.Words.{PoolsValue, change_pool, unpark_in}
use Rattle.law_pools.specs.Words.{Agrees, own_pool}
use Rattle.law_pools.proofs.LeavingPools.{IsParkedSomewhere, agrees_failed, idle_is_parked}
use Rattle.law_pools.proofs.Readers.{bindings-change_pool}
use Rattle.law_pools.proofs.WaitingLists.{both_true}
use Rattle.kernel_store.specs.Stored.{IsAgreed, StoreValue, stored_state}

-- what is left of the pools
pub left_here :
    (s : StoreValue) (t : ℕ) (pool : Pool) (unparked left : PoolsValue) → unparked ≡ change_pool s.pools pool (unpark_in t) →
    left ≡ record unparked { bindings = unbind_thread unparked.bindings t } →
    left ≡ record (change_pool s.pools pool (unpark_in t)) { bindings = unbind_thread s.pools.bindings t }
left_here s t pool unparked left leaves unbound =
    unbound
    ∙ ap₂ (λ (v : PoolsValue) (b : List (Option ℕ)). record v { bindings = unbind_thread b t }) leaves
    (ap (λ (v : PoolsValue). v.bindings) leaves ∙ bindings-change_pool s.pools pool (unpark_in t))

pub state_failed :
    (s : StoreValue) (t : ℕ) (pool : Pool) (table : ProcessTable) (left : PoolsValue) → table ≡ set_thread_state s.processes t is.FailedReturn →
    left ≡ record (change_pool s.pools pool (unpark_in t)) { bindings = unbind_thread s.pools.bindings t } →
    stored_state (record s { processes = table; pools = left }) ≡ fail_return (stored_state s) t
state_failed s t pool table left failed is =
    ap₂ (λ (x : ProcessTable) (b : List (Option ℕ)). record (stored_state s) { process_table = x; bindings = b }) failed (ap (λ (v : PoolsValue). v.bindings) is)

-- an idle thread that lost its door wakes

module _
    {s now : StoreValue} (h : IsAgreed s) (same : s ≡ now) (t : ℕ) (pool : Pool) (own : pool ≡ own_pool (stored_state now) t)
    (lost : has_lost_door (stored_state now) t ≡ true) where
  lost_here : (is_idle (state_in (thread_at s.processes t)) ≡ true) × (has_invalid_door (stored_state s) t ≡ true)
  lost_here =
      both_true (is_idle (state_in (thread_at s.processes t))) (has_invalid_door (stored_state s) t)
      (ap (λ v. has_lost_door (stored_state v) t) same ∙ lost)

  parked : IsParkedSomewhere s.processes s.pools.bindings t
  parked = idle_is_parked s.processes s.pools.bindings t lost_here.0

  abbrev failed_pools : PoolsValue
  failed_pools = record (change_pool s.pools pool (unpark_in t)) { bindings = unbind_thread s.pools.bindings t }

  module _
      (table : ProcessTable) (unparked left : PoolsValue)
      (failed : table ≡ set_thread_state s.processes t is.FailedReturn) (leaves : unparked ≡ change_pool s.pools pool (unpark_in t))
      (unbound : left ≡ record unparked { bindings = unbind_thread unparked.bindings t }) where
    left_is : left ≡ failed_pools
    left_is = left_here s t pool unparked left leaves unbound

    pub agrees_failed_here : Agrees s.latest table s.doors.items s.calls.tree s.notices.list left
    agrees_failed_here =
        subst (λ v. Agrees s.latest table s.doors.items s.calls.tree s.notices.list v) (sym left_is)
        (subst (λ x. Agrees s.latest x s.doors.items s.calls.tree s.notices.list failed_pools) (sym failed)
        (agrees_failed h t pool parked.record_of parked.parked
        (subst (λ p. is_pool p parked.record_of.pool ≡ true)
        (ap (λ v. own_pool (stored_state v) t) same ∙ sym own) parked.own)))
