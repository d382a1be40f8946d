-- Idle threads that lost their doors wake, one after the other, in any order.
use Rattle.std.specs.Prelude.{ℕ, ◌≡◌, ◌<◌, false, length, true}
use Rattle.spec_records.specs.Words.{is_pool, numbers_where}
use Rattle.spec_kernel.specs.Types.{Pool}
use Rattle.spec_kernel.specs.Words.{State, fail_returns, has_lost_door}
use Rattle.dk_base.specs.declared.thread_set.ThreadSet.{ThreadSet}
use Rattle.law_pools.specs.Words.{own_pool}
use Rattle.kernel_store.specs.Frames.{IsGivenOutToOthers}
use Rattle.kernel_store.specs.Stored.{StoreValue, stored_state}

-- how many threads lost their doors
abbrev pub count_lost : State → ℕ
count_lost m = length (numbers_where (has_lost_door m) (length m.process_table.threads))

-- none of those that park in this pool did
abbrev pub LosesNoneIn : Pool → State → Type 0
LosesNoneIn pool m = (t : ℕ) → is_pool pool (own_pool m t) ≡ true → has_lost_door m t ≡ false

-- some woke: those that wake in all are the same, the others lost their doors before too, and no thread and no item was put into a pool
pub record IsFailing (before after : StoreValue) : Type 0 where
  pub fails : fail_returns (stored_state after) ≡ fail_returns (stored_state before)
  pub lost :
      (t : ℕ) → has_lost_door (stored_state after) t ≡ true →
      (has_lost_door (stored_state before) t ≡ true) × (own_pool (stored_state after) t ≡ own_pool (stored_state before) t)
  pub given_out : (set : ThreadSet) (pool : Pool) → IsGivenOutToOthers set before.pools pool → IsGivenOutToOthers set after.pools pool
  pub latest : after.latest ≡ before.latest

-- one more
pub record FailsOn (before after : StoreValue) : Type 0 where
  pub failing : IsFailing before after
  pub fewer : count_lost (stored_state after) < count_lost (stored_state before)
