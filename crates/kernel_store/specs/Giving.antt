-- What waits in one pool is given to the threads parked there, and spares start.
use Rattle.std.specs.Prelude.{◌≡◌, ◌<◌, ◌&&◌, ◌||◌, ℕ, Bool, Option, false, is_none, is_some, not, length, suc, true, zero}
use Rattle.spec_kernel.specs.Types.{Pool}
use Rattle.spec_records.specs.Words.{is_pool, pid}
use Rattle.spec_records.specs.declared.pool.Pool.TheVariants.{Common}
use Rattle.spec_kernel.specs.Words.{State, give, has_given_last, pick, start_one}
use Rattle.server_pool.specs.Words.{pick_of, queue_in, stack_in}
use Rattle.law_pools.specs.Words.{IsGivenOut, IsGivenOutIn, is_this}
use Rattle.kernel_store.specs.Stored.{IsAgreed, StoreValue, stored_state}

-- givings in this pool leave what the written kernel gives in all, and the other pools; no thread parks by them
pub record IsGiving (pool : Pool) (before after : StoreValue) : Type 0 where
  pub given : give (stored_state before) ≡ give (stored_state after)
  pub stacks : (other : Pool) → is_pool pool other ≡ false → stack_in after.pools other ≡ stack_in before.pools other
  pub queues : (other : Pool) → is_pool pool other ≡ false → queue_in after.pools other ≡ queue_in before.pools other
  pub idle : is_none (pick_of (stack_in before.pools pool)) ≡ true → is_none (pick_of (stack_in after.pools pool)) ≡ true
  pub latest : after.latest ≡ before.latest

-- one of them
pub record GivesOn (pool : Pool) (before after : StoreValue) : Type 0 where
  pub giving : IsGiving pool before after
  pub fewer : length (queue_in after.pools pool) < length (queue_in before.pools pool)

-- all that are possible
pub record HasGiven (pool : Pool) (before after : StoreValue) : Type 0 where
  pub giving : IsGiving pool before after
  pub out : IsGivenOutIn after.pools pool
  pub agreed : IsAgreed after

-- those of the processes 1 to n that are meant start a spare
abbrev pub start_meant : (ℕ → Bool) → State → ℕ → State
start_meant meant m zero = m
start_meant meant m (suc n) = start_one (start_meant meant m n) (suc n) (meant (suc n))

-- what waits is given out, and then a spare starts of this process, and of each whose common pool lost its last idle thread by that
pub record IsServed (first : Option ℕ) (before after : StoreValue) : Type 0 where
  pub state :
      stored_state after
      ≡ start_meant (λ p. is_this p first || has_given_last (stored_state before) (give (stored_state before)) p) (give (stored_state before))
      (length (give (stored_state before)).process_table.processes)
  pub processes : length after.processes.processes ≡ length (give (stored_state before)).process_table.processes
  pub idle : (pool : Pool) → is_none (pick (stored_state before) pool) ≡ true → is_none (pick (give (stored_state before)) pool) ≡ true
  pub given_out : IsGivenOut after.pools
  pub latest : after.latest ≡ before.latest

-- givings in a pool told which process lost the last idle thread of its common pool, but for one
pub record IsTold (pool : Pool) (first last : Option ℕ) (before after : StoreValue) : Type 0 where
  pub given : HasGiven pool before after
  pub agreed : IsAgreed before
  pub either :
      (p : ℕ) → (is_this p first || (is_pool pool (Common (pid p)) && (is_some (pick_of (stack_in before.pools pool)) && not (is_some (pick_of (stack_in after.pools pool))))))
      ≡ (is_this p last || is_this p first)
  pub apart : (p : ℕ) → is_this p last ≡ true → is_this p first ≡ false
