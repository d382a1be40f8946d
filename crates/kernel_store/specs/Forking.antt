-- A child process that begins.
use Rattle.std.specs.Prelude.{ℕ, ◌≡◌, ◌<◌, ◌≤◌, ◌&&◌, Bool, [], false, length, not, true}
use Rattle.spec_records.specs.Words.{Leaving, ProcessTable, is_dormant, is_spare_in, objects_of, thread_at}
use Rattle.proc_table.specs.Words.{is_of}
use Rattle.spec_kernel.specs.Types.{Pool}
use Rattle.spec_kernel.specs.Words.{State, process_of, state_of, table_of}
use Rattle.server_pool.specs.Words.{item_room_in, queue_in, stack_in}
use Rattle.kernel_store.specs.Stored.{StoreValue}

-- all threads of a process are Dormant
abbrev pub AreDormant : ℕ → State → Type 0
AreDormant child m = (t : ℕ) → process_of m t ≡ child → is_dormant (state_of m t) ≡ true

-- a thread that has not begun has not begun afterwards, unless it ends
abbrev pub KeepsDormant : Leaving → State → State → Type 0
KeepsDormant who m n = (t : ℕ) → who.ends t ≡ false → is_dormant (state_of m t) ≡ true → is_dormant (state_of n t) ≡ true

-- A child may begin with the descriptors of this process, which is below it: it has none, and may have as many; and none of its threads
-- has begun.
pub record MayBegin (p child : ℕ) (m : State) : Type 0 where
  pub first : 1 ≤ p
  pub after : p < child
  pub there : child ≤ length m.tables
  pub no_rows : objects_of (table_of m child) ≡ []
  pub limit : length (table_of m child) ≡ length (table_of m p)
  pub dormant : AreDormant child m

-- a thread does not run as this process begins
abbrev pub stays_spare : ProcessTable → ℕ → ℕ → Bool
stays_spare table child t = not (is_of child (thread_at table t) && not (is_spare_in (thread_at table t)))

-- the same threads are parked in the pools, and the same calls and notices wait there
pub record HasSamePools (before after : StoreValue) : Type 0 where
  pub stacks : (pool : Pool) → stack_in after.pools pool ≡ stack_in before.pools pool
  pub queues : (pool : Pool) → queue_in after.pools pool ≡ queue_in before.pools pool
  pub items : (pool : Pool) → item_room_in after.pools pool ≡ item_room_in before.pools pool
  pub latest : after.latest ≡ before.latest
  pub opening : after.opening ≡ before.opening
  pub left : after.left ≡ before.left
  pub notice_room : after.notices.spare ≡ before.notices.spare
  pub short_room : after.short_room ≡ before.short_room
