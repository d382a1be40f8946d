-- Which waiting calls and notices leave their pool, where callers are interrupted, threads end, and doors become invalid.
use Rattle.std.specs.Prelude.{ℕ, Bool, ◌&&◌, ◌||◌, List}
use Rattle.spec_records.specs.Words.{CallTree, Leaving, NoticeList, ProcessTable, is_waiting_stage}
use Rattle.spec_kernel.specs.Types.{Call, Door, Notice}
use Rattle.server_pool.specs.Words.{PoolsValue}
use Rattle.law_pools.specs.Agreement.{Agrees}

-- a call that waits does so no longer where its caller ends or is interrupted, or its door becomes invalid
abbrev pub leaves_queue : Leaving → Call → Bool
leaves_queue who r = who.ends r.caller.0 || (who.interrupts r.caller.0 || who.loses r.door)

-- a notice that waits does so no longer where its door becomes invalid
abbrev pub notice_leaves_queue : Leaving → Notice → Bool
notice_leaves_queue who n = is_waiting_stage n.stage && who.loses n.door

-- the pools hold what these threads say, with some doors, calls and notices
pub record AgreesSomehow (latest : ℕ) (table : ProcessTable) (pools : PoolsValue) : Type 0 where
  pub doors : List Door
  pub tree : CallTree
  pub list : NoticeList
  pub agrees : Agrees latest table doors tree list pools
