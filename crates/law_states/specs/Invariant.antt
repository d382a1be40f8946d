-- The invariant of every run: what holds of each state between two events.
use Rattle.std.specs.Prelude.{ℕ, ◌≡◌, ◌<◌, ◌≤◌, false, true, Some, None, length, All}
use Rattle.spec_kernel.specs.Types.{Fd, Pid}
use Rattle.spec_records.specs.declared.record.ThreadState.TheVariants as is
use Rattle.spec_records.specs.Words.{IsCounted, call_number, is_valid_in, notice_number}
use Rattle.spec_kernel.specs.Words.{State, is_live_process, object_at, parent_of, pick, pool_of, table_of, waiting_items}
use Rattle.law_states.specs.Core.{core}
use Rattle.law_states.specs.Coherent.{IsCoherent}
use Rattle.law_states.specs.Told.{AreTold}

-- a child is above its parent, and may have as many descriptors
pub record IsChildOf (m : State) (child parent : ℕ) : Type 0 where
  pub first : 1 ≤ parent
  pub after : parent < child
  pub limit : length (table_of m child) ≡ length (table_of m parent)

-- what holds at each time: also between an act and what the kernel does after it
pub record IsConsistent (m : State) : Type 0 where
  -- the calls have the numbers from 1 to the number of calls made, in order
  pub in_order : IsCounted call_number 0 m.call_tree.calls
  pub counted : length m.call_tree.calls ≡ m.call_tree.made
  pub coherent : IsCoherent (core m)
  -- each process has a table, and one that does not live has no row
  pub tables : length m.tables ≡ length m.process_table.processes
  pub no_rows : (p : ℕ) (fd : Fd) → is_live_process m p ≡ false → object_at m p fd ≡ None
  -- so do notices
  pub notices_in_order : IsCounted notice_number 0 m.notice_list.notices
  pub notices_counted : length m.notice_list.notices ≡ m.notice_list.made
  -- each thread has a place for its binding
  pub places : length m.process_table.threads ≤ length m.bindings

pub record Invariant (m : State) : Type 0 where
  pub consistent : IsConsistent m
  pub children : (p : ℕ) (q : Pid) → parent_of m p ≡ Some q → IsChildOf m p q.0
  -- doors that an Idle thread is bound to are valid
  pub idle_valid :
      (t d since : ℕ) → (core m).role t ≡ is.Idle since → (core m).bound t ≡ Some d → is_valid_in ((core m).door d) ≡ true
  -- no pool has both a waiting item and an Idle thread
  pub given_out : All (λ w. pick m (pool_of m w.door) ≡ None) (waiting_items m)
  -- the associations and the timers have been seen to
  pub told : AreTold m
