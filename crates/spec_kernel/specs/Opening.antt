-- The opening state: processes, of which some are children that have not begun, and threads of them that run or are dormant.
use Rattle.std.specs.Prelude.{ℕ, ◌≡◌, ◌+◌, ◌<◌, ◌≤◌, ◌++◌, ◌==◌, List, [], ◌∷◌, Bool, false, None, length, replicate}
use Rattle.std.specs.List.{list_any}
use Rattle.dk_base.specs.declared.limits.TheConstants.{THREADS_MAX}
use Rattle.spec_records.specs.Words.{no_associations, no_timers}
use Rattle.spec_records.specs.Words.{empty_table, make_child, new_process, new_thread_where}
use Rattle.spec_kernel.specs.Types.{Thread}
use Rattle.spec_kernel.specs.State.{State, is_unborn_process, table_of}

abbrev pub no_process : State
no_process =
    record {
      process_table = record { processes = []; threads = [] };
      bindings = replicate THREADS_MAX None;
      tables = [];
      names = [];
      doors = [];
      call_tree = record { made = 0; calls = [] };
      notice_list = record { made = 0; notices = [] };
      channels = record { pipes = []; ports = []; associations = no_associations; timers = no_timers };
      events = 0;
    }

abbrev pub with_new_process : State → ℕ → State
with_new_process m limit =
    record m {
      process_table =
          record m.process_table { processes = m.process_table.processes ++ new_process (length m.process_table.processes + 1) limit ∷ [] };
      tables = m.tables ++ empty_table limit ∷ [];
    }

abbrev pub with_processes : State → List ℕ → State
with_processes m [] = m
with_processes m (limit ∷ limits) = with_processes (with_new_process m limit) limits

-- processes with these limits, and nothing else
abbrev pub opening : List ℕ → State
opening limits = with_processes no_process limits

-- a process is a child of another
abbrev pub with_child : State → ℕ → ℕ → State
with_child m child parent = record m { process_table = make_child m.process_table child parent }

-- one thread more: it is Dormant where it is a spare, or its process has not begun
abbrev pub with_new_thread : State → ℕ → Bool → State
with_new_thread m p spare =
    record m {
      process_table =
          record m.process_table {
            threads = m.process_table.threads ++ new_thread_where (is_unborn_process m p) (length m.process_table.threads + 1) p spare ∷ [];
          };
    }

abbrev pub is_thread_of : ℕ → Thread → Bool
is_thread_of p x = x.process.0 == p

-- the states in which a run may begin
pub data IsOpening : State → Type 0 where
  processes : (limits : List ℕ) → IsOpening (opening limits)
  -- a child is above its parent, may have as many descriptors, and has no thread yet
  child :
      {m : State} (child parent : ℕ) → 1 ≤ parent → parent < child → child ≤ length m.process_table.processes →
      length (table_of m child) ≡ length (table_of m parent) → list_any (is_thread_of child) m.process_table.threads ≡ false →
      IsOpening m → IsOpening (with_child m child parent)
  -- a thread is of a process that is there, and there is a place for its binding
  thread :
      {m : State} (p : ℕ) (spare : Bool) → 1 ≤ p → p ≤ length m.process_table.processes → length m.process_table.threads < THREADS_MAX →
      IsOpening m → IsOpening (with_new_thread m p spare)
