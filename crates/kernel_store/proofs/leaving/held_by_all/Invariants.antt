use Rattle.std.proofs.Common.{◌≡◌, ◌+◌, ◌-◌, ◌≤◌, ℕ, Some, length, true}
use Rattle.std.specs.List.{list_any}
use Rattle.dk_base.specs.declared.limits.TheConstants.{THREADS_MAX}
use Rattle.dk_base.specs.declared.object.Item.TheVariants as item
use Rattle.proc_table.specs.Words.{Walks}
use Rattle.dk_base.specs.Words.{has}
use Rattle.unref_notice.specs.Words.{is_notice_item}
use Rattle.kernel_store.specs.Held.{held_at}
use Rattle.kernel_store.proofs.leaving.held_by_all.Given as goal

abbrev pub invariant-loop-t : goal.invariant-loop-t
invariant-loop-t l = record {
  walks : Walks l.initial.walk.rest l.walk;
  room : length l.processes.threads ≤ l.held.spare + l.walk.done;
  listed : (t c : ℕ) → t ≤ l.walk.done → has l.initial.walk.rest t ≡ true → held_at l.processes t ≡ Some (item.Notice c) → list_any (is_notice_item c) l.held.items ≡ true;
}

abbrev pub decreases-loop-t : goal.decreases-loop-t
decreases-loop-t l = THREADS_MAX - l.walk.done
