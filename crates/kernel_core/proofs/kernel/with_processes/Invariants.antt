use Rattle.std.proofs.Common.{ℕ, ◌≡◌, ◌+◌, ◌≤◌, length, drop}
use Rattle.spec_kernel.specs.Words.{with_processes}
use Rattle.kernel_store.specs.Words.{IsAtRest, stored_state}
use Rattle.kernel_core.proofs.kernel.with_processes.Given as goal

abbrev pub invariant-loop-limit : goal.invariant-loop-limit
invariant-loop-limit l =
    record {
      added : with_processes (stored_state l.store) (drop l.limit-index l.limits) ≡ with_processes (stored_state l.fn.store) l.limits;
      few : length l.store.processes.processes + length l.limits ≤ 64 + l.limit-index;
      tables : length l.store.tables + length l.limits ≤ 64 + l.limit-index;
      rest : (n : ℕ) → IsAtRest n l.fn.store → IsAtRest n l.store;
    }
