-- The state in which a history begins, by the processes and threads that it declares.
use Rattle.std.specs.Prelude.{ℕ, ◌+◌, List, [], ◌∷◌, Option, Some, None, map}
use Rattle.spec_kernel.specs.Types.{Pid}
use Rattle.spec_kernel.specs.Words.{State, opening, with_child, with_new_thread}
use Rattle.spec_histories.specs.declared.opening.OpeningProcess.{OpeningProcess}
use Rattle.spec_histories.specs.declared.opening.OpeningThread.{OpeningThread}

abbrev pub limit_of : OpeningProcess → ℕ
limit_of p = p.limit

-- process n is a child, where it has a parent
abbrev pub with_parent : State → ℕ → Option Pid → State
with_parent m n None = m
with_parent m n (Some parent) = with_child m n parent.0

-- of these processes, where so many stand before them
abbrev pub with_children : State → ℕ → List OpeningProcess → State
with_children m before [] = m
with_children m before (x ∷ xs) = with_children (with_parent m (before + 1) x.parent) (before + 1) xs

abbrev pub with_threads : State → List OpeningThread → State
with_threads m [] = m
with_threads m (x ∷ xs) = with_threads (with_new_thread m x.process.0 x.spare) xs

-- processes with their limits, then which of them are children, then the threads: those of processes that have begun run, and spares and
-- the threads of children are dormant
abbrev pub opening_of : List OpeningProcess → List OpeningThread → State
opening_of processes threads = with_threads (with_children (opening (map limit_of processes)) 0 processes) threads
