-- What a look under the lock finds of the run: whether it has ended, who is runnable, and which threads are marked.
use Rattle.std.specs.Prelude.{ℕ, ◌==◌, ◌||◌, Bool, List, Option, find}
use Rattle.std.specs.List.{list_any}
use Rattle.spec_kernel.specs.Types.{Tid}
use Rattle.spec_kernel.specs.Words.{State, is_runnable}
use Rattle.spec_scripts.specs.Words.{is_over}
use Rattle.sys_run.specs.Sys.{SysValue, history}

-- no turn may be taken any more: the run was stopped, or is over
abbrev pub has_ended : SysValue → Bool → Bool
has_ended sys stopped = stopped || is_over sys.script (history sys)

abbrev pub is_member : List Tid → ℕ → Bool
is_member threads t = list_any (λ (other : Tid). other.0 == t) threads

-- the first of these threads that is runnable
abbrev pub first_runnable_of : State → List Tid → Option Tid
first_runnable_of m threads = find (λ (t : Tid). is_runnable m t.0) threads
