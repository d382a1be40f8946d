-- No more threads wait than there are.
use Rattle.std.proofs.Common.{◌≡◌, ◌≤◌, ◌+◌, ℕ, List, [], ◌∷◌, ◌++◌, Bool, true, false, length, zero, suc, arith, length-append}
use Rattle.std.specs.Prelude.{if◌then◌else◌}
use Rattle.spec_kernel.specs.Types.{Tid}
use Rattle.spec_records.specs.Words.{tid}
use Rattle.spec_kernel.specs.Words.{State, is_waiting_state, state_of, waiting_threads}
use Rattle.spec_kernel.specs.Turns.{waiting_among}

at_most_one : (here : Bool) (t : Tid) → length (if here then t ∷ [] else []) ≤ 1
at_most_one true t = omega arith
at_most_one false t = omega arith

waiting_count : (m : State) (n : ℕ) → length (waiting_among m n) ≤ n
waiting_count m zero = omega arith
waiting_count m (suc n) =
    let here = is_waiting_state (state_of m (suc n)) in
    omega (arith, waiting_count m n, length-append (waiting_among m n) (if here then tid (suc n) ∷ [] else []), at_most_one here (tid (suc n)))

pub few_waiting : (m : State) → length (waiting_threads m) ≤ length m.process_table.threads
few_waiting m = waiting_count m (length m.process_table.threads)
