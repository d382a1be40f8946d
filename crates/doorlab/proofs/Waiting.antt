-- No more threads wait than there are.
use Rattle.std.proofs.Common.{◌≡◌, ℕ, ◌+◌, ◌≤◌, Bool, true, false, List, [], ◌∷◌, ◌++◌, length, zero, suc, Result, Ok, Err, IfOk, refl, subst, arith, length-append}
use Rattle.std.specs.Prelude.{if◌then◌else◌}
use Rattle.dk_base.specs.declared.limits.TheConstants.{THREADS_MAX}
use Rattle.spec_records.specs.Words.{tid}
use Rattle.spec_kernel.specs.Types.{Tid}
use Rattle.spec_kernel.specs.Words.{State, is_waiting_state, state_of, waiting_among, waiting_threads}

one_more : (n : ℕ) (xs : List Tid) (t : Tid) (b : Bool) → length xs ≤ n → length (xs ++ (if b then t ∷ [] else [])) ≤ suc n
one_more n xs t true h = simp length-append (omega arith)
one_more n xs t false h = simp length-append (omega arith)

few_among : (m : State) (n : ℕ) → length (waiting_among m n) ≤ n
few_among m zero = omega arith
few_among m (suc n) = one_more n (waiting_among m n) (tid (suc n)) (is_waiting_state (state_of m (suc n))) (few_among m n)

pub few_waiting :
    {E : Type 0} (r : Result (List Tid) E) (m : State) (n : ℕ) → n ≡ length m.process_table.threads → n ≤ THREADS_MAX →
    IfOk r (λ waiting. waiting ≡ waiting_threads m) → IfOk r (λ waiting. length waiting ≤ THREADS_MAX)
few_waiting (Ok waiting) m n count few is =
    let some : length (waiting_threads m) ≤ length m.process_table.threads = few_among m (length m.process_table.threads) in
    rw is (omega arith)
few_waiting (Err e) m n count few is = is
