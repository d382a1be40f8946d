-- A turn wakes no more threads than there are.
use Rattle.std.proofs.Common.{◌≤◌, ◌&&◌, ◌++◌, ℕ, zero, suc, List, [], ◌∷◌, Bool, true, false, not, if◌then◌else◌, Option, length, arith, length-append}
use Rattle.dk_base.specs.declared.limits.TheConstants.{THREADS_MAX}
use Rattle.spec_records.specs.Words.{tid}
use Rattle.spec_kernel.specs.Types.{Request, Tid}
use Rattle.spec_kernel.specs.Step.{step}
use Rattle.spec_kernel.specs.Words.{State, is_runnable, woken_among}
use Rattle.spec_kernel.proofs.Steps.{threads-step}

one-more : (ts : List Tid) (t n : ℕ) (woken : Bool) → length ts ≤ n → length (ts ++ (if woken then tid t ∷ [] else [])) ≤ suc n
one-more ts t n true few = omega (arith, length-append ts (tid t ∷ []))
one-more ts t n false few = omega (arith, length-append {A = Tid} ts [])

length-woken_among : (before after : State) (n : ℕ) → length (woken_among before after n) ≤ n
length-woken_among before after zero = omega arith
length-woken_among before after (suc n) =
    one-more (woken_among before after n) (suc n) n (not (is_runnable before (suc n)) && is_runnable after (suc n)) (length-woken_among before after n)

pub few-woken : (m : State) (t : ℕ) (q : Option Request) → length m.process_table.threads ≤ THREADS_MAX → length (step m t q).woken ≤ THREADS_MAX
unfolding step
few-woken m t q few =
    let after = (step m t q).state in
    omega (arith, length-woken_among m after (length after.process_table.threads), threads-step m t q)
