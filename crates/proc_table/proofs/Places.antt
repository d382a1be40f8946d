-- Threads that have not ended are there.
use Rattle.std.proofs.Common.{◌≡◌, ℕ, zero, suc, ◌-◌, ◌<◌, true, false, List, [], ◌∷◌, Option, length, slice_get, refl, sym, ap, ◌∙◌, arith}
use Rattle.spec_records.specs.declared.record.Thread.{Thread}
use Rattle.spec_records.specs.declared.record.ThreadState.{ThreadState}
use Rattle.spec_records.specs.declared.record.ThreadState.TheVariants as is
use Rattle.dk_base.specs.ByNumber.{at_number}
use Rattle.spec_records.specs.Words.{is_done, is_idle, state_in}
use Rattle.spec_records.proofs.Lists.{at_number-suc}

place_there : (xs : List Thread) (k : ℕ) → is_done (state_in (slice_get xs k)) ≡ false → k < length xs
place_there [] k e = cc
place_there (x ∷ xs) zero e = omega arith
place_there (x ∷ xs) (suc k) e = omega (arith, place_there xs k e)

pub thread_there : (xs : List Thread) (n : ℕ) → is_done (state_in (at_number xs n)) ≡ false → (0 < n) × (n - 1 < length xs)
thread_there xs zero e = cc
thread_there xs (suc k) e =
    let h : is_done (state_in (slice_get xs k)) ≡ false = sym (ap (λ (o : Option Thread). is_done (state_in o)) (at_number-suc xs k)) ∙ e in
    let l : k < length xs = place_there xs k h in
    (omega arith, omega arith)

pub idle_is_not_done : (s : ThreadState) → is_idle s ≡ true → is_done s ≡ false
idle_is_not_done is.Done e = cc
idle_is_not_done _ e = refl
