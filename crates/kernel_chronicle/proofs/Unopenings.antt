-- Why there is no kernel.
use Rattle.std.proofs.Common.{◌≡◌, ◌≤◌, ◌<◌, ◌+◌, ℕ, List, [], ◌∷◌, ◌++◌, length, refl, ap, arith, length-append}
use Rattle.spec_histories.specs.declared.opening.OpeningProcess.{OpeningProcess}
use Rattle.spec_histories.specs.declared.opening.OpeningThread.{OpeningThread}
use Rattle.kernel_handle.specs.Openings.{IsNoOpening}
use Rattle.kernel_handle.specs.Shapes.{process_in, processes_from, processes_of, threads_of}
use Rattle.kernel_handle.specs.declared.opening.NotOpening.{NotOpening}
use Rattle.kernel_handle.specs.declared.opening.NotOpening.TheVariants as fault
use Rattle.kernel_handle.specs.declared.shape.ProcessShape.{ProcessShape}
use Rattle.kernel_chronicle.specs.declared.refusal.Unopened.{Unopened}
use Rattle.kernel_chronicle.specs.declared.refusal.Unopened.TheVariants as why
use Rattle.kernel_chronicle.specs.Openings.{HasNoHeadRoom, IsCauseOfUnopened, IsNoStart, unopened_for}
use Rattle.kernel_chronicle.specs.Statuses.{unopened_number}

count_from : (before : List OpeningProcess) (ss : List ProcessShape) → length (processes_from before ss) ≡ length before + length ss
count_from before [] = omega arith
count_from before (s ∷ ss) = omega (arith, count_from (before ++ process_in before s ∷ []) ss, length-append before (process_in before s ∷ []))

pub count_processes : (ss : List ProcessShape) → length (processes_of ss) ≡ length ss
count_processes ss = omega (arith, count_from [] ss)

pub cause_of_held :
    (ss : List ProcessShape) (why : NotOpening) → IsNoOpening (processes_of ss) (threads_of ss) why → (room : ℕ) → IsCauseOfUnopened ss room (unopened_for why)
cause_of_held ss fault.ManyProcesses h room = record { fault = fault.ManyProcesses; is = h; cause = λ e. cc e }
cause_of_held ss fault.ManyThreads h room = record { fault = fault.ManyThreads; is = h; cause = λ e. cc e }
cause_of_held ss fault.Limit h room = record { fault = fault.Limit; is = h; cause = λ e. cc e }
cause_of_held ss fault.Parent h room = record { fault = fault.Parent; is = h; cause = λ e. cc e }
cause_of_held ss fault.Process h room = record { fault = fault.Process; is = h; cause = λ e. cc e }
cause_of_held ss fault.NoMemory h room = tt

pub many_threads : (ss : List ProcessShape) (threads : List OpeningThread) → threads ≡ threads_of ss → 1000 ≤ length threads → IsNoStart ss
many_threads ss threads is many = record { fault = fault.ManyThreads; is = omega (arith, many, ap length is); cause = λ e. cc e }

pub many_processes : (ss : List ProcessShape) → 64 < length ss → IsNoStart ss
many_processes ss many = record { fault = fault.ManyProcesses; is = omega (arith, many, count_processes ss); cause = λ e. cc e }

-- by the numbers that C gets

pub no_start : (ss : List ProcessShape) (room : ℕ) (w : Unopened) → IsCauseOfUnopened ss room w → unopened_number w ≡ 7 → IsNoStart ss
no_start ss room why.NoOpening h e = h
no_start ss room why.NoMemory h e = absurd (omega (arith, e))
no_start ss room why.NoRoom h e = absurd (omega (arith, e))

pub no_head_room : (ss : List ProcessShape) (room : ℕ) (w : Unopened) → IsCauseOfUnopened ss room w → unopened_number w ≡ 6 → HasNoHeadRoom ss room
no_head_room ss room why.NoOpening h e = absurd (omega (arith, e))
no_head_room ss room why.NoMemory h e = absurd (omega (arith, e))
no_head_room ss room why.NoRoom h e = h

pub never_done : (w : Unopened) → unopened_number w ≡ 0 → ⊥
never_done why.NoOpening e = omega (arith, e)
never_done why.NoMemory e = omega (arith, e)
never_done why.NoRoom e = omega (arith, e)
