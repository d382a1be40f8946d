-- Causes by the numbers that C gets.
use Rattle.std.proofs.Common.{◌≡◌, ◌≤◌, ℕ, List, Ok, Err, Result, arith}
use Rattle.std.specs.Prelude.{IfErr}
use Rattle.kernel_chronicle.specs.declared.asked.Asked.{Asked}
use Rattle.kernel_chronicle.specs.declared.refusal.Refusal.{Refusal}
use Rattle.kernel_chronicle.specs.declared.refusal.Refusal.TheVariants as why
use Rattle.kernel_chronicle.specs.Statuses.{turn_number}
use Rattle.kernel_chronicle.specs.Written.{IsCauseOfEnter, IsCauseOfGoOn, IsReasonOfEnter, IsReasonOfGoOn, Written}

pub reason_of_enter :
    (w : Written) (q : Asked) (given items : List ℕ) (turn : Result (Unit {0}) Refusal) →
    IfErr turn (λ r. IsCauseOfEnter w q given items r) → IsReasonOfEnter w q given items (turn_number turn)
reason_of_enter w q given items (Ok done) h =
    record { full = λ e. absurd (omega (arith, e)); not_running = λ e. absurd (omega (arith, e)); never = λ e. omega (arith, e); not_fit = λ e. absurd (omega (arith, e)); known = omega arith }
reason_of_enter w q given items (Err why.Full) h =
    record { full = λ e. h; not_running = λ e. absurd (omega (arith, e)); never = λ e. omega (arith, e); not_fit = λ e. absurd (omega (arith, e)); known = omega arith }
reason_of_enter w q given items (Err why.NotRunning) h =
    record { full = λ e. absurd (omega (arith, e)); not_running = λ e. h; never = λ e. omega (arith, e); not_fit = λ e. absurd (omega (arith, e)); known = omega arith }
reason_of_enter w q given items (Err why.NotReady) h = absurd h
reason_of_enter w q given items (Err why.NotFit) h =
    record { full = λ e. absurd (omega (arith, e)); not_running = λ e. absurd (omega (arith, e)); never = λ e. omega (arith, e); not_fit = λ e. h; known = omega arith }
reason_of_enter w q given items (Err why.NoMemory) h =
    record { full = λ e. absurd (omega (arith, e)); not_running = λ e. absurd (omega (arith, e)); never = λ e. omega (arith, e); not_fit = λ e. absurd (omega (arith, e)); known = omega arith }

pub reason_of_go_on :
    (w : Written) (t : ℕ) (turn : Result (Unit {0}) Refusal) →
    IfErr turn (λ r. IsCauseOfGoOn w t r) → IsReasonOfGoOn w t (turn_number turn)
reason_of_go_on w t (Ok done) h =
    record { full = λ e. absurd (omega (arith, e)); never = λ e. omega (arith, e); not_ready = λ e. absurd (omega (arith, e)); nothing_asked = λ e. omega (arith, e); known = omega arith }
reason_of_go_on w t (Err why.Full) h =
    record { full = λ e. h; never = λ e. omega (arith, e); not_ready = λ e. absurd (omega (arith, e)); nothing_asked = λ e. omega (arith, e); known = omega arith }
reason_of_go_on w t (Err why.NotRunning) h = absurd h
reason_of_go_on w t (Err why.NotReady) h =
    record { full = λ e. absurd (omega (arith, e)); never = λ e. omega (arith, e); not_ready = λ e. h; nothing_asked = λ e. omega (arith, e); known = omega arith }
reason_of_go_on w t (Err why.NotFit) h = absurd h
reason_of_go_on w t (Err why.NoMemory) h =
    record { full = λ e. absurd (omega (arith, e)); never = λ e. omega (arith, e); not_ready = λ e. absurd (omega (arith, e)); nothing_asked = λ e. omega (arith, e); known = omega arith }
