-- The tests of turns say which turns may be taken.
use Rattle.std.proofs.Common.{◌≡◌, ℕ, ◌≤◌, ◌<◌, Bool, true, false, Option, Some, None, refl, sym, ap, arith, length}
use Rattle.std.specs.Prelude.{◌&&◌, nat_le, nat_lt, not}
use Rattle.std.proofs.lemmas.Bool.{and_parts}
use Rattle.std.proofs.lemmas.Bool.Decides.{nat_tests}
use Rattle.dk_base.specs.declared.limits.TheConstants.{ADVANCE_MAX, CLOCK_MAX, DATA_MAX, DELAY_MAX, EVENTS_MAX}
use Rattle.dk_base.specs.declared.request.Request.TheVariants as request
use Rattle.spec_records.specs.Words.{pid}
use Rattle.spec_kernel.specs.Types.{Pid, Request}
use Rattle.spec_kernel.specs.Words.{IsFit, MayEnter, MayGoOn, State, is_runnable, is_running, parent_of, process_of}
use Rattle.history_check.specs.Turns.{is_fit, is_number_of, is_process, may_enter, may_go_on}

number_is : (count n : ℕ) → is_number_of count n ≡ true → (1 ≤ n) × (n ≤ count)
number_is count n e = let p = and_parts (nat_le 1 n) (nat_le n count) e in (grind (arith, nat_tests, p.0), grind (arith, nat_tests, p.1))

is_number : (count n : ℕ) → 1 ≤ n → n ≤ count → is_number_of count n ≡ true
is_number count n low high = grind (arith, nat_tests)

process_is : (p : ℕ) (other : Option Pid) → is_process p other ≡ true → other ≡ Some (pid p)
process_is p None e = cc
process_is p (Some other) e = let same : other.0 ≡ p = grind (arith, nat_tests) in ap (λ (n : ℕ). Some (pid n)) same

is_that_process : (p : ℕ) (other : Option Pid) → other ≡ Some (pid p) → is_process p other ≡ true
is_that_process p other e = rw e (grind (arith, nat_tests))

pub fit_is : (m : State) (t : ℕ) (r : Request) → is_fit m t r ≡ true → IsFit m t r
fit_is m t (request.Interrupt thread) e = number_is (length m.process_table.threads) thread.0 e
fit_is m t (request.Kill process) e = number_is (length m.process_table.processes) process.0 e
fit_is m t (request.Fork child) e = process_is (process_of m t) (parent_of m child.0) e
fit_is m t (request.Read fd most) e = number_is DATA_MAX most e
fit_is m t (request.GetN port most least wait) e = grind (arith, nat_tests)
fit_is m t (request.TimerSet timer first interval) e =
    let p = and_parts (nat_le first DELAY_MAX) (nat_le interval DELAY_MAX) e in (grind (arith, nat_tests, p.0), grind (arith, nat_tests, p.1))
fit_is m t (request.Advance by) e =
    let p = and_parts (nat_le 1 by) (nat_le by ADVANCE_MAX && nat_le m.channels.timers.clock CLOCK_MAX) e in
    let q = and_parts (nat_le by ADVANCE_MAX) (nat_le m.channels.timers.clock CLOCK_MAX) p.1 in
    (grind (arith, nat_tests, p.0), grind (arith, nat_tests, q.0), grind (arith, nat_tests, q.1))
fit_is m t other e = tt

pub is_fit_where : (m : State) (t : ℕ) (r : Request) → IsFit m t r → is_fit m t r ≡ true
is_fit_where m t (request.Interrupt thread) h = is_number (length m.process_table.threads) thread.0 h.0 h.1
is_fit_where m t (request.Kill process) h = is_number (length m.process_table.processes) process.0 h.0 h.1
is_fit_where m t (request.Fork child) h = is_that_process (process_of m t) (parent_of m child.0) h
is_fit_where m t (request.Read fd most) h = is_number DATA_MAX most h.0 h.1
is_fit_where m t (request.GetN port most least wait) h = grind (arith, nat_tests)
is_fit_where m t (request.TimerSet timer first interval) h =
    let low : first ≤ DELAY_MAX = h.0 in let high : interval ≤ DELAY_MAX = h.1 in grind (arith, nat_tests)
is_fit_where m t (request.Advance by) h =
    let low : 1 ≤ by = h.0 in let high : by ≤ ADVANCE_MAX = h.1 in let early : m.channels.timers.clock ≤ CLOCK_MAX = h.2 in grind (arith, nat_tests)
is_fit_where m t other h = refl

few : (n : ℕ) → nat_lt n EVENTS_MAX ≡ true → n < EVENTS_MAX
few n e = grind (arith, nat_tests)

is_few : (n : ℕ) → n < EVENTS_MAX → nat_lt n EVENTS_MAX ≡ true
is_few n h = grind (arith, nat_tests)

pub enter_may : (m : State) (t : ℕ) (r : Request) → may_enter m t r ≡ true → MayEnter m t r
enter_may m t r e =
    let p = and_parts (is_running m t) (is_fit m t r && nat_lt m.events EVENTS_MAX) e in
    let q = and_parts (is_fit m t r) (nat_lt m.events EVENTS_MAX) p.1 in
    record { running = p.0; fit = fit_is m t r q.0; few = few m.events q.1 }

both : (a b : Bool) → a ≡ true → b ≡ true → (a && b) ≡ true
both a b e f = rw (e, f) refl

pub may_enter_where : (m : State) (t : ℕ) (r : Request) → MayEnter m t r → may_enter m t r ≡ true
may_enter_where m t r h =
    both (is_running m t) (is_fit m t r && nat_lt m.events EVENTS_MAX) h.running
    (both (is_fit m t r) (nat_lt m.events EVENTS_MAX) (is_fit_where m t r h.fit) (is_few m.events h.few))

not_true : (b : Bool) → not b ≡ true → b ≡ false
not_true true e = cc
not_true false e = refl

pub go_on_may : (m : State) (t : ℕ) → may_go_on m t ≡ true → MayGoOn m t
go_on_may m t e =
    let p = and_parts (is_runnable m t) (not (is_running m t) && nat_lt m.events EVENTS_MAX) e in
    let q = and_parts (not (is_running m t)) (nat_lt m.events EVENTS_MAX) p.1 in
    record { runnable = p.0; waits = not_true (is_running m t) q.0; few = few m.events q.1 }

pub may_go_on_where : (m : State) (t : ℕ) → MayGoOn m t → may_go_on m t ≡ true
may_go_on_where m t h =
    both (is_runnable m t) (not (is_running m t) && nat_lt m.events EVENTS_MAX) h.runnable
    (both (not (is_running m t)) (nat_lt m.events EVENTS_MAX) (ap not h.waits) (is_few m.events h.few))

by_test : (a b : Bool) → (a ≡ true → b ≡ true) → (b ≡ true → a ≡ true) → a ≡ b
by_test true b there back = sym (there refl)
by_test false true there back = back refl
by_test false false there back = refl

-- a test that is true exactly where the request is fit is this one
pub fit_test : (b : Bool) (m : State) (t : ℕ) (r : Request) → (b ≡ true → IsFit m t r) → (IsFit m t r → b ≡ true) → b ≡ is_fit m t r
fit_test b m t r there back = by_test b (is_fit m t r) (λ e. is_fit_where m t r (there e)) (λ e. back (fit_is m t r e))
