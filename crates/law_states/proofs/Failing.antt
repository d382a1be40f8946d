-- An idle thread that lost its door fails, and goes on when it wakes.
use Rattle.std.specs.Prelude.{ℕ, ◌≡◌, List, Option, true, ◌==◌, ◌&&◌, if◌then◌else◌, None}
use Rattle.std.proofs.Common.{refl, ap}
use native.Mathlib.Omega.{arith}
use Rattle.std.proofs.lemmas.Bool.Decides.{nat_tests}
use Rattle.spec_kernel.specs.Types.{Request, ThreadState}
use Rattle.spec_records.specs.declared.record.ThreadState.TheVariants as is
use Rattle.spec_records.specs.Words.{bound_at, is_idle, set_thread_state, unbind_thread}
use Rattle.spec_kernel.specs.Words.{State, fail_return, has_invalid_door, has_lost_door, state_of, wake, with_state}
use Rattle.spec_records.proofs.Lists.{at_number-with_at_number}
use Rattle.law_states.specs.Core.{core, is_outside}
use Rattle.law_states.specs.Invariant.{IsConsistent}
use Rattle.law_states.proofs.Cores.{Turns, set_thread_state-turns}
use Rattle.law_states.proofs.Parts.{role_keeps}
use Rattle.law_states.proofs.Acts.{Does, does_thread, unbound_keeps}
use Rattle.law_states.proofs.Consistent.{not_unborn, same_tables, there, thread_consistent}

-- a thread that lost its door is idle
pub record IsIdleSince (m : State) (t : ℕ) : Type 0 where
  pub since : ℕ
  pub idle : state_of m t ≡ is.Idle since

pub idle_of_lost : (m : State) (t : ℕ) → has_lost_door m t ≡ true → IsIdleSince m t
idle_of_lost m t l = go (state_of m t) refl l
  where
    go : (s : ThreadState) → state_of m t ≡ s → is_idle s && has_invalid_door m t ≡ true → IsIdleSince m t
    go (is.Idle since) e f = record { since = since; idle = e }
    go s e f = absurd (grind arith)

-- bindings after a thread is unbound
pub bound-unbind_thread : (bindings : List (Option ℕ)) (t u : ℕ) → bound_at (unbind_thread bindings t) u ≡ (if u == t then None else bound_at bindings u)
bound-unbind_thread bindings t u = grind (arith, nat_tests, at_number-with_at_number bindings t u None)

-- what a thread that fails leaves

module _ (m : State) (t : ℕ) (since : ℕ) (e : state_of m t ≡ is.Idle since) where
  pub fail-turns : Turns m.process_table (set_thread_state m.process_table t is.FailedReturn) t is.FailedReturn (core m).serves
  fail-turns = set_thread_state-turns m.process_table t is.FailedReturn (there m t (λ z. grind arith))

  pub fail_return-keeps : IsConsistent m → IsConsistent (fail_return m t)
  fail_return-keeps h =
      unbound_keeps (with_state m t is.FailedReturn) t
      (thread_consistent m t _ m.tables is.FailedReturn _ h (same_tables m h) fail-turns
      (role_keeps (core m) t is.FailedReturn h.coherent (grind arith) refl refl refl (not_unborn m t h (λ z. grind arith)) (λ f. h.coherent.servers.outside t (ap is_outside e))))
      (grind (arith, nat_tests, fail-turns.role t))

-- a thread that failed is told EINVAL, and goes on
pub wake_does : (m : State) (t : ℕ) (q : Option Request) → IsConsistent m → state_of m t ≡ is.FailedReturn → Does m t q (wake m t)
wake_does m t q h e =
    does_thread m t q _ _ _ is.Running _ h (same_tables m h) (set_thread_state-turns m.process_table t is.Running (there m t (λ z. grind arith)))
    (role_keeps (core m) t is.Running h.coherent (grind arith) refl refl refl (not_unborn m t h (λ z. grind arith)) (λ f. absurd (grind arith)))
