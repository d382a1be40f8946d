use Rattle.std.proofs.Common.{ℕ, ◌≤◌, ap, sym, subst, ◌∙◌, length}
use Rattle.spec_kernel.proofs.Opening.{opening_events, opening_processes, opening_threads}
use Rattle.test_seats.proofs.seated.is_done.Goals as goal

pub are_added-requires-clause-opening : goal.are_added-requires-clause-opening
are_added-requires-clause-opening g c = ap (λ k. k.events) c.in-Ok-new.ensures ∙ opening_events c.in-Ok.limits

pub are_added-requires-clause-none : goal.are_added-requires-clause-none
are_added-requires-clause-none g c = ap (λ k. k.process_table.threads) c.in-Ok-new.ensures ∙ opening_threads c.in-Ok.limits

pub are_added-requires-clause-processes : goal.are_added-requires-clause-processes
are_added-requires-clause-processes g c = (
  subst (λ (n : ℕ). 1 ≤ n) (sym (c.len.ensures ∙ ap length c.in-Ok.ensures)) c.requires.processes.0,
  ap (λ k. length k.process_table.processes) c.in-Ok-new.ensures ∙ opening_processes c.in-Ok.limits ∙ sym c.len.ensures,
)
