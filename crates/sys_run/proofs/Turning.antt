-- What may be entered, and whose wait may end, in a kernel that stands for a state.
use Rattle.std.proofs.Common.{ℕ, ◌∙◌, None, sym, subst}
use Rattle.spec_kernel.specs.Words.{MayGoOn, MayTurn, StandsFor, State, forget}
use Rattle.spec_kernel.proofs.Forget.{is_runnable-forget}

MayGoOn-forget : (m : State) (t : ℕ) → MayGoOn m t → MayGoOn (forget m) t
MayGoOn-forget m t h = record { runnable = is_runnable-forget m t ∙ h.runnable; waits = h.waits; few = h.few }

pub may_go_on-kept : (kept m : State) (t : ℕ) → StandsFor kept m → MayTurn m t None → MayGoOn kept t
may_go_on-kept kept m t stands h = subst (λ k. MayGoOn k t) (sym stands) (MayGoOn-forget m t h)
