-- What a kernel tests holds of the state for which it stands.
use Rattle.std.proofs.Common.{◌≡◌, ℕ, ◌<◌, Option, None, Some, true, false, sym, subst, ◌∙◌}
use Rattle.dk_base.specs.declared.limits.TheConstants.{EVENTS_MAX}
use Rattle.dk_base.specs.declared.request.Request.TheVariants as request
use Rattle.spec_kernel.specs.Types.{Request}
use Rattle.spec_kernel.specs.Words.{IsFit, MayTurn, StandsFor, State, forget, is_runnable, is_running}
use Rattle.spec_kernel.proofs.Forget.{is_runnable-forget}

fit-forget : (m : State) (t : ℕ) (r : Request) → IsFit (forget m) t r → IsFit m t r
fit-forget m t (request.Interrupt thread) f = f
fit-forget m t (request.Kill process) f = f
fit-forget m t (request.Fork child) f = f
fit-forget m t (request.Read fd max) f = f
fit-forget m t (request.GetN port max nget wait) f = f
fit-forget m t (request.TimerSet timer first interval) f = f
fit-forget m t (request.Advance by) f = f
fit-forget m t r f = tt

forget-fit : (m : State) (t : ℕ) (r : Request) → IsFit m t r → IsFit (forget m) t r
forget-fit m t (request.Interrupt thread) f = f
forget-fit m t (request.Kill process) f = f
forget-fit m t (request.Fork child) f = f
forget-fit m t (request.Read fd max) f = f
forget-fit m t (request.GetN port max nget wait) f = f
forget-fit m t (request.TimerSet timer first interval) f = f
forget-fit m t (request.Advance by) f = f
forget-fit m t r f = tt

pub fit-stands : (kernel m : State) (t : ℕ) (r : Request) → StandsFor kernel m → IsFit kernel t r → IsFit m t r
fit-stands kernel m t r stands fit = fit-forget m t r (subst (λ k. IsFit k t r) stands fit)

pub fit-kept : (kernel m : State) (t : ℕ) (r : Request) → StandsFor kernel m → IsFit m t r → IsFit kernel t r
fit-kept kernel m t r stands fit = subst (λ k. IsFit k t r) (sym stands) (forget-fit m t r fit)

-- a turn that may be taken in the written state, the kernel may take
may-forget : (m : State) (t : ℕ) (q : Option Request) → MayTurn m t q → MayTurn (forget m) t q
may-forget m t (Some r) may = record { running = may.running; fit = forget-fit m t r may.fit; few = may.few }
may-forget m t None may = record { runnable = is_runnable-forget m t ∙ may.runnable; waits = may.waits; few = may.few }

pub may-kept : (kernel m : State) (t : ℕ) (q : Option Request) → StandsFor kernel m → MayTurn m t q → MayTurn kernel t q
may-kept kernel m t q stands may = subst (λ k. MayTurn k t q) (sym stands) (may-forget m t q may)

-- and the other way
pub may-enter : (kernel m : State) (t : ℕ) (r : Request) → StandsFor kernel m → is_running m t ≡ true → IsFit kernel t r → kernel.events < EVENTS_MAX → MayTurn m t (Some r)
may-enter kernel m t r stands running fit few =
    record { running = running; fit = fit-stands kernel m t r stands fit; few = subst (λ (k : State). k.events < EVENTS_MAX) stands few }

pub may-go_on : (kernel m : State) (t : ℕ) → StandsFor kernel m → is_runnable m t ≡ true → is_running m t ≡ false → kernel.events < EVENTS_MAX → MayTurn m t None
may-go_on kernel m t stands runnable waits few =
    record { runnable = runnable; waits = waits; few = subst (λ (k : State). k.events < EVENTS_MAX) stands few }
