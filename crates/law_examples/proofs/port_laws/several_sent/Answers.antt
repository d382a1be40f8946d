use Rattle.std.proofs.Common.{[], ◌∷◌, false, None, refl, lit<, lit≤}
use Rattle.dk_base.specs.declared.object.Obj.TheVariants as obj
use Rattle.spec_kernel.specs.Words.{step}
use Rattle.spec_kernel.specs.Opening.IsOpening.{processes, thread}
use Rattle.law_runs.specs.PortEvents.{Found, SendError, sent_event}
use Rattle.law_examples.proofs.port_laws.several_sent.Goals as goal

pub returns-clause-goes : goal.returns-clause-goes
unfolding step
returns-clause-goes c =
    record { opens = thread 1 false (lit≤ tt) (lit≤ tt) (lit< tt) (processes (256 ∷ [])); taken = refl; answered = refl; over = refl }

pub returns-clause-first : goal.returns-clause-first
unfolding step
returns-clause-first c = record { error = None; there = refl; why = SendError.none 1 (record { number = 1; alert = None; queue = [] }) refl refl (lit< tt) }

pub returns-clause-not_open : goal.returns-clause-not_open
unfolding step
returns-clause-not_open c = record { error = _; there = refl; why = SendError.not_open refl }

pub returns-clause-no_port : goal.returns-clause-no_port
unfolding step
returns-clause-no_port c = record { error = _; there = refl; why = SendError.no_port (obj.PipeIn 1) refl (λ q e. cc) }

pub returns-clause-second : goal.returns-clause-second
unfolding step
returns-clause-second c = record { error = None; there = refl; why = SendError.none 1 (record { number = 1; alert = None; queue = [] }) refl refl (lit< tt) }

pub returns-clause-both : goal.returns-clause-both
unfolding step
returns-clause-both c =
    record { before = _; there = refl; after = _; there_after = refl; found = Found.first (sent_event 2 3 ∷ sent_event 2 3 ∷ []) [] refl refl refl (lit≤ tt) }
