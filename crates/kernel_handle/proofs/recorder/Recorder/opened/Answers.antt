use Rattle.spec_kernel.specs.Words.{State}
use Rattle.std.proofs.Common.{ap, ◌∙◌}
use Rattle.kernel_handle.proofs.Growing.{record-begun}
use Rattle.kernel_handle.proofs.recorder.Recorder.opened.Goals as goal

pub invariant_of-result : goal.invariant_of-result
invariant_of-result g c =
    record-begun (g.K.Answers.keeps c.args.kernel) g.opening c.begin.result.history c.begin.ensures c.requires.1.0
    (c.events.ensures.opening (ap (λ (n : State). n.events) c.requires.1.0 ∙ c.requires.1.1))
