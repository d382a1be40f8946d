use Rattle.std.proofs.Common.{◌≡◌, ◌≤◌, length, ap, subst, ◌∙◌, sym}
use Rattle.dk_base.specs.declared.limits.TheConstants.{EVENTS_MAX}
use Rattle.spec_kernel.specs.Words.{State}
use Rattle.spec_histories.specs.Histories.{History}
use Rattle.kernel_handle.proofs.Growing.{events-end, few-end}
use Rattle.kernel_handle.proofs.recorder.Recorder.events.Goals as goal

pub returns-clause-entries : goal.returns-clause-entries
returns-clause-entries g c =
    subst (λ (h : History). c.events.result ≡ length h.entries) c.self.view_is
    (c.events.ensures.count ∙ ap (λ (k : State). k.events) c.self.invariant.stands ∙ events-end c.self.inside.story.history c.self.invariant.history)

pub returns-clause-few : goal.returns-clause-few
returns-clause-few g c =
    subst (λ n. n ≤ EVENTS_MAX) (sym (c.events.ensures.count ∙ ap (λ (k : State). k.events) c.self.invariant.stands))
    (few-end c.self.inside.story.history c.self.invariant.history)
