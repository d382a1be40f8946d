use Rattle.std.proofs.Common.{◌≤◌, length, ap, subst, sym}
use Rattle.dk_base.specs.declared.limits.TheConstants.{THREADS_MAX}
use Rattle.spec_kernel.specs.Words.{MayTurn}
use Rattle.spec_histories.specs.Histories.{History, end}
use Rattle.kernel_handle.proofs.Growing.{record-grown}
use Rattle.kernel_handle.proofs.Standing.{may-kept}
use Rattle.kernel_handle.proofs.Woken.{few-woken}
use Rattle.kernel_handle.proofs.recorder.Recorder.take.Goals as goal

pub turn-requires : goal.turn-requires
turn-requires g c =
    let may = subst (λ (h : History). MayTurn (end h) c.args.thread.0 c.args.request) (sym c.self.view_is) c.requires.may in
    may-kept (g.K.Answers.keeps c.self.inside.kernel) (end c.self.inside.story.history) c.args.thread.0 c.args.request c.self.invariant.stands may

pub invariant_of-self : goal.invariant_of-self
invariant_of-self g c =
    let h = c.self.inside.story.history in let kernel = g.K.Answers.keeps c.self.inside.kernel in
    let may = subst (λ (h : History). MayTurn (end h) c.args.thread.0 c.args.request) (sym c.self.view_is) c.requires.may in
    record-grown kernel (g.K.Answers.keeps c.turn.new.self) h c.with-story.result.history c.args.thread.0 c.args.request c.self.invariant c.with-story.ensures
    may (c.in-Ok.ensures.step (end h) c.self.invariant.stands).state

pub returns-in-Ok-clause-legal : goal.returns-in-Ok-clause-legal
returns-in-Ok-clause-legal g c = (invariant_of-self g c).history

pub returns-in-Ok-clause-few : goal.returns-in-Ok-clause-few
returns-in-Ok-clause-few g c =
    let m = end c.self.inside.story.history in
    let threads = subst (λ n. n ≤ THREADS_MAX) (c.threads.ensures.stands m c.self.invariant.stands) c.threads.ensures.few in
    subst (λ n. n ≤ THREADS_MAX) (sym (ap length (c.in-Ok.ensures.step m c.self.invariant.stands).woken)) (few-woken m c.args.thread.0 c.args.request threads)
