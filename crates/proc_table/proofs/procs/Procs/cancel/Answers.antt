use Rattle.std.proofs.Common.{ap, ◌∙◌, arith}
use Rattle.std.proofs.lemmas.List.{length-set}
use Rattle.spec_records.specs.Words.{cancelled_thread}
use Rattle.proc_table.proofs.Members.{crews_kept}
use Rattle.proc_table.proofs.Noting.{changed, noted_same}
use Rattle.proc_table.proofs.procs.Procs.cancel.Goals as goal

pub invariant_of-self : goal.invariant_of-self
invariant_of-self c =
    (c.self.invariant.0, c.self.invariant.1, omega (arith, c.self.invariant.2, length-set c.self.inside.threads.items c.in-Some.place c.cancel.new.thread), noted_same c.self.invariant.3 c.in-Some.place c.cancel.new.thread c.index_mut-thread.result.now (rw (← c.deref.ensures.value) c.in-Some.ensures.place.1) (ap (λ y. y.state) c.cancel.ensures ∙ ap (λ y. y.state) c.index_mut-thread.ensures.value), crews_kept c.self.invariant.4 c.in-Some.place c.cancel.new.thread c.index_mut-thread.result.now (rw (← c.deref.ensures.value) c.in-Some.ensures.place.1) (ap (λ y. y.number) c.cancel.ensures ∙ ap (λ y. y.number) c.index_mut-thread.ensures.value) (ap (λ y. y.process) c.cancel.ensures ∙ ap (λ y. y.process) c.index_mut-thread.ensures.value))

pub returns-in-Some : goal.returns-in-Some
returns-in-Some c = rw (← c.self.view_is) (changed (record { processes = c.self.inside.processes.items; threads = c.self.inside.threads.items }) (cancelled_thread) c.args.t.0 c.in-Some.place c.index_mut-thread.result.now c.cancel.new.thread c.in-Some.ensures.place.0 (rw (← c.deref.ensures.value) c.in-Some.ensures.place.1) (c.cancel.ensures ∙ ap (cancelled_thread) c.index_mut-thread.ensures.value))
