use Rattle.std.proofs.Common.{ap, ◌∙◌, arith}
use Rattle.std.proofs.lemmas.List.{length-set}
use Rattle.spec_records.specs.Words.{thread_at_state}
use Rattle.proc_table.proofs.Members.{crews_kept}
use Rattle.proc_table.proofs.Noting.{changed, noted_set}
use Rattle.proc_table.proofs.procs.Procs.set_state.Goals as goal

pub invariant_of-self : goal.invariant_of-self
invariant_of-self c =
    (c.self.invariant.0, c.self.invariant.1, omega (arith, c.self.invariant.2, length-set c.self.inside.threads.items c.thread_place-place.result c.turn.new.thread), noted_set c.self.invariant.3 c.thread_place-place.result c.args.t.0 c.turn.new.thread (rw (← c.deref.ensures.value) c.thread_place-place.ensures.there) c.thread_place-place.ensures.place c.note.ensures, crews_kept c.self.invariant.4 c.thread_place-place.result c.turn.new.thread c.index_mut-thread.result.now (rw (← c.deref.ensures.value) c.thread_place-place.ensures.there) (ap (λ y. y.number) c.turn.ensures ∙ ap (λ y. y.number) c.index_mut-thread.ensures.value) (ap (λ y. y.process) c.turn.ensures ∙ ap (λ y. y.process) c.index_mut-thread.ensures.value))

pub returns : goal.returns
returns c = rw (← c.self.view_is) (changed (record { processes = c.self.inside.processes.items; threads = c.self.inside.threads.items }) (thread_at_state c.args.state) c.args.t.0 c.thread_place-place.result c.index_mut-thread.result.now c.turn.new.thread c.thread_place-place.ensures.place (rw (← c.deref.ensures.value) c.thread_place-place.ensures.there) (c.turn.ensures ∙ ap (thread_at_state c.args.state) c.index_mut-thread.ensures.value))
