use Rattle.std.proofs.Common.{◌∙◌, ap, length, sym}
use Rattle.sys_run.proofs.Opens.{not_err, thread_process, threads_more}
use Rattle.sys_run.proofs.opening.add_threads.Goals as goal

pub loop-below-preserved : goal.loop-below-preserved
loop-below-preserved c =
    let added = not_err c.add_thread.result _ c.add_thread.ensures.ok (sym c.if-is_err.ensures.value)
    in (
      threads_more
          c.args.script.now.threads
          _
          _
          _
          c.loop-below.below
          _
          _
          c.loop-below.invariant.0
          c.process_of.ensures
          c.is_spare.ensures
          added,
      ap (λ k. k.events) added ∙ c.loop-below.invariant.1,
      ap (λ k. length k.process_table.processes) added ∙ c.loop-below.invariant.2,
    )

pub add_thread-requires-clause-declared : goal.add_thread-requires-clause-declared
add_thread-requires-clause-declared c =
    thread_process c.args.script.now c.loop-below.kernel _ c.process_of.result c.requires.sound c.loop-below.invariant.2 c.process_of.ensures
