use Rattle.std.proofs.Common.{if◌then◌else◌, sym, ap, ◌∙◌}
use Rattle.spec_records.specs.Words.{ProcessTable, change_thread, ended_thread, interrupted_where}
use Rattle.exit_paths.specs.Words.{deserted_as}
use Rattle.exit_paths.proofs.Fated.{agrees_interrupted, own_pool_interrupted, there_changed}
use Rattle.law_pools.proofs.Unparking.{change_twice}
use Rattle.exit_paths.proofs.fates.leave_thread.Goals as goal

pub desert-requires : goal.desert-requires
desert-requires c =
    let same = own_pool_interrupted c.args.processes.now c.args.pools.now.bindings c.args.t.0 c.args.fate.interrupted in
    λ parks.
    let can = c.requires parks in
    rw c.interrupt_where.ensures
    (record {
      there = there_changed c.args.processes.now c.args.t.0 (interrupted_where c.args.fate.interrupted) can.there;
      room = rw same can.room;
      later = rw same can.later;
    })

pub returns-then-fate-clause-agreed : goal.returns-then-fate-clause-agreed
returns-then-fate-clause-agreed c = λ doors tree list h. c.end_thread.ensures.agreed c.args.now doors tree list h

pub returns-clause-thread : goal.returns-clause-thread
returns-clause-thread c =
    let table = c.args.processes.now in
    let t = c.args.t.0 in
    let fate = c.args.fate in
    c.desert.ensures.thread
    ∙ ap (λ (x : ProcessTable). change_thread x t (deserted_as c.args.now fate.desertion)) c.interrupt_where.ensures
    ∙ change_twice table t (interrupted_where fate.interrupted) (deserted_as c.args.now fate.desertion)
    ∙ ap
    (λ b. change_thread table t (λ x. if b then ended_thread x else deserted_as c.args.now fate.desertion (interrupted_where fate.interrupted x)))
    (sym c.if-fate.false)

pub returns-clause-agreed : goal.returns-clause-agreed
returns-clause-agreed c = λ doors tree list h.
    c.desert.ensures.agreed doors tree list (rw c.interrupt_where.ensures (agrees_interrupted h c.args.t.0 c.args.fate.interrupted))
