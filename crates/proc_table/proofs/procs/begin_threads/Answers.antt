use Rattle.std.proofs.Common.{get_or, slice_set, ap, ◌∙◌, add-one, arith}
use Rattle.spec_records.proofs.NumberedLists.{map_first-all}
use Rattle.spec_records.specs.Words.{begun_thread}
use Rattle.proc_table.proofs.Members.{mapped_next}
use Rattle.proc_table.proofs.procs.begin_threads.Goals as goal

pub loop-i-preserved : goal.loop-i-preserved
loop-i-preserved c =
    let f = begun_thread c.args.p.0 in
    let i = c.loop-i.i in
    let d = c.index-threads-i.result in
    rw add-one
    (ap (λ y. slice_set c.loop-i.threads i y) c.begin_where_first.ensures
    ∙ ap (λ ys. slice_set ys i (f (get_or ys i d))) c.loop-i.invariant
    ∙ mapped_next f i c.args.threads.now d c.loop-i-test.true)

pub returns : goal.returns
returns c = c.loop-i.invariant ∙ map_first-all (begun_thread c.args.p.0) c.loop-i.i c.args.threads.now (omega arith)
