use Rattle.std.proofs.Common.{◌+◌, get_or, subst, sym, arith}
use Rattle.std.proofs.lemmas.List.{length-take, take_all, take_more}
use Rattle.proc_table.specs.Standing.{AreNoted}
use Rattle.proc_table.proofs.Noting.{noted_push}
use Rattle.proc_table.proofs.standing.Standing.of.Goals as goal

pub loop-i-preserved : goal.loop-i-preserved
loop-i-preserved c =
    let d = c.index-threads-i.result in
    let i = c.loop-i.i in
    let l = c.loop-i-test.true in
    subst (AreNoted c.note.new.self) (sym (take_more c.args.threads.now i d l))
    (noted_push c.loop-i.invariant (i + 1) (get_or c.args.threads.now i d) (omega (arith, l, length-take i c.args.threads.now)) c.note.ensures)

pub returns : goal.returns
returns c = subst (AreNoted c.loop-i.standing) (take_all c.loop-i.i c.args.threads.now c.loop-i-test.false) c.loop-i.invariant
