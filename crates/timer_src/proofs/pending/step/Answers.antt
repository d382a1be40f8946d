use Rattle.std.proofs.Common.{◌≡◌, get_or, arith, ap}
use Rattle.std.proofs.lemmas.Grind.{common_steps}
use Rattle.std.proofs.lemmas.List.Edits.{map_over_more}
use Rattle.timer_src.specs.declared.pending.Pending.{Pending}
use Rattle.timer_src.specs.Pending.{next_from, stepped}
use Rattle.timer_src.proofs.pending.step.Goals as goal

pub loop-p-preserved : goal.loop-p-preserved
loop-p-preserved c =
    let i = c.loop-p.p-index in
    let ps = c.loop-p.pendings in
    let none : Pending = record { number = 0; process = 0; id = 0; port = 0; user = 0; next = 0; interval = 0 } in
    let x = get_or ps i none in
    let read : x ≡ get_or ps i x = grind (arith, common_steps) in
    rw c.next_from-p.ensures (map_over_more (stepped c.args.clock) c.args.pendings.now ps i x (omega arith) c.loop-p.invariant read)
