use Rattle.std.proofs.Common.{ap, arith, length}
use Rattle.spec_records.specs.Words.{is_timer_of_other}
use Rattle.timer_src.proofs.Kept.{kept_ended, shorter}
use Rattle.timer_src.proofs.timers.Timers.end_process.Goals as goal

pub invariant_of-self : goal.invariant_of-self
invariant_of-self c =
    rw c.end_process.ensures.items
    (kept_ended c.self.inside.clock c.self.inside.made c.self.inside.table.items c.self.inside.armed c.end_process-2.new.self c.self.invariant c.args.process.0 c.end_process-2.ensures.items c.end_process-2.ensures.capacity)

pub returns-clause-room : goal.returns-clause-room
returns-clause-room c =
    let same = ap length c.end_process.ensures.items in
    let less = shorter (is_timer_of_other c.args.process.0) c.self.inside.table.items in
    rw (← c.self.view_is) (omega (arith, same, less, c.end_process.ensures.spare, c.end_process-2.ensures.capacity))
