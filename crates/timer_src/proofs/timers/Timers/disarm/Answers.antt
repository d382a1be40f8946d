use Rattle.std.proofs.Common.{None, ◌∙◌, ap, arith, length}
use Rattle.spec_records.proofs.Places.{length-change_first}
use Rattle.spec_records.specs.Words.{is_timer, with_arming}
use Rattle.timer_src.proofs.Kept.{kept_set, ordered}
use Rattle.timer_src.proofs.timers.Timers.disarm.Goals as goal

pub remove-requires : goal.remove-requires
remove-requires c = ordered c.self.inside.clock c.self.inside.made c.self.inside.table.items c.self.inside.armed c.self.inside.armed c.self.invariant

pub invariant_of-self : goal.invariant_of-self
invariant_of-self c =
    let there = rw (← c.self.view_is) at c.requires in
    rw c.set_arming.ensures.items
    (kept_set c.self.inside.clock c.self.inside.made c.self.inside.table.items c.self.inside.armed c.remove.new.self c.self.invariant c.args.process.0 c.args.id None c.args.t there c.remove.ensures.items c.remove.ensures.capacity)

pub returns-clause-room : goal.returns-clause-room
returns-clause-room c =
    let same = ap length c.set_arming.ensures.items ∙ length-change_first (is_timer c.args.process.0 c.args.id) (with_arming None) c.self.inside.table.items in
    rw (← c.self.view_is) (omega (arith, same, c.set_arming.ensures.spare, c.remove.ensures.capacity))
