use Rattle.std.proofs.Common.{◌≡◌, Option, Some, ◌++◌, ◌∙◌, ap, arith, filter, length, sym}
use Rattle.spec_records.proofs.Places.{length-change_first}
use Rattle.spec_records.specs.declared.timer.Arming.{Arming}
use Rattle.spec_records.specs.Words.{is_timer, with_arming}
use Rattle.timer_src.specs.Pending.{is_above, is_below}
use Rattle.timer_src.proofs.Kept.{first_moment, kept_set, ordered, roomy}
use Rattle.timer_src.proofs.timers.Timers.arm.Goals as goal

pub put-requires-clause-order : goal.put-requires-clause-order
put-requires-clause-order c = ordered c.self.inside.clock c.self.inside.made c.self.inside.table.items c.self.inside.armed c.self.inside.armed c.self.invariant

pub put-requires-clause-room : goal.put-requires-clause-room
put-requires-clause-room c =
    let there = rw (← c.self.view_is) at c.requires.there in
    roomy c.self.inside.clock c.self.inside.made c.self.inside.table.items c.self.inside.armed c.self.inside.armed c.self.invariant (is_timer c.args.process.0 c.args.id) c.args.t there

pub invariant_of-self : goal.invariant_of-self
invariant_of-self c =
    let there = rw (← c.self.view_is) at c.requires.there in
    let n = c.args.t.number in
    let ps = c.self.inside.armed.items in
    let a : Option Arming = Some (record { clock = c.self.inside.clock; first = c.args.first; interval = c.args.interval }) in
    let one = first_moment c.self.inside.clock c.args.first c.args.interval c.args.t c.requires.first.0 in
    rw c.set_arming.ensures.items
    (kept_set c.self.inside.clock c.self.inside.made c.self.inside.table.items c.self.inside.armed c.put.new.self c.self.invariant c.args.process.0 c.args.id a c.args.t there
    (c.put.ensures.items ∙ ap (λ qs. filter (is_below n) ps ++ (qs ++ filter (is_above n) ps)) (sym one)) c.put.ensures.capacity)

pub returns-clause-room : goal.returns-clause-room
returns-clause-room c =
    let a : Option Arming = Some (record { clock = c.self.inside.clock; first = c.args.first; interval = c.args.interval }) in
    let same : length c.set_arming.new.self.items ≡ length c.self.inside.table.items = ap length c.set_arming.ensures.items ∙ length-change_first (is_timer c.args.process.0 c.args.id) (with_arming a) c.self.inside.table.items in
    rw (← c.self.view_is) (omega (arith, same, c.set_arming.ensures.spare, c.put.ensures.capacity))
