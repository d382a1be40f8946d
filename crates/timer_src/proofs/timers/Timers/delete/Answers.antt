use Rattle.std.proofs.Common.{◌∙◌, ap, arith, length, sym}
use Rattle.spec_records.specs.Words.{is_other_timer}
use Rattle.timer_src.proofs.Alone.{nothing_deleted}
use Rattle.timer_src.proofs.Kept.{kept_deleted, ordered, shorter}
use Rattle.timer_src.proofs.timers.Timers.delete.Goals as goal

pub remove-requires-2 : goal.remove-requires-2
remove-requires-2 c = ordered c.self.inside.clock c.self.inside.made c.self.inside.table.items c.self.inside.armed c.self.inside.armed c.self.invariant

pub invariant_of-self : goal.invariant_of-self
invariant_of-self c =
    rw c.remove.ensures.items
    (kept_deleted c.self.inside.clock c.self.inside.made c.self.inside.table.items c.self.inside.armed c.remove-2.new.self c.self.invariant c.args.process.0 c.args.id c.in-Some.t (sym c.in-Some.ensures.found) (sym c.remove.ensures.first ∙ c.remove.ensures.items) c.remove-2.ensures.items c.remove-2.ensures.capacity)

pub returns-clause-room : goal.returns-clause-room
returns-clause-room c =
    let same = ap length c.remove.ensures.items in
    let less = shorter (is_other_timer c.args.process.0 c.args.id) c.self.inside.table.items in
    rw (← c.self.view_is) (omega (arith, same, less, c.remove.ensures.spare, c.remove-2.ensures.capacity))

pub returns-in_default-clause-list : goal.returns-in_default-clause-list
returns-in_default-clause-list c =
    let none = sym c.get.ensures.found ∙ c.in_default.is in rw (← c.self.view_is) (nothing_deleted _ c.args.process.0 c.args.id none)
