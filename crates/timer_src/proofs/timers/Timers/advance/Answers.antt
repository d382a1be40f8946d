use Rattle.std.proofs.Common.{◌+◌, ◌++◌, ◌∙◌, ap, arith, length, sym}
use Rattle.timer_src.specs.Pending.{told}
use Rattle.timer_src.proofs.Kept.{kept_moved}
use Rattle.timer_src.proofs.Pendings.{fewer, told_all}
use Rattle.timer_src.proofs.timers.Timers.advance.Goals as goal

pub advance-requires-clause-room : goal.advance-requires-clause-room
advance-requires-clause-room c =
    let few = fewer c.self.inside.clock c.self.inside.table.items in
    let same = ap length c.self.invariant.3 in
    let room = rw (← c.self.view_is) at c.requires.room in
    omega (arith, few, same, room)

pub invariant_of-self : goal.invariant_of-self
invariant_of-self c =
    let early = rw (← c.self.view_is) at c.requires.clock in
    kept_moved c.self.inside.clock c.self.inside.made c.self.inside.table.items c.self.inside.armed c.advance.new.self c.self.invariant c.args.by (omega (arith, early, c.requires.by)) c.advance.ensures.items c.advance.ensures.capacity

pub returns-clause-dues : goal.returns-clause-dues
returns-clause-dues c =
    let clock = c.self.inside.clock in
    rw (← c.self.view_is)
    (c.advance.ensures.told ∙ ap (λ ps. c.args.into.now.items ++ told (clock + c.args.by) ps) c.self.invariant.3
    ∙ ap (λ ds. c.args.into.now.items ++ ds) (sym (told_all clock (clock + c.args.by) (omega arith) c.self.inside.table.items)))
