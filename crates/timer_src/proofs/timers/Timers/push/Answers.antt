use Rattle.std.proofs.Common.{arith, refl}
use Rattle.timer_src.proofs.Kept.{kept_made}
use Rattle.timer_src.proofs.timers.Timers.push.Goals as goal

pub invariant_of-self : goal.invariant_of-self
invariant_of-self c =
    let room = rw (← c.self.view_is) at c.requires.room in
    rw c.push.ensures.items (kept_made c.self.inside.clock c.self.inside.made c.self.inside.table.items c.self.inside.armed c.self.inside.armed c.self.invariant _ refl c.requires.id.0 refl (omega (arith, room)))
