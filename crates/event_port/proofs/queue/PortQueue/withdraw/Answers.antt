use Rattle.std.proofs.Common.{arith}
use Rattle.spec_records.specs.Words.{is_other_event, is_user_event}
use Rattle.event_port.proofs.Taken.{fewer_left}
use Rattle.event_port.proofs.queue.PortQueue.withdraw.Goals as goal

pub invariant_of-self : goal.invariant_of-self
invariant_of-self c =
    let fewer = fewer_left is_user_event (is_other_event c.args.assoc) c.self.inside.queue.items in
    (c.count_users-self-inside.ensures, rw c.count_users-self-inside.ensures (rw c.remove_event.ensures.items (omega (arith, fewer, c.self.invariant.0, c.self.invariant.1))))
