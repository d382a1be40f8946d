use Rattle.std.proofs.Common.{[], ◌∷◌, rules}
use Rattle.kernel_store.proofs.There.{there_more}
use Rattle.kernel_store.proofs.Waits.{one_port, others_kept}
use Rattle.kernel_store.proofs.store.Store.insert.Goals as goal

pub invariant_of-self : goal.invariant_of-self
invariant_of-self c = (search rules, there_more c.self.inside.doors.items c.self.inside.held c.insert-fd.new.self (c.args.object ∷ []) c.self.invariant.1 (rw (← c.self.view_is) at c.requires.can_hold.there) c.insert-fd.ensures.references, search rules, search rules, c.self.invariant.4, c.note_references.ensures c.self.inside.held (others_kept c.self.inside.held c.insert-fd.new.self (c.args.object ∷ []) c.is_port.result (one_port c.args.object c.is_port.result c.is_port.ensures) c.insert-fd.ensures.others) c.self.invariant.5)
