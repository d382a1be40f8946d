use Rattle.std.proofs.Common.{[], ◌∷◌, refl, rules}
use Rattle.dk_base.specs.declared.object.Obj.TheVariants as obj
use Rattle.kernel_store.proofs.There.{there_more}
use Rattle.kernel_store.proofs.Waits.{waits_kept}
use Rattle.kernel_store.proofs.store.Store.attach.Goals as goal

pub invariant_of-self : goal.invariant_of-self
invariant_of-self c = (search rules, there_more c.self.inside.doors.items c.self.inside.held c.attach.new.self (obj.Door c.args.door ∷ []) c.self.invariant.1 (rw (← c.self.view_is) at c.requires.can_hold.there) c.attach.ensures.references, search rules, search rules, c.self.invariant.4, waits_kept c.self.inside.processes c.self.inside.held c.attach.new.self c.self.inside.ports.ports.ports c.self.inside.ended (λ q. c.attach.ensures.others (obj.Port q) refl) c.self.invariant.5)
