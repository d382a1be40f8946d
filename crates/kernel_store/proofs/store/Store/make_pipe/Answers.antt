use Rattle.std.proofs.Common.{[], ◌∷◌, refl, rules}
use Rattle.dk_base.specs.declared.object.Obj.TheVariants as obj
use Rattle.kernel_store.proofs.There.{there_more}
use Rattle.kernel_store.proofs.Waits.{waits_kept}
use Rattle.kernel_store.proofs.store.Store.make_pipe.Goals as goal

pub invariant_of-self : goal.invariant_of-self
invariant_of-self c = (search rules, there_more c.self.inside.doors.items c.self.inside.held c.insert_two.new.self (obj.PipeIn c.create-number.result ∷ obj.PipeOut c.create-number.result ∷ []) c.self.invariant.1 (λ d none. refl) c.insert_two.ensures.references, search rules, search rules, c.self.invariant.4, waits_kept c.self.inside.processes c.self.inside.held c.insert_two.new.self c.self.inside.ports.ports.ports c.self.inside.ended (λ q. c.insert_two.ensures.others (obj.Port q) refl) c.self.invariant.5)
