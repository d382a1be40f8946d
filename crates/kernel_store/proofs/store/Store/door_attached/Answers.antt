use Rattle.std.proofs.Common.{[], ◌∷◌}
use Rattle.dk_base.specs.declared.object.Obj.TheVariants as obj
use Rattle.kernel_store.proofs.There.{held_there}
use Rattle.kernel_store.proofs.store.Store.door_attached.Goals as goal

pub returns-clause-there : goal.returns-clause-there
returns-clause-there c = rw (← c.self.view_is) (λ named. held_there c.self.inside.doors.items c.self.inside.held (obj.Door c.door_attached.result ∷ []) c.self.invariant.1 (c.door_attached.ensures.held named))
