use Rattle.kernel_store.proofs.AnyOrder.{started_so}
use Rattle.kernel_store.proofs.store.Store.start_as_well.Goals as goal

pub returns-in-Some-clause-state : goal.returns-in-Some-clause-state
returns-in-Some-clause-state c =
    started_so c.args.self.now c.start_spare.new.self c.start_spare.ensures.agreed c.args.process c.in-Some.p c.in-Some.is c.start_spare.ensures.state
