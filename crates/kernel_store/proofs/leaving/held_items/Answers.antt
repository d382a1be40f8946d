use Rattle.kernel_store.proofs.leaving.held_items.Goals as goal

pub returns-in-Ended : goal.returns-in-Ended
returns-in-Ended c = rw c.in-Ended.is c.held_by_one.ensures

pub returns-in-EndedProcess : goal.returns-in-EndedProcess
returns-in-EndedProcess c = rw c.in-EndedProcess.is c.held_by_all.ensures
