use Rattle.kernel_store.proofs.HeldNotices.{one_tells}
use Rattle.kernel_store.proofs.leaving.held_by_one.Goals as goal

pub returns : goal.returns
returns c doors = one_tells c.args.processes.now doors c.args.thread c.note_held.new.into.items (c.note_held.ensures.noted doors)
