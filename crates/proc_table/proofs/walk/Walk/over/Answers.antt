use Rattle.proc_table.proofs.Walking.{begins}
use Rattle.proc_table.proofs.walk.Walk.over.Goals as goal

pub returns-clause-walks : goal.returns-clause-walks
returns-clause-walks c = begins c.args.set
