use Rattle.kernel_store.proofs.Waits.{waits_anew, waits_kept}
use Rattle.kernel_store.proofs.ports.note_references.Goals as goal

pub returns-then-of_port : goal.returns-then-of_port
returns-then-of_port c = λ before same known. waits_anew c.args.processes.now c.args.held.now c.args.ports.now.ports.ports c.find_ended.result c.find_ended.ensures

pub returns-else-of_port : goal.returns-else-of_port
returns-else-of_port c = λ before same known. waits_kept c.args.processes.now before c.args.held.now c.args.ports.now.ports.ports c.args.ended.now (same c.if-of_port.false) known
