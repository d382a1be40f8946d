use Rattle.sys_run.proofs.FirstTurns.{nothing_told}
use Rattle.sys_run.proofs.playing.Playing.next.Goals as goal

pub returns-in-Err-clause-event : goal.returns-in-Err-clause-event
returns-in-Err-clause-event c = nothing_told c.args.self.now
