use Rattle.std.proofs.Common.{sym}
use Rattle.history_check.specs.Openings.{opening_processes, opening_threads}
use Rattle.history_check.proofs.Begun.{no_event}
use Rattle.history_check.proofs.walk.Walk.events.Goals as goal

pub returns-in-None : goal.returns-in-None
returns-in-None g c = rw c.in-None.is (sym (no_event (opening_processes c.args.self.now.names) (opening_threads c.args.self.now.names)))
