use Rattle.std.proofs.Common.{refl}
use Rattle.history_check.specs.Openings.{opening_processes, opening_threads}
use Rattle.history_check.proofs.Begun.{no_time}
use Rattle.history_check.proofs.walk.Walk.is_late.Goals as goal

pub returns-in-None : goal.returns-in-None
returns-in-None g c = rw (c.in-None.is, no_time (opening_processes c.args.self.now.names) (opening_threads c.args.self.now.names)) refl
