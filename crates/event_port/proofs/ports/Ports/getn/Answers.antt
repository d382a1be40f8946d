use Rattle.event_port.proofs.Changed.{none_taken}
use Rattle.event_port.proofs.ports.Ports.getn.Goals as goal

pub returns-then-max-eq0-clause-ports : goal.returns-then-max-eq0-clause-ports
returns-then-max-eq0-clause-ports c = none_taken c.args.self.now.ports c.args.p c.args.max c.if-max-eq0.true
