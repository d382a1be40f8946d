use Rattle.spec_records.proofs.Moments.{none_when_armed}
use Rattle.timer_src.proofs.laws.none_when_armed.Goals as goal

pub returns : goal.returns
returns c = none_when_armed
