use Rattle.spec_records.proofs.Moments.{counts_add_up}
use Rattle.timer_src.proofs.laws.counts_add_up.Goals as goal

pub returns : goal.returns
returns c = counts_add_up
