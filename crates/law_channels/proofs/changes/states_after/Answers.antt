use Rattle.law_channels.proofs.Changed.{act_is_after}
use Rattle.law_channels.proofs.Kept.{forgotten_is_after, settled_is_after}
use Rattle.law_channels.proofs.changes.states_after.Goals as goal

pub returns-clause-act : goal.returns-clause-act
returns-clause-act c = act_is_after

pub returns-clause-settled : goal.returns-clause-settled
returns-clause-settled c = settled_is_after

pub returns-clause-kept : goal.returns-clause-kept
returns-clause-kept c = forgotten_is_after
