use Rattle.law_places.proofs.Runs.{invariant_at}
use Rattle.law_places.proofs.laws.every_state.Goals as goal

pub returns : goal.returns
returns c = invariant_at
