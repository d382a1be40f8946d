use Rattle.spec_scripts.proofs.Plays.{whole-play, refused-play, events-of-turns}
use Rattle.spec_scripts.proofs.laws.played_turns.Goals as goal

pub returns-clause-whole : goal.returns-clause-whole
returns-clause-whole c = whole-play

pub returns-clause-refused : goal.returns-clause-refused
returns-clause-refused c = refused-play

pub returns-clause-counted : goal.returns-clause-counted
returns-clause-counted c = events-of-turns
