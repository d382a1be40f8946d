use Rattle.spec_traces.proofs.Replays.{replay_text, replay_turns, replay_unrefused, run_same}
use Rattle.spec_traces.proofs.ScheduledText.{replay_spelled}
use Rattle.spec_traces.proofs.laws.replay.Goals as goal

pub returns-clause-run : goal.returns-clause-run
returns-clause-run c = λ script turns others. run_same script turns others

pub returns-clause-unrefused : goal.returns-clause-unrefused
returns-clause-unrefused c = λ script turns allowed. replay_unrefused script turns allowed

pub returns-clause-turns : goal.returns-clause-turns
returns-clause-turns c = λ script turns allowed over. replay_turns script turns allowed over

pub returns-clause-text : goal.returns-clause-text
returns-clause-text c = λ script turns. replay_text script turns

pub returns-clause-spelled : goal.returns-clause-spelled
returns-clause-spelled c = λ source script turns s allowed. replay_spelled source script turns s allowed
