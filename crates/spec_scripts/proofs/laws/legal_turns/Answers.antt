use Rattle.spec_requests.proofs.SoundScripts.{sound-spelled}
use Rattle.spec_scripts.proofs.RunTurns.{run-may_turn}
use Rattle.spec_scripts.proofs.laws.legal_turns.Goals as goal

pub returns : goal.returns
returns c = λ text script ts t s allowed can. run-may_turn script ts t (sound-spelled text script s) allowed can
