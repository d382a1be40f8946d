use Rattle.spec_requests.proofs.SoundScripts.{sound-spelled}
use Rattle.spec_scripts.proofs.RunTurns.{run-declared}
use Rattle.spec_scripts.proofs.laws.declared_names.Goals as goal

pub returns : goal.returns
returns c = λ text script ts s allowed. run-declared script ts (sound-spelled text script s) allowed
