use Rattle.spec_requests.proofs.SoundScripts.{sound-spelled}
use Rattle.spec_requests.proofs.laws.sound_scripts.Goals as goal

pub returns : goal.returns
returns c = sound-spelled
