use Rattle.std.proofs.lemmas.List.Elements.{All-weaker}
use Rattle.spec_requests.specs.DeclaredNames.{IsDeclaredEvent}
use Rattle.spec_requests.proofs.SoundScripts.{sound-spelled}
use Rattle.spec_scripts.specs.Words.{run}
use Rattle.spec_scripts.proofs.RunTurns.{run-declared}
use Rattle.spec_traces.specs.Turns.{HasReadableLine}
use Rattle.spec_traces.proofs.EventLines.{is_event_line}
use Rattle.spec_traces.proofs.laws.lines_of_events.Goals as goal

pub returns : goal.returns
returns c = λ text script turns s allowed.
    All-weaker (IsDeclaredEvent script) (HasReadableLine script) (is_event_line text script s) (run script turns).events
    (run-declared script turns (sound-spelled text script s) allowed).events
