use Rattle.doors_top.proofs.Checks.{is_checked}
use Rattle.doors_top.proofs.check.checked_inputs.Goals as goal

pub returns : goal.returns
returns c =
    is_checked (record {
      read = c.read_is_spelled.ensures;
      sound = c.sound_scripts.ensures;
      every = c.every_run.ensures;
      legal = c.legal_traces.ensures.found;
      again = c.legal_traces.ensures.again;
      differs = c.first_differences.ensures.found;
      first = c.first_differences.ensures.again;
      decided = c.text_is_decided.ensures;
      found = c.parts.ensures.found;
      none = c.parts.ensures.none;
    })
