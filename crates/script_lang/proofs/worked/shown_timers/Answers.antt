use Rattle.script_lang.proofs.Texts.{show_timers}
use Rattle.script_lang.proofs.worked.shown_timers.Goals as goal

pub returns : goal.returns
returns c = show_timers
