use Rattle.script_lang.proofs.Texts.{show_row}
use Rattle.script_lang.proofs.worked.shown_text.Goals as goal

pub returns : goal.returns
returns c = show_row
