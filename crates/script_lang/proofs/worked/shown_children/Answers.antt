use Rattle.script_lang.proofs.Texts.{show_children}
use Rattle.script_lang.proofs.worked.shown_children.Goals as goal

pub returns : goal.returns
returns c = show_children
