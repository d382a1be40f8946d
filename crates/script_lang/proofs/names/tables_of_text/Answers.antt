use Rattle.std.proofs.Common.{sym}
use Rattle.script_lang.proofs.NamesSteps.{names_begin, names_go_on, names_done}
use Rattle.script_lang.proofs.names.tables_of_text.Goals as goal

pub loop-line-init : goal.loop-line-init
loop-line-init c = rw c.new.ensures (names_begin _)

pub loop-line-preserved : goal.loop-line-preserved
loop-line-preserved c = rw c.in_ok-add.ensures (names_go_on _ _ _ _ _ c.in-Some.ensures.line c.in-Some.ensures.shorter c.loop-line.invariant)

pub returns : goal.returns
returns c = sym (names_done c.loop-line.names c.loop-line.rest.now c.args.text.now c.in_default.ensures.line c.loop-line.invariant)
