use Rattle.std.proofs.Common.{length}
use Rattle.script_lang.proofs.NamesSteps.{NamesSoFar}
use Rattle.script_lang.proofs.names.tables_of_text.Given as goal

abbrev pub invariant-loop-line : goal.invariant-loop-line
invariant-loop-line l = NamesSoFar l.names l.rest l.text

abbrev pub decreases-loop-line : goal.decreases-loop-line
decreases-loop-line l = length l.rest
