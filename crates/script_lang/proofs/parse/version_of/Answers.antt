use Rattle.std.proofs.Common.{rules}
use Rattle.script_lang.proofs.Versions.{version_spelled}
use Rattle.script_lang.proofs.parse.version_of.Goals as goal

pub returns-then-eq : goal.returns-then-eq
returns-then-eq c = let spelled = version_spelled c.args.line.now in rw spelled (search rules)

pub returns-then-eq-2 : goal.returns-then-eq-2
returns-then-eq-2 c = let spelled = version_spelled c.args.line.now in rw spelled (search rules)

pub returns-then-eq-3 : goal.returns-then-eq-3
returns-then-eq-3 c = let spelled = version_spelled c.args.line.now in rw spelled (search rules)

pub returns-then-eq-4 : goal.returns-then-eq-4
returns-then-eq-4 c = let spelled = version_spelled c.args.line.now in rw spelled (search rules)

pub returns-else-eq-4 : goal.returns-else-eq-4
returns-else-eq-4 c = let spelled = version_spelled c.args.line.now in rw spelled (search rules)
