use Rattle.std.proofs.Common.{length}
use Rattle.line_text.specs.Words.{lines_of}
use Rattle.trace_check.proofs.Steps.{IsVerdictOfRest}
use Rattle.trace_check.proofs.walk.check_lines.Given as goal

abbrev pub invariant-loop-rest : goal.invariant-loop-rest
invariant-loop-rest l = IsVerdictOfRest l.initial.sys l.sys (lines_of l.trace) (lines_of l.rest)

abbrev pub decreases-loop-rest : goal.decreases-loop-rest
decreases-loop-rest l = length l.rest
