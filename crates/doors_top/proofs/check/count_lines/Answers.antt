use Rattle.std.proofs.Common.{arith}
use Rattle.doors_top.proofs.LineCounts.{lines_few}
use Rattle.doors_top.proofs.check.count_lines.Goals as goal

pub overflow_add-count : goal.overflow_add-count
overflow_add-count c = omega (arith, c.loop-others.invariant, lines_few c.args.text.now, c.requires)

pub returns-clause-small : goal.returns-clause-small
returns-clause-small c = omega (arith, c.loop-others.invariant, lines_few c.args.text.now, c.requires)
