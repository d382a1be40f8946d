use Rattle.std.proofs.Common.{◌<◌, arith}
use Rattle.thread_machine.proofs.Leaving.{on-the-way-first, closes-met, next-line, ends-before}
use Rattle.thread_machine.proofs.Positions.{slice_get-index}
use Rattle.thread_machine.proofs.place.position_after_block.Goals as goal

pub overflow_add-open : goal.overflow_add-open
overflow_add-open c = let few : c.args.depth < 8 = c.requires.few in omega arith

pub loop-at-init : goal.loop-at-init
loop-at-init c = on-the-way-first c.args.body.now c.args.depth c.args.position c.requires.few c.requires.nested

pub new_depth-open-requires-clause-open : goal.new_depth-open-requires-clause-open
new_depth-open-requires-clause-open c =
    closes-met
    c.args.body.now
    c.args.depth
    c.args.position
    c.loop-at.at
    c.loop-at.open
    c.index-body-at.result
    c.loop-at.invariant
    (slice_get-index c.args.body.now c.loop-at.at c.index-body-at.result c.loop-at-test.true c.index-body-at.is)

pub new_depth-open-requires-clause-few : goal.new_depth-open-requires-clause-few
new_depth-open-requires-clause-few c = omega (arith, c.loop-at.invariant.few)

pub returns-then-open-depth : goal.returns-then-open-depth
returns-then-open-depth c =
    (next-line
    c.args.body.now
    c.args.depth
    c.args.position
    c.loop-at.at
    c.loop-at.open
    c.new_depth-open.result
    c.index-body-at.result
    c.loop-at.invariant
    (slice_get-index c.args.body.now c.loop-at.at c.index-body-at.result c.loop-at-test.true c.index-body-at.is)
    c.new_depth-open.ensures).after
    c.if-open-depth.true

pub loop-at-preserved : goal.loop-at-preserved
loop-at-preserved c =
    (next-line
    c.args.body.now
    c.args.depth
    c.args.position
    c.loop-at.at
    c.loop-at.open
    c.new_depth-open.result
    c.index-body-at.result
    c.loop-at.invariant
    (slice_get-index c.args.body.now c.loop-at.at c.index-body-at.result c.loop-at-test.true c.index-body-at.is)
    c.new_depth-open.ensures).inside
    c.if-open-depth.false

pub returns : goal.returns
returns c =
    absurd
    (ends-before c.args.body.now c.args.depth c.args.position c.loop-at.at c.loop-at.open c.loop-at.invariant c.loop-at-test.false)
