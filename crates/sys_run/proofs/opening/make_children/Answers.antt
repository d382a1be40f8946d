use Rattle.std.proofs.Common.{◌+◌, Some, None, refl, sym, subst, ◌∙◌}
use Rattle.sys_run.proofs.Opens.{OpensChildren, can-be-child, child-made, children-begin, children_more}
use Rattle.sys_run.proofs.opening.make_children.Goals as goal
use Rattle.sys_run.proofs.opening.make_children.Goals.{in-Some, in_default}

pub loop-below-init : goal.loop-below-init
loop-below-init c = (refl, children-begin _ _ c.requires.fresh)

pub make_child-requires-clause-order : goal.make_child-requires-clause-order
make_child-requires-clause-order c =
    let can = can-be-child c.args.script.now c.loop-below.kernel (c.loop-below.below + 1) c.in-Some.parent c.requires.sound c.loop-below.invariant.1 c.in-Some.ensures in can.order

pub make_child-requires-clause-limits : goal.make_child-requires-clause-limits
make_child-requires-clause-limits c =
    let can = can-be-child c.args.script.now c.loop-below.kernel (c.loop-below.below + 1) c.in-Some.parent c.requires.sound c.loop-below.invariant.1 c.in-Some.ensures in can.limits

pub loop-below-preserved : goal.loop-below-preserved
loop-below-preserved c =
    let before = c.loop-below.kernel in
    let after = c.match-parent.kernel in
    let place = c.loop-below.below in
    elim c.match-parent.branch [
      | in-Some w ↦ (
        children_more c.args.script.now.processes c.args.kernel.now before after place (Some w.in-Some.parent) c.loop-below.invariant.0 w.in-Some.ensures (w.kernel-is ∙ w.make_child.ensures),
        child-made c.args.script.now before after (place + 1) w.in-Some.parent.0 c.loop-below.invariant.1 (w.kernel-is ∙ w.make_child.ensures),
      )
      | in_default w ↦ (
        children_more c.args.script.now.processes c.args.kernel.now before after place None c.loop-below.invariant.0 w.in_default.ensures w.kernel-is,
        subst (OpensChildren c.args.script.now) (sym w.kernel-is) c.loop-below.invariant.1,
      )
    ]
