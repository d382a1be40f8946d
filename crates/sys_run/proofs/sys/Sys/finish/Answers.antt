use Rattle.std.proofs.Common.{arith, ◌≤◌, length, sym, None}
use Rattle.sys_run.specs.Sys.{turns_left}
use Rattle.sys_run.proofs.Finishing.{next, HasTaken-more, HasTaken-none, finished, turns_left-few}
use Rattle.sys_run.proofs.Looks.{is_none-next}
use Rattle.sys_run.proofs.sys.Sys.finish.Goals as goal

pub loop-t-init : goal.loop-t-init
loop-t-init c =
    let few : length (turns_left c.args.self.now) ≤ 100000 = omega (arith, turns_left-few c.args.self.now, c.laws.ensures.small)
    in (HasTaken-none _, few)

pub step-requires-clause-can : goal.step-requires-clause-can
step-requires-clause-can c = (next _ _ (sym c.in-Some.ensures)).can

pub step-requires-clause-left : goal.step-requires-clause-left
step-requires-clause-left c = (next _ _ (sym c.in-Some.ensures)).left

pub overflow_add-turns : goal.overflow_add-turns
overflow_add-turns c = omega (arith, c.loop-t.invariant.0.few, c.loop-t.invariant.1)

pub loop-t-preserved : goal.loop-t-preserved
loop-t-preserved c =
    (rw c.in_ok-step.ensures.event (HasTaken-more _ _ _ _ c.loop-t.invariant.0 (sym c.in-Some.ensures)), c.loop-t.invariant.1)

pub returns-clause-turns : goal.returns-clause-turns
returns-clause-turns c = (finished _ _ _ c.loop-t.invariant.0 (sym c.in_default.ensures)).taken

pub returns-clause-count : goal.returns-clause-count
returns-clause-count c = (finished _ _ _ c.loop-t.invariant.0 (sym c.in_default.ensures)).count

pub returns-clause-over : goal.returns-clause-over
returns-clause-over c = sym (is_none-next _ None c.in_default.ensures)
