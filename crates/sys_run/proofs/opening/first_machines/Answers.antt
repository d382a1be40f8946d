use Rattle.std.proofs.Common.{◌≡◌, ◌+◌, length, length-append, arith}
use Rattle.sys_run.proofs.Machines.{AllStandFrom_push}
use Rattle.sys_run.proofs.opening.first_machines.Goals as goal

pub loop-below-preserved : goal.loop-below-preserved
loop-below-preserved c =
    let count : length c.loop-below.machines.items ≡ c.loop-below.below = c.loop-below.invariant.1
    in let place : c.loop-below.below + 1 ≡ 1 + length c.loop-below.machines.items = omega arith
    in rw c.in-Ok.ensures.items (
      AllStandFrom_push
          c.args.script.now
          c.loop-below.machines.items
          c.in_ok-machine.machine
          1
          c.loop-below.invariant.0
          c.in_ok-machine.ensures.machine
          (rw place at c.in_ok-machine.ensures.stands),
      simp length-append (omega arith),
    )
