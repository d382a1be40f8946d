use Rattle.std.proofs.Common.{◌∙◌}
use Rattle.sys_run.proofs.Systems.{IsSys-new}
use Rattle.sys_run.proofs.sys.Sys.new.Goals as goal

pub open-requires : goal.open-requires
open-requires c = c.sound_scripts.ensures _ _ c.is_spelled.ensures.spelled

pub invariant_of-result : goal.invariant_of-result
invariant_of-result c =
    rw c.new-journal.ensures.items
    (IsSys-new
    c.args.script
    _
    _
    _
    (c.sound_scripts.ensures _ _ c.is_spelled.ensures.spelled)
    c.in_ok-kernel.ensures
    c.in_ok-machines.ensures.stand
    c.in_ok-machines.ensures.count
    c.in_ok-tables.ensures.stand
    (c.in_ok-tables.ensures.count ∙ c.processes.ensures))
