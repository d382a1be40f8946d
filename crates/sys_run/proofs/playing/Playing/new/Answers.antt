use Rattle.std.proofs.Common.{◌∙◌, ap}
use Rattle.sys_run.specs.Sys.{with_journal}
use Rattle.sys_run.proofs.FirstTurns.{told_none}
use Rattle.sys_run.proofs.Systems.{IsSys-new}
use Rattle.sys_run.proofs.playing.Playing.new.Goals as goal

pub open-requires : goal.open-requires
open-requires c = c.sound_scripts.ensures _ _ c.is_spelled.ensures.spelled

pub invariant_of-result : goal.invariant_of-result
invariant_of-result c =
    (told_none c.args.script _ _ _
    (IsSys-new c.args.script _ _ _ (c.sound_scripts.ensures _ _ c.is_spelled.ensures.spelled) c.in_ok-kernel.ensures c.in_ok-machines.ensures.stand
    c.in_ok-machines.ensures.count c.in_ok-tables.ensures.stand (c.in_ok-tables.ensures.count ∙ c.processes.ensures))).stands

pub returns : goal.returns
returns c =
    ap (with_journal c.args.script)
    (told_none c.args.script _ _ _
    (IsSys-new c.args.script _ _ _ (c.sound_scripts.ensures _ _ c.is_spelled.ensures.spelled) c.in_ok-kernel.ensures c.in_ok-machines.ensures.stand
    c.in_ok-machines.ensures.count c.in_ok-tables.ensures.stand (c.in_ok-tables.ensures.count ∙ c.processes.ensures))).events
