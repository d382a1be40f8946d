use Rattle.std.proofs.Common.{◌++◌, ap, ◌∙◌}
use Rattle.script_lang.specs.Printed.{items_text}
use Rattle.script_lang.specs.Scripts.{schedule_items}
use Rattle.script_lang.proofs.PrintSteps.{row_more}
use Rattle.script_lang.proofs.print.put_schedules.Goals as goal

pub loop-rest-preserved : goal.loop-rest-preserved
loop-rest-preserved c =
    let tables = c.args.tables.now in
    ap (λ text. text ++ items_text tables (schedule_items c.split_at.result.1.now)) c.in_ok-put_schedule.ensures ∙
    row_more tables c.loop-rest.text c.loop-rest.rest.now c.split_at.result.0.now c.split_at.result.1.now c.min.result c.loop-rest-test.ensures c.min.ensures c.split_at.ensures.front c.split_at.ensures.back ∙
    c.loop-rest.invariant
