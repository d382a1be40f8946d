use Rattle.std.proofs.Common.{◌≡◌, ◌++◌, length}
use Rattle.script_lang.specs.Printed.{items_text}
use Rattle.script_lang.specs.Scripts.{schedule_items}
use Rattle.script_lang.proofs.print.put_schedules.Given as goal

abbrev pub invariant-loop-rest : goal.invariant-loop-rest
invariant-loop-rest l = l.text ++ items_text l.tables (schedule_items l.rest) ≡ l.initial.text ++ items_text l.tables (schedule_items l.initial.rest)

abbrev pub decreases-loop-rest : goal.decreases-loop-rest
decreases-loop-rest l = length l.rest
