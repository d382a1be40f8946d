use Rattle.std.proofs.Common.{ap, ◌∙◌}
use Rattle.unref_notice.specs.DoorCounts.{door_in}
use Rattle.unref_notice.proofs.DoorCounts.{doors_set}
use Rattle.unref_notice.proofs.change.end_at.Goals as goal

pub returns-clause-doors : goal.returns-clause-doors
returns-clause-doors c =
    doors_set c.args.notices.now.items c.args.place c.move_on.new.notice c.index_mut-notice.result.now
    (ap door_in c.move_on.ensures ∙ ap door_in c.index_mut-notice.ensures.value)
