use Rattle.std.proofs.Common.{ap, sym, ◌∙◌}
use Rattle.spec_records.specs.declared.record.NoticeStage.TheVariants as stage
use Rattle.spec_records.specs.Words.{is_given_notice_as, notice_at, tid}
use Rattle.spec_records.proofs.Places.{changed_there, changed_nowhere, found_there, find_nowhere}
use Rattle.unref_notice.specs.DoorCounts.{door_in}
use Rattle.unref_notice.proofs.DoorCounts.{doors_set}
use Rattle.unref_notice.proofs.change.enter_given.Goals as goal

pub returns-in_default-clause-before : goal.returns-in_default-clause-before
returns-in_default-clause-before c = sym (find_nowhere (is_given_notice_as c.args.n c.args.t.0) c.args.notices.now.items (cc))

pub returns-in_default-clause-changed : goal.returns-in_default-clause-changed
returns-in_default-clause-changed c =
    sym (changed_nowhere (is_given_notice_as c.args.n c.args.t.0) (notice_at (stage.Entered (tid c.args.t.0))) c.args.notices.now.items (cc))

pub returns-clause-before : goal.returns-clause-before
returns-clause-before c =
    found_there (is_given_notice_as c.args.n c.args.t.0) c.args.notices.now.items c.in-Some.place _ c.index_mut-notice.result.now (cc) c.index_mut-notice.ensures.value

pub returns-clause-changed : goal.returns-clause-changed
returns-clause-changed c =
    changed_there (is_given_notice_as c.args.n c.args.t.0) (notice_at (stage.Entered (tid c.args.t.0))) c.args.notices.now.items c.in-Some.place c.index_mut-notice.result.now c.move_on.new.notice (cc) (c.move_on.ensures ∙ ap (notice_at (stage.Entered (tid c.args.t.0))) c.index_mut-notice.ensures.value)

pub returns-clause-doors : goal.returns-clause-doors
returns-clause-doors c =
    doors_set c.args.notices.now.items c.in-Some.place c.move_on.new.notice c.index_mut-notice.result.now
    (ap door_in c.move_on.ensures ∙ ap door_in c.index_mut-notice.ensures.value)
