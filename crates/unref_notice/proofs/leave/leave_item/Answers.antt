use Rattle.std.proofs.Common.{ap, set, sym, ◌∙◌}
use Rattle.std.proofs.lemmas.List.Quantifiers.{position-Some}
use Rattle.spec_records.specs.Words.{left_notice, notice_number}
use Rattle.unref_notice.specs.Left.{is_notice_as}
use Rattle.unref_notice.specs.DoorCounts.{door_in}
use Rattle.unref_notice.proofs.DoorCounts.{doors_set}
use Rattle.unref_notice.proofs.Items.{no_notice}
use Rattle.unref_notice.proofs.Leaving.{left_nowhere, left_there}
use Rattle.unref_notice.proofs.Places.{ascending-set}
use Rattle.unref_notice.proofs.leave.leave_item.Goals as goal

pub returns-in-Some-clause-order : goal.returns-in-Some-clause-order
returns-in-Some-clause-order g c made up =
    let ns = c.args.notices.now.items in
    let d = c.index_mut-notice.result.now in
    let w = position-Some (is_notice_as c.args.item) ns c.in-Some.place d (sym c.place_of_item.ensures ∙ c.in-Some.is) in
    ascending-set notice_number ns 0 made c.in-Some.place c.leave_notice.new.notice d up w.0 (c.leave_notice.ensures.number ∙ ap notice_number c.index_mut-notice.ensures.value)

pub returns-in-Some-clause-notices : goal.returns-in-Some-clause-notices
returns-in-Some-clause-notices g c who e l =
    let ns = c.args.notices.now.items in
    let d = c.index_mut-notice.result.now in
    ap (set ns c.in-Some.place) (c.leave_notice.ensures.left who e l ∙ ap (left_notice who) c.index_mut-notice.ensures.value)
    ∙ left_there ns c.requires.order.0 c.requires.order.1 c.args.item who c.in-Some.place d (sym c.place_of_item.ensures ∙ c.in-Some.is)

pub returns-in_default-clause-notices : goal.returns-in_default-clause-notices
returns-in_default-clause-notices g c who e l =
    left_nowhere c.args.notices.now.items c.requires.order.0 c.requires.order.1 c.args.item who no_notice (sym c.place_of_item.ensures ∙ c.in_default.is)

pub returns-in-Some-clause-doors : goal.returns-in-Some-clause-doors
returns-in-Some-clause-doors g c =
    doors_set c.args.notices.now.items c.in-Some.place c.leave_notice.new.notice c.index_mut-notice.result.now
    (c.leave_notice.ensures.door ∙ ap door_in c.index_mut-notice.ensures.value)
