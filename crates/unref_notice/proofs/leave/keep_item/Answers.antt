use Rattle.std.proofs.Common.{ℕ, ◌==◌, ◌-◌, if◌then◌else◌, map, ◌≡◌, ap, remove, rules, subst, sym, ◌∙◌}
use Rattle.spec_records.specs.Words.{IsAscending, is_kept_notice, notice_number}
use Rattle.spec_records.specs.declared.record.Notice.{Notice}
use Rattle.unref_notice.specs.DoorCounts.{CountsDoors, door_in, notices_of}
use Rattle.unref_notice.proofs.DoorCounts.{counts_removed}
use Rattle.unref_notice.proofs.Items.{no_notice}
use Rattle.unref_notice.proofs.Leaving.{kept_nowhere, removed_there, stays_there}
use Rattle.unref_notice.proofs.Places.{ascending-remove}
use Rattle.unref_notice.proofs.leave.keep_item.Goals as goal
use Rattle.std.proofs.lemmas.List.Quantifiers.{position-Some}
use Rattle.unref_notice.specs.Left.{is_notice_as}

pub returns-then-not-is_kept-clause-items : goal.returns-then-not-is_kept-clause-items
returns-then-not-is_kept-clause-items g c doors m =
    let kept = is_kept_notice doors in
    let ns = c.args.notices.now.items in
    let left : c.remove.new.self.items ≡ remove ns c.in-Some.place = search rules in
    left
    ∙ removed_there ns c.requires.order.0 c.requires.order.1 c.args.item kept c.in-Some.place c.index.result.now (sym c.place_of_item.ensures ∙ c.in-Some.is)
    (ap kept (sym c.index.ensures) ∙ sym (c.is_kept.ensures doors m) ∙ c.if-not-is_kept.true)

pub returns-then-not-is_kept-clause-order : goal.returns-then-not-is_kept-clause-order
returns-then-not-is_kept-clause-order g c made up =
    let ns = c.args.notices.now.items in
    let left : c.remove.new.self.items ≡ remove ns c.in-Some.place = search rules in
    let w = position-Some (is_notice_as c.args.item) ns c.in-Some.place no_notice (sym c.place_of_item.ensures ∙ c.in-Some.is) in
    subst (IsAscending notice_number 0 made) (sym left) (ascending-remove notice_number ns 0 made c.in-Some.place up w.0)

pub returns-else-not-is_kept-clause-items : goal.returns-else-not-is_kept-clause-items
returns-else-not-is_kept-clause-items g c doors m =
    let kept = is_kept_notice doors in
    stays_there c.args.notices.now.items c.requires.order.0 c.requires.order.1 c.args.item kept c.in-Some.place c.index.result.now (sym c.place_of_item.ensures ∙ c.in-Some.is)
    (ap kept (sym c.index.ensures) ∙ sym (c.is_kept.ensures doors m) ∙ c.if-not-is_kept.false)

pub returns-in_default-clause-items : goal.returns-in_default-clause-items
returns-in_default-clause-items g c doors m =
    kept_nowhere c.args.notices.now.items c.requires.order.0 c.requires.order.1 c.args.item (is_kept_notice doors) no_notice (sym c.place_of_item.ensures ∙ c.in_default.is)

pub returns-then-not-is_kept-clause-counted : goal.returns-then-not-is_kept-clause-counted
returns-then-not-is_kept-clause-counted g c h =
    let ns = c.args.notices.now.items in
    let left : c.remove.new.self.items ≡ remove ns c.in-Some.place = search rules in
    let d = c.index.result.now in
    let w = position-Some (is_notice_as c.args.item) ns c.in-Some.place d (sym c.place_of_item.ensures ∙ c.in-Some.is) in
    subst (λ ms. CountsDoors c.take.new.self.entries (map door_in ms)) (sym left)
    (counts_removed c.args.of_doors.now.entries c.take.new.self.entries ns c.in-Some.place d w.0 h (subst (λ (x : Notice). (e : ℕ) → notices_of c.take.new.self.entries e ≡ notices_of c.args.of_doors.now.entries e - (if x.door == e then 1 else 0)) c.index.ensures c.take.ensures.counts))
