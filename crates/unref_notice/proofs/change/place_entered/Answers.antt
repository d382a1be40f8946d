use Rattle.std.proofs.Common.{ap, sym, ◌∙◌}
use Rattle.spec_records.specs.declared.record.Notice.{Notice}
use Rattle.spec_records.specs.Words.{is_entered_stage, is_notice_entered_by, notice_number}
use Rattle.unref_notice.specs.Left.{is_notice_as}
use Rattle.unref_notice.proofs.Items.{entered_is, enters_none, no_notice}
use Rattle.unref_notice.proofs.Leaving.{item_is}
use Rattle.unref_notice.proofs.Places.{found_here, found_nowhere, found_other}
use Rattle.unref_notice.proofs.change.place_entered.Goals as goal

pub returns-in_err-serves-clause-place : goal.returns-in_err-serves-clause-place
returns-in_err-serves-clause-place c all = c.from_residual.ensures ∙ enters_none c.args.serves c.args.t.0 c.args.notices.now.items all c.in_err-serves.was

pub returns-in_err-place-clause-place : goal.returns-in_err-place-clause-place
returns-in_err-place-clause-place c all =
    let ns = c.args.notices.now.items in
    let i = c.in_ok-serves.field-0 in
    c.from_residual-in_err-place.ensures
    ∙ sym (found_nowhere notice_number ns c.requires.0 c.requires.1 (is_notice_entered_by c.args.t.0) (is_notice_as i) no_notice (entered_is c.args.serves i c.args.t.0 ns no_notice all c.in_ok-serves.was) (sym c.place_of_item.ensures ∙ c.in_err-place.was))

pub returns-then-is_entered_by-clause-place : goal.returns-then-is_entered_by-clause-place
returns-then-is_entered_by-clause-place c all =
    let ns = c.args.notices.now.items in
    let i = c.in_ok-serves.field-0 in
    let d = c.index.result.now in
    let here = ap (λ (x : Notice). is_entered_stage c.args.t.0 x.stage) (sym c.index.ensures) ∙ sym c.is_entered_by.ensures ∙ c.if-is_entered_by.true in
    sym (found_here notice_number ns c.requires.0 c.requires.1 (is_notice_entered_by c.args.t.0) (is_notice_as i) d (entered_is c.args.serves i c.args.t.0 ns d all c.in_ok-serves.was) c.in_ok-place.place (sym c.place_of_item.ensures ∙ c.in_ok-place.was) here)

pub returns-else-is_entered_by-clause-place : goal.returns-else-is_entered_by-clause-place
returns-else-is_entered_by-clause-place c all =
    let ns = c.args.notices.now.items in
    let i = c.in_ok-serves.field-0 in
    let d = c.index.result.now in
    let here = ap (λ (x : Notice). is_entered_stage c.args.t.0 x.stage) (sym c.index.ensures) ∙ sym c.is_entered_by.ensures ∙ c.if-is_entered_by.false in
    sym (found_other notice_number ns c.requires.0 c.requires.1 (is_notice_entered_by c.args.t.0) (is_notice_as i) d (entered_is c.args.serves i c.args.t.0 ns d all c.in_ok-serves.was) (item_is i) c.in_ok-place.place (sym c.place_of_item.ensures ∙ c.in_ok-place.was) here)
