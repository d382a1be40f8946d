use Rattle.std.proofs.Common.{◌&&◌, ap, ap₂, sym, ◌∙◌}
use Rattle.std.proofs.lemmas.List.Quantifiers.{position-Some}
use Rattle.spec_records.specs.declared.record.Notice.{Notice}
use Rattle.spec_records.specs.Words.{is_waiting_notice_as, is_waiting_stage, is_numbered, notice_number}
use Rattle.unref_notice.proofs.Items.{both_left, no_notice, same_number}
use Rattle.unref_notice.proofs.Places.{found_here, found_nowhere, found_other}
use Rattle.unref_notice.proofs.change.place_waiting.Goals as goal

pub returns-in_err-place : goal.returns-in_err-place
returns-in_err-place c =
    let ns = c.args.notices.now.items in
    c.from_residual.ensures
    ∙ sym (found_nowhere notice_number ns c.requires.0 c.requires.1 (is_waiting_notice_as c.args.n) (is_numbered notice_number c.args.n) no_notice (λ k l e. both_left _ _ e) (sym c.place_of.ensures ∙ c.in_err-place.was))

pub returns-then-is_waiting : goal.returns-then-is_waiting
returns-then-is_waiting c =
    let ns = c.args.notices.now.items in
    let d = c.index.result.now in
    let at = sym c.place_of.ensures ∙ c.in_ok-place.was in
    let w = position-Some (is_numbered notice_number c.args.n) ns c.in_ok-place.place d at in
    let here = ap (λ (x : Notice). is_waiting_stage x.stage) (sym c.index.ensures) ∙ sym c.is_waiting.ensures ∙ c.if-is_waiting.true in
    sym (found_here notice_number ns c.requires.0 c.requires.1 (is_waiting_notice_as c.args.n) (is_numbered notice_number c.args.n) d (λ k l e. both_left _ _ e) c.in_ok-place.place at (ap₂ (λ b a. b && a) w.1 here))

pub returns-else-is_waiting : goal.returns-else-is_waiting
returns-else-is_waiting c =
    let ns = c.args.notices.now.items in
    let d = c.index.result.now in
    let at = sym c.place_of.ensures ∙ c.in_ok-place.was in
    let w = position-Some (is_numbered notice_number c.args.n) ns c.in_ok-place.place d at in
    let here = ap (λ (x : Notice). is_waiting_stage x.stage) (sym c.index.ensures) ∙ sym c.is_waiting.ensures ∙ c.if-is_waiting.false in
    sym (found_other notice_number ns c.requires.0 c.requires.1 (is_waiting_notice_as c.args.n) (is_numbered notice_number c.args.n) d (λ k l e. both_left _ _ e) (same_number c.args.n) c.in_ok-place.place at (ap₂ (λ b a. b && a) w.1 here))
