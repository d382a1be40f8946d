use Rattle.std.proofs.Common.{sym, ◌∙◌}
use Rattle.history_check.proofs.Texts.{found_after, no_header, no_legal, no_line, told_after}
use Rattle.history_check.proofs.check_text.check.Goals as goal

pub returns-in-Some-header_fault-clause-verdict : goal.returns-in-Some-header_fault-clause-verdict
returns-in-Some-header_fault-clause-verdict g c =
    sym (no_header c.args.text.now c.in-Some.first.now c.in-Some.rest.now c.in-Some.ensures.line c.in-Some.ensures.rest c.in-Some-header_fault.reason (sym c.in-Some-header_fault.ensures))

pub returns-in-None-header_fault-clause-verdict : goal.returns-in-None-header_fault-clause-verdict
returns-in-None-header_fault-clause-verdict g c =
    found_after c.args.text.now c.in-Some.first.now c.in-Some.rest.now c.in-Some.ensures.line c.in-Some.ensures.rest _ (sym c.in-None-header_fault.ensures) c.check_lines.ensures.verdict

pub returns-in-None-clause-verdict : goal.returns-in-None-clause-verdict
returns-in-None-clause-verdict g c = c.without_line.ensures ∙ sym (no_line c.args.text.now c.in-None.ensures.line c.in-None.ensures.rest)

pub returns-in-None-header_fault-clause-legal : goal.returns-in-None-header_fault-clause-legal
returns-in-None-header_fault-clause-legal g c =
    told_after c.args.text.now c.in-Some.first.now c.in-Some.rest.now c.in-Some.ensures.line c.in-Some.ensures.rest _ c.check_lines.ensures.legal

pub returns-in-None-clause-legal : goal.returns-in-None-clause-legal
returns-in-None-clause-legal g c = λ events e. no_legal c.args.text.now events (sym c.without_line.ensures ∙ e)
