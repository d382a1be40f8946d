use Rattle.std.proofs.Common.{ℕ, ◌∙◌, List, [], ap, sym, subst}
use Rattle.line_text.specs.Types.{Fd}
use Rattle.std.specs.Prelude.{option_copied}
use Rattle.spec_requests.specs.Words.{Variables, values_of, vars_of, with_both, with_bytes, with_descriptor}
use Rattle.thread_machine.specs.Slots.{IsShort, visible_value, set_some}
use Rattle.thread_machine.proofs.SpelledLines.{vars-short}
use Rattle.thread_machine.proofs.Slotted.{one-answer, two-answers}
use Rattle.thread_machine.proofs.variables.Variables.answer.Goals as goal

pub set_some-requires-clause-name : goal.set_some-requires-clause-name
set_some-requires-clause-name c = subst IsShort (sym c.first_var.ensures) (vars-short c.args.line.now 0 c.requires.line)

pub set_some-requires-in-TwoFds-clause-name : goal.set_some-requires-in-TwoFds-clause-name
set_some-requires-in-TwoFds-clause-name c = subst IsShort (sym c.first_var-in-TwoFds.ensures) (vars-short c.args.line.now 0 c.requires.line)

pub set_some-requires-in-TwoFds-2-clause-name : goal.set_some-requires-in-TwoFds-2-clause-name
set_some-requires-in-TwoFds-2-clause-name c = subst IsShort (sym c.second_var.ensures) (vars-short c.args.line.now 1 c.requires.line)

pub set_some-requires-in-Data-clause-name : goal.set_some-requires-in-Data-clause-name
set_some-requires-in-Data-clause-name c = subst IsShort (sym c.first_var-in-Data.ensures) (vars-short c.args.line.now 0 c.requires.line)

pub set_some-requires-in-Results-clause-name : goal.set_some-requires-in-Results-clause-name
set_some-requires-in-Results-clause-name c = subst IsShort (sym c.first_var-in-Results.ensures) (vars-short c.args.line.now 0 c.requires.line)

pub returns-in-NewFd : goal.returns-in-NewFd
returns-in-NewFd c =
    λ values h name. c.set_some.ensures.held values h name
    ∙ ap
    (λ (f : Variables). visible_value (f name))
    (one-answer
    values
    (vars_of c.args.line.now)
    (option_copied c.first_var.result)
    c.args.answer.now
    (with_descriptor c.in-NewFd.fd)
    (ap values_of c.in-NewFd.is)
    c.first_var.ensures)

pub returns-in-Data : goal.returns-in-Data
returns-in-Data c =
    λ values h name. c.set_some-in-Data.ensures.held values h name
    ∙ ap
    (λ (bytes : List ℕ). visible_value (set_some values (option_copied c.first_var-in-Data.result) (with_both bytes []) name))
    c.slice.ensures
    ∙ ap
    (λ (f : Variables). visible_value (f name))
    (one-answer
    values
    (vars_of c.args.line.now)
    (option_copied c.first_var-in-Data.result)
    c.args.answer.now
    (with_bytes c.in-Data.bytes)
    (ap values_of c.in-Data.is)
    c.first_var-in-Data.ensures)

pub returns-in-Results : goal.returns-in-Results
returns-in-Results c =
    λ values h name. c.set_some-in-Results.ensures.held values h name
    ∙ ap
    (λ (bytes : List ℕ).
    visible_value (set_some values (option_copied c.first_var-in-Results.result) (with_both bytes c.slice-in-Results-2.result.now) name))
    c.slice-in-Results.ensures
    ∙ ap
    (λ (fds : List Fd).
    visible_value (set_some values (option_copied c.first_var-in-Results.result) (with_both c.in-Results.bytes fds) name))
    c.slice-in-Results-2.ensures
    ∙ ap
    (λ (f : Variables). visible_value (f name))
    (one-answer
    values
    (vars_of c.args.line.now)
    (option_copied c.first_var-in-Results.result)
    c.args.answer.now
    (with_both c.in-Results.bytes c.in-Results.fds)
    (ap values_of c.in-Results.is)
    c.first_var-in-Results.ensures)

pub returns-in-TwoFds : goal.returns-in-TwoFds
returns-in-TwoFds c =
    λ values h name. c.set_some-in-TwoFds-2.ensures.held
    (set_some values (option_copied c.first_var-in-TwoFds.result) (with_descriptor c.in-TwoFds.read))
    (c.set_some-in-TwoFds.ensures.held values h)
    name
    ∙ ap
    (λ (f : Variables). visible_value (f name))
    (two-answers
    values
    (vars_of c.args.line.now)
    (option_copied c.first_var-in-TwoFds.result)
    (option_copied c.second_var.result)
    c.args.answer.now
    (with_descriptor c.in-TwoFds.read)
    (with_descriptor c.in-TwoFds.write)
    (ap values_of c.in-TwoFds.is)
    c.first_var-in-TwoFds.ensures
    c.second_var.ensures)
