use Rattle.std.proofs.Common.{◌≡◌, ◌∷◌, [], sym, ap, ◌∙◌, arith}
use Rattle.ncd_app.specs.Commands.{command_in, parts_of}
use Rattle.ncd_app.proofs.Lines.{length_both, parts_alone, parts_both}
use Rattle.ncd_app.proofs.line.command_of.Goals as goal

pub returns-in_default-clause-command : goal.returns-in_default-clause-command
returns-in_default-clause-command c = c.alone.ensures.command ∙ sym (ap command_in (parts_alone c.args.line.now c.in_default.ensures))

pub returns-in_default-parts_at-clause-command : goal.returns-in_default-parts_at-clause-command
returns-in_default-parts_at-clause-command c =
    let first = c.in-Some.first in
    let parts : parts_of c.args.line.now ≡ first.0.now ∷ first.1.now ∷ [] =
    parts_both c.args.line.now first.0.now first.1.now c.in-Some.ensures
    ∙ ap (λ ps. first.0.now ∷ ps) (parts_alone first.1.now c.in_default-parts_at.ensures) in
    c.about_one.ensures.command ∙ sym (ap command_in parts)

pub returns-in_default-parts_at-clause-short : goal.returns-in_default-parts_at-clause-short
returns-in_default-parts_at-clause-short c =
    let first = c.in-Some.first in
    λ h. omega (arith, length_both c.args.line.now first.0.now first.1.now c.in-Some.ensures, c.about_one.ensures.short h)

pub returns-clause-command : goal.returns-clause-command
returns-clause-command c =
    let first = c.in-Some.first in
    let second = c.in-Some-parts_at.second in
    let parts : parts_of c.args.line.now ≡ first.0.now ∷ second.0.now ∷ parts_of second.1.now =
    parts_both c.args.line.now first.0.now first.1.now c.in-Some.ensures
    ∙ ap (λ ps. first.0.now ∷ ps) (parts_both first.1.now second.0.now second.1.now c.in-Some-parts_at.ensures) in
    c.about_two.ensures.command ∙ sym (ap command_in parts)
