use Rattle.std.proofs.Common.{◌∙◌, List, length, subst}
use Rattle.kernel_handle.specs.declared.shape.ProcessShape.{ProcessShape}
use Rattle.kernel_chronicle.specs.Openings.{IsCauseOfUnopened}
use Rattle.kernel_chronicle.proofs.chronicle.Chronicle.open.Goals as goal

pub returns-in-Err-clause-why : goal.returns-in-Err-clause-why
returns-in-Err-clause-why c =
    subst (λ (ss : List ProcessShape). IsCauseOfUnopened ss (length c.args.text.now) c.in-Err.why) (c.deref.ensures.value ∙ c.in-Ok.ensures)
    (c.in-Err.ensures.why (length c.args.text.now))

pub returns-in-Err-names_of-clause-why : goal.returns-in-Err-names_of-clause-why
returns-in-Err-names_of-clause-why c =
    subst (λ (ss : List ProcessShape). IsCauseOfUnopened ss (length c.args.text.now) c.in-Err-names_of.why) (c.deref-2.ensures.value ∙ c.in-Ok.ensures)
    (c.in-Err-names_of.ensures.why (length c.args.text.now))
