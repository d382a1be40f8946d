use Rattle.std.proofs.Common.{◌≡◌, None, not, ap, sym, ◌∙◌}
use Rattle.std.specs.Option.{option_copied}
use Rattle.dk_base.specs.ByNumber.{at_number}
use Rattle.kernel_holdings.proofs.NoTable.{none_open}
use Rattle.kernel_holdings.proofs.tables.Tables.is_bad_pass.Goals as goal

pub returns-in-None : goal.returns-in-None
returns-in-None c =
    let tables = c.args.self.now in
    let absent : at_number tables c.args.p.0 ≡ None =
    ap (λ tables. at_number tables c.args.p.0) (sym (c.deref.ensures.value ∙ c.self.view_is)) ∙ sym c.numbered_item.ensures ∙ ap option_copied c.in-None.is in
    ap not c.is_empty.ensures ∙ none_open tables c.args.p.0 c.args.pass.now absent
