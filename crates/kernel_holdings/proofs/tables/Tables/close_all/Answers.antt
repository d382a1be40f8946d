use Rattle.std.proofs.Common.{◌≡◌, None, ap, sym, ◌∙◌}
use Rattle.dk_base.specs.ByNumber.{at_number}
use Rattle.spec_records.specs.Words.{close_table, table_in}
use Rattle.kernel_holdings.proofs.NoTable.{none_changed}
use Rattle.kernel_holdings.proofs.tables.Tables.close_all.Goals as goal

pub returns-in_default : goal.returns-in_default
returns-in_default c =
    let tables = c.args.self.now in
    let absent : at_number tables c.args.p.0 ≡ None =
    ap (λ tables. at_number tables c.args.p.0) (sym (c.deref.ensures.value ∙ c.self.view_is)) ∙ c.in_default.ensures.none in
    sym (none_changed tables c.args.p.0 (close_table (table_in tables c.args.p.0)) absent)
