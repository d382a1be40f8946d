use Rattle.std.proofs.Common.{◌≡◌, None, ap, sym, ◌∙◌}
use Rattle.dk_base.specs.ByNumber.{at_number}
use Rattle.spec_records.specs.Words.{release_rows, table_in}
use Rattle.kernel_holdings.proofs.NoTable.{none_changed, nothing_taken}
use Rattle.kernel_holdings.proofs.tables.Tables.take_out.Goals as goal

pub returns-in_default-clause-tables : goal.returns-in_default-clause-tables
returns-in_default-clause-tables c =
    let tables = c.args.self.now in
    let absent : at_number tables c.args.p.0 ≡ None =
    ap (λ tables. at_number tables c.args.p.0) (sym (c.deref.ensures.value ∙ c.self.view_is)) ∙ c.in_default.ensures.none in
    sym (none_changed tables c.args.p.0 (release_rows (table_in tables c.args.p.0) c.args.pass.now) absent)

pub returns-in_default-clause-items : goal.returns-in_default-clause-items
returns-in_default-clause-items c =
    let tables = c.args.self.now in
    let absent : at_number tables c.args.p.0 ≡ None =
    ap (λ tables. at_number tables c.args.p.0) (sym (c.deref.ensures.value ∙ c.self.view_is)) ∙ c.in_default.ensures.none in
    nothing_taken tables c.args.p.0 c.args.pass.now c.args.into.now.items absent
