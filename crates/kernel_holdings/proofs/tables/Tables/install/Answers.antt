use Rattle.std.proofs.Common.{◌≡◌, None, ap, sym, ◌∙◌}
use Rattle.dk_base.specs.ByNumber.{at_number}
use Rattle.kernel_holdings.proofs.NoTable.{none_installed, none_numbered}
use Rattle.kernel_holdings.proofs.tables.Tables.install.Goals as goal

pub returns-in_default-clause-tables : goal.returns-in_default-clause-tables
returns-in_default-clause-tables c =
    let tables = c.args.self.now in
    let absent : at_number tables c.args.p.0 ≡ None =
    ap (λ tables. at_number tables c.args.p.0) (sym (c.deref.ensures.value ∙ c.self.view_is)) ∙ c.in_default.ensures.none in
    sym (none_installed tables c.args.p.0 c.args.objects.now absent c.requires.free)

pub returns-in_default-clause-fds : goal.returns-in_default-clause-fds
returns-in_default-clause-fds c =
    let tables = c.args.self.now in
    let absent : at_number tables c.args.p.0 ≡ None =
    ap (λ tables. at_number tables c.args.p.0) (sym (c.deref.ensures.value ∙ c.self.view_is)) ∙ c.in_default.ensures.none in
    c.into_list.ensures ∙ c.requires.empty ∙ sym (none_numbered tables c.args.p.0 c.args.objects.now absent c.requires.free)
