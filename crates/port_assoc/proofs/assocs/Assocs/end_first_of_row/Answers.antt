use Rattle.std.proofs.Common.{◌≡◌, Some, ap, arith, find, sym, ◌∙◌}
use Rattle.spec_records.specs.Words.{is_of_row}
use Rattle.port_assoc.specs.Keys.{row_at}
use Rattle.port_assoc.specs.Rows.{count_at}
use Rattle.port_assoc.proofs.Apart.{found_by_key, left_by_key}
use Rattle.port_assoc.proofs.Counted.{none_there}
use Rattle.port_assoc.proofs.Lists.{none-left}
use Rattle.port_assoc.proofs.assocs.Assocs.end_first_of_row.Goals as goal

pub returns-then-count-eq0-clause-ended : goal.returns-then-count-eq0-clause-ended
returns-then-count-eq0-clause-ended c =
    let counts = c.self.inside.rows.counts in
    let counted : c.count.result ≡ count_at counts (row_at c.args.process.0 c.args.fd) = rw c.row_at.ensures at c.count.ensures in
    let none = none_there c.self.inside.table.items counts c.args.process.0 c.args.fd c.self.invariant.2 (omega (arith, counted, c.if-count-eq0.true)) in
    rw (← c.self.view_is) (sym none)

pub returns-then-count-eq0-clause-left : goal.returns-then-count-eq0-clause-left
returns-then-count-eq0-clause-left c =
    let counts = c.self.inside.rows.counts in
    let counted : c.count.result ≡ count_at counts (row_at c.args.process.0 c.args.fd) = rw c.row_at.ensures at c.count.ensures in
    let none = none_there c.self.inside.table.items counts c.args.process.0 c.args.fd c.self.invariant.2 (omega (arith, counted, c.if-count-eq0.true)) in
    rw (← c.self.view_is) (sym (none-left (is_of_row c.args.process.0 c.args.fd) c.self.inside.table.items none))

pub returns-in_err-a-clause-left : goal.returns-in_err-a-clause-left
returns-in_err-a-clause-left c = rw (← c.self.view_is) (sym (none-left (is_of_row c.args.process.0 c.args.fd) c.self.inside.table.items (sym c.in_err-a.ensures.found)))

pub end_found-requires : goal.end_found-requires
end_found-requires c = rw (← c.self.view_is) (found_by_key (is_of_row c.args.process.0 c.args.fd) c.self.inside.table.items c.in_ok-a.a c.in_ok-a.ensures.distinct (sym c.in_ok-a.ensures.found))

pub returns-clause-left : goal.returns-clause-left
returns-clause-left c =
    let found : find (is_of_row c.args.process.0 c.args.fd) c.args.self.now.list.associations ≡ Some c.in_ok-a.a =
    ap (λ v. find (is_of_row c.args.process.0 c.args.fd) v.list.associations) (sym c.self.view_is) ∙ sym c.in_ok-a.ensures.found in
    c.end_found.ensures.left ∙ left_by_key (is_of_row c.args.process.0 c.args.fd) c.args.self.now.list.associations c.in_ok-a.a c.end_found.ensures.distinct found
