use Rattle.std.proofs.Common.{◌≡◌, Some, ap, sym, ◌∙◌}
use Rattle.spec_records.specs.Words.{association_at, has_key}
use Rattle.port_assoc.proofs.Apart.{alone_of_key, found_by_key}
use Rattle.port_assoc.proofs.Ended.{ended_list, nothing_ends}
use Rattle.port_assoc.proofs.assocs.Assocs.end.Goals as goal

pub returns-in_err-a-clause-list : goal.returns-in_err-a-clause-list
returns-in_err-a-clause-list c = rw (← c.self.view_is) (nothing_ends _ c.args.key (sym c.in_err-a.ensures.found))

pub end_found-requires : goal.end_found-requires
end_found-requires c =
    rw (← c.self.view_is) (found_by_key (has_key c.args.key) c.self.inside.table.items c.in_ok-a.a c.in_ok-a.ensures.distinct (sym c.in_ok-a.ensures.found))

pub returns-clause-list : goal.returns-clause-list
returns-clause-list c =
    let found : association_at c.args.self.now.list.associations c.args.key ≡ Some c.in_ok-a.a =
    ap (λ v. association_at v.list.associations c.args.key) (sym c.self.view_is) ∙ sym c.in_ok-a.ensures.found in
    ended_list c.args.self.now.list c.end_found.new.self.list c.args.key c.in_ok-a.a c.end_found.ensures.made c.end_found.ensures.left c.end_found.ensures.distinct found

pub returns-in_err-a-clause-alone : goal.returns-in_err-a-clause-alone
returns-in_err-a-clause-alone c = rw (← c.self.view_is) (alone_of_key c.args.key c.self.inside.table.items c.in_err-a.ensures.distinct)

pub returns-clause-alone : goal.returns-clause-alone
returns-clause-alone c = alone_of_key c.args.key c.args.self.now.list.associations c.end_found.ensures.distinct
