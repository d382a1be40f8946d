use Rattle.std.proofs.Common.{◌≡◌, None, ap, filter, find, sym, ◌∙◌}
use Rattle.spec_records.specs.Words.{has_number, has_other_number}
use Rattle.port_assoc.proofs.Apart.{found_by_key, left_by_key}
use Rattle.port_assoc.proofs.Lists.{others-alone}
use Rattle.port_assoc.proofs.Rising.{all_of_number}
use Rattle.port_assoc.proofs.assocs.Assocs.retrieved.Goals as goal

pub end_found-requires : goal.end_found-requires
end_found-requires c =
    rw (← c.self.view_is) (found_by_key (has_number c.args.id) c.self.inside.table.items c.in-Some.a c.in-Some.ensures.distinct (sym c.in-Some.ensures.found))

pub returns-in-Some-clause-list : goal.returns-in-Some-clause-list
returns-in-Some-clause-list c =
    let xs = c.self.inside.table.items in
    let same = ap (λ v. v.list.associations) (sym c.self.view_is) in
    let rest : c.end_found.new.self.list.associations ≡ filter (has_other_number c.args.id) xs =
    (rw (← c.self.view_is) at c.end_found.ensures.left)
    ∙ left_by_key (has_number c.args.id) xs c.in-Some.a c.in-Some.ensures.distinct (sym c.in-Some.ensures.found)
    ∙ all_of_number c.args.id xs 0 c.self.inside.made c.self.invariant.1 in
    let made = c.end_found.ensures.made in
    λ k. record { made = made k; associations = (rest ∙ ap (filter (has_other_number c.args.id)) (sym same)) k }

pub returns-in_default-clause-list : goal.returns-in_default-clause-list
returns-in_default-clause-list c =
    let none : find (has_number c.args.id) c.self.inside.table.items ≡ None = sym c.in_default.ensures.found in
    let same = sym (others-alone (has_number c.args.id) c.self.inside.table.items none) in
    rw (← c.self.view_is) (λ k. record { made = c.self.inside.made; associations = same k })
