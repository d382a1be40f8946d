use Rattle.std.proofs.Common.{◌≡◌, None, Some, ap, ap₂, arith, filter, find, length, sym, ◌∙◌}
use Rattle.spec_records.specs.declared.association.Association.{Association}
use Rattle.spec_records.specs.Words.{AssociationList, associations_of_row, end_row, is_of_other_row, is_of_row, withdraw_events}
use Rattle.port_assoc.proofs.Lists.{fewer-left, first-of, none-left, none-of, others-alone, others-left}
use Rattle.kernel_ports.proofs.ports.end_row.Goals as goal

pub loop-a-smaller : goal.loop-a-smaller
loop-a-smaller c =
    let fewer = fewer-left (is_of_row c.args.process.0 c.args.fd) c.loop-a.assocs.list.associations c.in-Some.a (sym c.in-Some.ensures.ended) in
    let left = ap length c.end_first_of_row.ensures.left in omega (arith, fewer, left)

pub loop-a-preserved : goal.loop-a-preserved
loop-a-preserved c =
    let test = is_of_row c.args.process.0 c.args.fd in
    let xs = c.loop-a.assocs.list.associations in
    let found : find test xs ≡ Some c.in-Some.a = sym c.in-Some.ensures.ended in
    let left = c.end_first_of_row.ensures.left in
    let made = c.end_first_of_row.ensures.made in
    record {
      list = (λ i. record { made = made i; associations = (ap (filter (is_of_other_row c.args.process.0 c.args.fd)) left ∙ others-left test xs) i }) ∙ c.loop-a.invariant.list;
      ports = ap₂ withdraw_events c.withdraw.ensures.ports (ap (filter test) left)
          ∙ sym (ap (withdraw_events c.loop-a.ports.ports) (first-of test xs c.in-Some.a found))
          ∙ c.loop-a.invariant.ports;
      rooms = λ q n h. c.withdraw.ensures.rooms q n (c.loop-a.invariant.rooms q n h);
      places = λ q n h. c.withdraw.ensures.places q n (c.loop-a.invariant.places q n h);
    }

pub returns-clause-list : goal.returns-clause-list
returns-clause-list c =
    let test = is_of_row c.args.process.0 c.args.fd in
    let xs = c.loop-a.assocs.list.associations in
    let none : find test xs ≡ None = sym c.in_default.ensures.ended in
    let rest = c.end_first_of_row.ensures.left ∙ none-left test xs none ∙ sym (others-alone test xs none) in
    (λ i. record { made = c.end_first_of_row.ensures.made i; associations = rest i }) ∙ c.loop-a.invariant.list

pub returns-clause-ports : goal.returns-clause-ports
returns-clause-ports c =
    let test = is_of_row c.args.process.0 c.args.fd in
    let none : find test c.loop-a.assocs.list.associations ≡ None = sym c.in_default.ensures.ended in
    sym (ap (withdraw_events c.loop-a.ports.ports) (none-of test c.loop-a.assocs.list.associations none)) ∙ c.loop-a.invariant.ports
