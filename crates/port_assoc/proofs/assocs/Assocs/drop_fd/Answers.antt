use Rattle.std.proofs.Common.{◌≡◌, None, Some, ap, arith, filter, find, length, sym, ◌∙◌}
use Rattle.spec_records.specs.Words.{association_number, association_port, is_of_other_row, is_of_row}
use Rattle.port_assoc.proofs.Lists.{all-told, fewer-left, none-left, one-told, others-alone, others-left}
use Rattle.port_assoc.proofs.assocs.Assocs.drop_fd.Goals as goal

pub loop-a-smaller : goal.loop-a-smaller
loop-a-smaller c =
    let test = is_of_row c.args.process.0 c.args.fd in
    let fewer = fewer-left test c.loop-a.self.list.associations c.in-Some.a (sym c.in-Some.ensures.ended) in
    let left = ap length c.end_first_of_row.ensures.left in omega (arith, fewer, left)

pub loop-a-preserved : goal.loop-a-preserved
loop-a-preserved c =
    let test = is_of_row c.args.process.0 c.args.fd in
    let i = c.loop-a.invariant in
    let xs = c.loop-a.self.list.associations in
    let a = c.in-Some.a in
    let found : find test xs ≡ Some a = sym c.in-Some.ensures.ended in
    let fewer = fewer-left test xs a found in
    let left = c.end_first_of_row.ensures.left in
    let less = ap length left in (
      c.end_first_of_row.ensures.made ∙ i.0,
      rw left (others-left test xs ∙ i.1),
      rw (left, c.push.ensures.items) (one-told test association_port c.loop-a.ports.items xs a found ∙ i.2),
      rw (left, c.push-in-Some.ensures.items) (one-told test association_number c.loop-a.ids.items xs a found ∙ i.3),
      omega (arith, fewer, less, i.4, c.push.ensures.spare),
      omega (arith, fewer, less, i.5, c.push-in-Some.ensures.spare),
      (
        omega (arith, i.6.0, c.end_first_of_row.ensures.room.0),
        λ o. let before = i.6.1 o in let now = c.end_first_of_row.ensures.room.1 o in omega (arith, before, now),
      ),
    )

pub returns-clause-list : goal.returns-clause-list
returns-clause-list c =
    let test = is_of_row c.args.process.0 c.args.fd in
    let i = c.loop-a.invariant in
    let xs = c.loop-a.self.list.associations in
    let none : find test xs ≡ None = sym c.in_default.ensures.ended in
    let made = c.end_first_of_row.ensures.made ∙ i.0 in
    let rest : c.end_first_of_row.new.self.list.associations ≡ filter (is_of_other_row c.args.process.0 c.args.fd) c.args.self.now.list.associations =
    c.end_first_of_row.ensures.left ∙ none-left test xs none ∙ sym (others-alone test xs none) ∙ i.1 in
    λ k. record { made = made k; associations = rest k }

pub returns-clause-ports : goal.returns-clause-ports
returns-clause-ports c =
    let test = is_of_row c.args.process.0 c.args.fd in
    sym (all-told test association_port c.loop-a.ports.items c.loop-a.self.list.associations (sym c.in_default.ensures.ended)) ∙ c.loop-a.invariant.2

pub returns-clause-ids : goal.returns-clause-ids
returns-clause-ids c =
    let test = is_of_row c.args.process.0 c.args.fd in
    sym (all-told test association_number c.loop-a.ids.items c.loop-a.self.list.associations (sym c.in_default.ensures.ended)) ∙ c.loop-a.invariant.3
