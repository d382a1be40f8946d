use Rattle.std.proofs.Common.{◌≡◌, None, Some, ap, arith, false, if◌then◌else◌, sym, true, ◌∙◌}
use Rattle.std.proofs.lemmas.Bool.Decides.{nat_tests}
use Rattle.spec_records.specs.Words.{has_number}
use Rattle.port_assoc.proofs.Rising.{at_point, only, parted}
use Rattle.port_assoc.proofs.table.Table.numbered.Goals as goal

pub count_below-place-requires : goal.count_below-place-requires
count_below-place-requires c =
    let up = rw (← c.self.view_is) at c.requires in
    parted c.args.n c.self.inside.entries.entries up.0 up.1

pub returns-in_err-a-clause-found : goal.returns-in_err-a-clause-found
returns-in_err-a-clause-found c =
    let up = rw (← c.self.view_is) at c.requires in
    let point = at_point c.args.n c.self.inside.entries.entries 0 up.0 c.count_below-place.result up.1 c.count_below-place.ensures in
    let nothing = rw (← c.self.view_is) at c.in_err-a.ensures in
    rw (← c.self.view_is) (c.from_residual.ensures ∙ sym (point ∙ ap (only c.args.n) (sym nothing)))

pub returns-then-a-n-clause-found : goal.returns-then-a-n-clause-found
returns-then-a-n-clause-found c =
    let up = rw (← c.self.view_is) at c.requires in
    let point = at_point c.args.n c.self.inside.entries.entries 0 up.0 c.count_below-place.result up.1 c.count_below-place.ensures in
    let there = rw (← c.self.view_is) at c.in_ok-a.ensures in
    let same : has_number c.args.n c.in_ok-a.a ≡ true = grind (arith, nat_tests, c.if-a-n.true) in
    rw (← c.self.view_is) (sym (point ∙ ap (only c.args.n) (sym there) ∙ ap (λ b. if b then Some c.in_ok-a.a else None) same))

pub returns-else-a-n-clause-found : goal.returns-else-a-n-clause-found
returns-else-a-n-clause-found c =
    let up = rw (← c.self.view_is) at c.requires in
    let point = at_point c.args.n c.self.inside.entries.entries 0 up.0 c.count_below-place.result up.1 c.count_below-place.ensures in
    let there = rw (← c.self.view_is) at c.in_ok-a.ensures in
    let other : has_number c.args.n c.in_ok-a.a ≡ false = grind (arith, nat_tests, c.if-a-n.false) in
    rw (← c.self.view_is) (sym (point ∙ ap (only c.args.n) (sym there) ∙ ap (λ b. if b then Some c.in_ok-a.a else None) other))
