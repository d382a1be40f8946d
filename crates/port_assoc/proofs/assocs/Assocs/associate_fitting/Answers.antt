use Rattle.std.proofs.Common.{◌≡◌, ◌+◌, ap, arith, refl, ◌∙◌}
use Rattle.spec_records.specs.Words.{association_at, has_key, new_association}
use Rattle.port_assoc.proofs.Counted.{few_counted, made_counted}
use Rattle.port_assoc.proofs.Lists.{none-among-others}
use Rattle.port_assoc.proofs.Numbers.{numbers_made}
use Rattle.port_assoc.proofs.Watching.{armed_made}
use Rattle.port_assoc.proofs.assocs.Assocs.associate_fitting.Goals as goal

pub push-requires-clause-free : goal.push-requires-clause-free
push-requires-clause-free c =
    ap (λ v. association_at v.list.associations c.args.key) c.self.view_is
    ∙ ap (λ l. association_at l.associations c.args.key) c.end-replaced.ensures.list
    ∙ none-among-others (has_key c.args.key) c.args.self.now.list.associations

pub up-requires-clause-few : goal.up-requires-clause-few
up-requires-clause-few c =
    let few = few_counted c.self.inside.table.items c.self.inside.rows.counts c.self.inside.made c.row_at.result c.self.invariant.2 c.self.invariant.1 in
    let made : c.self.inside.made ≡ c.args.self.now.list.made = ap (λ v. v.list.made) c.self.view_is ∙ ap (λ l. l.made) c.end-replaced.ensures.list in
    omega (arith, few, made, c.requires.few)

pub invariant_of-self : goal.invariant_of-self
invariant_of-self c =
    let xs = c.self.inside.table.items in
    let a = new_association (c.self.inside.made + 1) c.args.key c.args.object c.args.events c.args.user in
    rw c.push.ensures.items
    (armed_made xs c.self.inside.watchers c.push-2.new.self a refl c.self.invariant.0 c.push-2.ensures.watchers, numbers_made xs c.self.inside.made a refl c.self.invariant.1, made_counted xs c.self.inside.rows.counts c.up.new.self.counts a c.self.invariant.2 (rw c.row_at.ensures at c.up.ensures))

pub invariant_of-self-2 : goal.invariant_of-self-2
invariant_of-self-2 c =
    let xs = c.self.inside.table.items in
    let a = new_association (c.self.inside.made + 1) c.args.key c.args.object c.args.events c.args.user in
    rw c.push.ensures.items
    (armed_made xs c.self.inside.watchers c.push-2.new.self a refl c.self.invariant.0 c.push-2.ensures.watchers, numbers_made xs c.self.inside.made a refl c.self.invariant.1, made_counted xs c.self.inside.rows.counts c.up.new.self.counts a c.self.invariant.2 (rw c.row_at.ensures at c.up.ensures))
