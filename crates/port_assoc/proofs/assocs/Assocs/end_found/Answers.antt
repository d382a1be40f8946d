use Rattle.std.proofs.Common.{◌≡◌, Some, ap, ◌∙◌}
use Rattle.spec_records.specs.Words.{association_at, has_key}
use Rattle.port_assoc.proofs.Counted.{left_counted}
use Rattle.port_assoc.proofs.Numbers.{numbers_left}
use Rattle.port_assoc.proofs.Watching.{watches_ended}
use Rattle.port_assoc.proofs.assocs.Assocs.end_found.Goals as goal

pub invariant_of-self : goal.invariant_of-self
invariant_of-self c =
    let found : association_at c.self.inside.table.items c.args.a.key ≡ Some c.args.a =
    ap (λ v. association_at v.list.associations c.args.a.key) c.self.view_is ∙ c.requires in
    rw c.remove.ensures.items (
      watches_ended c.self.inside.table.items c.self.inside.watchers c.end.new.self c.args.a.key c.args.a found c.self.invariant.0 c.end.ensures.watchers,
      numbers_left (has_key c.args.a.key) c.self.inside.table.items 0 c.self.inside.made c.self.invariant.1,
      left_counted c.self.inside.table.items c.self.inside.rows.counts c.down.new.self.counts c.args.a.key c.args.a found c.self.invariant.2 (rw c.row_at.ensures at c.down.ensures.counts),
    )
