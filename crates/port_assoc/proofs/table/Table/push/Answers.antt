use Rattle.std.proofs.Common.{◌≡◌, None, ap, ◌∙◌}
use Rattle.indexmap.proofs.CallerLemmas.{insert_entry-new}
use Rattle.spec_records.specs.Words.{association_at}
use Rattle.port_assoc.specs.Keys.{key_of, same_key}
use Rattle.port_assoc.specs.Table.{associations_in}
use Rattle.port_assoc.proofs.Entries.{none_at, pushed}
use Rattle.port_assoc.proofs.table.Table.push.Goals as goal

pub returns : goal.returns
returns c =
    let a = c.args.a in
    let m = c.self.inside.entries in
    let none : association_at (associations_in m.entries) a.key ≡ None = ap (λ v. association_at v.items a.key) c.self.view_is ∙ c.requires.free in
    let inserted = rw (c.unwrap.ensures, c.key_of.ensures) at c.insert.ensures.entries in
    record { items = rw (← c.self.view_is) (ap associations_in (inserted ∙ insert_entry-new same_key m (key_of a.key) _ (none_at a.key m.entries none)) ∙ pushed a m.entries) }
