use Rattle.std.proofs.Common.{◌≡◌, None, ap, ◌∙◌}
use Rattle.indexmap.proofs.CallerLemmas.{insert_entry-new}
use Rattle.spec_records.specs.Words.{timer_at}
use Rattle.timer_src.specs.Keys.{key_at, same_key}
use Rattle.timer_src.specs.Table.{timers_in}
use Rattle.timer_src.proofs.Entries.{none_at, pushed}
use Rattle.timer_src.proofs.table.Table.push.Goals as goal

pub returns-clause-items : goal.returns-clause-items
returns-clause-items c =
    let t = c.args.t in
    let m = c.self.inside.entries in
    let none : timer_at (timers_in m.entries) t.process.0 t.id ≡ None = ap (λ v. timer_at v.items t.process.0 t.id) c.self.view_is ∙ c.requires.free in
    let inserted = rw (c.unwrap.ensures, c.key_at.ensures) at c.insert.ensures.entries in
    rw (← c.self.view_is) (ap timers_in (inserted ∙ insert_entry-new same_key m (key_at t.process.0 t.id) _ (none_at t.process.0 t.id m.entries none)) ∙ pushed t m.entries)
