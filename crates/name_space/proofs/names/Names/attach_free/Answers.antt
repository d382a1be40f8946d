use Rattle.std.proofs.Common.{◌≡◌, false, is_some, nat_eq, ap, ◌∙◌}
use Rattle.indexmap.proofs.CallerLemmas.{insert_entry-new}
use Rattle.spec_records.specs.Words.{name_in}
use Rattle.name_space.specs.NameTable.{names_in}
use Rattle.name_space.proofs.Entries.{attached, none_there}
use Rattle.name_space.proofs.names.Names.attach_free.Goals as goal

pub returns-clause-names : goal.returns-clause-names
returns-clause-names c =
    let path = c.args.path in
    let doors = c.self.inside.doors in
    let none : is_some (name_in (names_in doors.entries) path) ≡ false =
    ap (λ v. is_some (name_in v.names path)) c.self.view_is ∙ c.requires.free in
    let inserted = rw c.unwrap.ensures at c.insert.ensures.entries in
    rw (← c.self.view_is)
    (ap names_in (inserted ∙ insert_entry-new nat_eq doors path.0 c.args.door (none_there path doors.entries none)) ∙ attached path c.args.door doors.entries)
