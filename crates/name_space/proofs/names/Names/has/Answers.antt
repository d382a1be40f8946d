use Rattle.std.proofs.Common.{sym, ◌∙◌}
use Rattle.name_space.proofs.Entries.{name_found}
use Rattle.name_space.proofs.names.Names.has.Goals as goal

pub returns : goal.returns
returns c = rw (← c.self.view_is) (c.contains_key.ensures ∙ sym (name_found c.args.path c.self.inside.doors.entries))
