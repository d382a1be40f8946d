use Rattle.std.proofs.Common.{is_some, ok_or, ap, sym, ◌∙◌}
use Rattle.dk_base.specs.declared.error.Errno.TheVariants.{ENOENT}
use Rattle.name_space.proofs.Entries.{door_found, name_found}
use Rattle.name_space.proofs.names.Names.look.Goals as goal

pub returns-in-Some-clause-door : goal.returns-in-Some-clause-door
returns-in-Some-clause-door c =
    rw (← c.self.view_is) (ap (λ o. ok_or o ENOENT) (c.in-Some.ensures.value ∙ sym (door_found c.args.path c.self.inside.doors.entries)))

pub returns-in-None-clause-door : goal.returns-in-None-clause-door
returns-in-None-clause-door c =
    rw (← c.self.view_is) (ap (λ o. ok_or o ENOENT) (c.in-None.ensures.value ∙ sym (door_found c.args.path c.self.inside.doors.entries)))

pub returns-in-Some-clause-there : goal.returns-in-Some-clause-there
returns-in-Some-clause-there c =
    rw (← c.self.view_is) (ap is_some c.in-Some.ensures.value ∙ sym (name_found c.args.path c.self.inside.doors.entries))

pub returns-in-None-clause-there : goal.returns-in-None-clause-there
returns-in-None-clause-there c =
    rw (← c.self.view_is) (ap is_some c.in-None.ensures.value ∙ sym (name_found c.args.path c.self.inside.doors.entries))
