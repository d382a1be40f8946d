use Rattle.std.proofs.Common.{nat_eq, sym, subst}
use Rattle.std.specs.List.{IsDistinct}
use Rattle.name_space.proofs.Entries.{paths_are}
use Rattle.name_space.proofs.names.Names.len.Goals as goal

pub returns-clause-distinct : goal.returns-clause-distinct
returns-clause-distinct c =
    rw (← c.self.view_is) (subst (IsDistinct nat_eq) (sym (paths_are c.self.inside.doors.entries)) c.self.invariant)
