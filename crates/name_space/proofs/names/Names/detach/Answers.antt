use Rattle.std.proofs.Common.{nat_eq, ok_or, ap, subst, sym, ◌∙◌}
use Rattle.std.specs.List.{IsDistinct}
use Rattle.dk_base.specs.declared.error.Errno.TheVariants.{EINVAL}
use Rattle.name_space.specs.NameTable.{names_in}
use Rattle.name_space.proofs.Entries.{detached, door_found, paths_are}
use Rattle.name_space.proofs.names.Names.detach.Goals as goal
use Rattle.name_space.proofs.names.Names.detach.Goals.{in-Some, in-None}

pub returns-clause-answer : goal.returns-clause-answer
returns-clause-answer c =
    let found = sym (door_found c.args.path c.self.inside.doors.entries) in
    elim c.match-shift_remove.branch [
      | in-Some w ↦ rw (w.result-is, ← c.self.view_is) (ap (λ o. ok_or o EINVAL) (w.in-Some.ensures.value ∙ found))
      | in-None w ↦ rw (w.result-is, ← c.self.view_is) (ap (λ o. ok_or o EINVAL) (w.in-None.ensures.value ∙ found))
    ]

pub returns-clause-names : goal.returns-clause-names
returns-clause-names c =
    rw (← c.self.view_is) (ap names_in c.shift_remove.ensures.entries ∙ detached c.args.path c.self.inside.doors.entries c.self.invariant)

pub returns-clause-distinct : goal.returns-clause-distinct
returns-clause-distinct c =
    rw (← c.self.view_is) (subst (IsDistinct nat_eq) (sym (paths_are c.self.inside.doors.entries)) c.self.invariant)
