use Rattle.std.proofs.Common.{◌++◌, length, sym, ap, subst, ◌∙◌, arith}
use Rattle.exit_paths.specs.Words.{DropsTransit}
use Rattle.exit_paths.proofs.Transit.{drops_then}
use Rattle.exit_paths.proofs.calls.end_caller.Goals as goal

pub append-requires : goal.append-requires
append-requires c = omega (arith, c.leave_call-dropped.ensures.dropped.in_all, ap length c.slice.ensures, c.requires)

pub returns-clause-dropped : goal.returns-clause-dropped
returns-clause-dropped c = λ first h.
    subst (DropsTransit first c.leave_call-dropped.new.calls.tree.calls)
    (sym (c.append.ensures.items ∙ ap (λ xs. c.args.into.now.items ++ xs) c.slice.ensures)) (drops_then h c.leave_call-dropped.ensures.dropped)

pub returns-clause-room : goal.returns-clause-room
returns-clause-room c = omega (arith, c.leave_call-dropped.ensures.dropped.in_all, ap length c.slice.ensures, c.append.ensures.spare, c.requires)
