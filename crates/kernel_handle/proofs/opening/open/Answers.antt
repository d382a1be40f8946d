use Rattle.std.proofs.Common.{rules, ap, ◌∙◌}
use Rattle.kernel_handle.proofs.Opens.{children-made, events-with_threads}
use Rattle.kernel_handle.proofs.opening.open.Goals as goal

pub returns-in_err-limits-clause-refused : goal.returns-in_err-limits-clause-refused
returns-in_err-limits-clause-refused c = let k = c.in_err-limits.ensures.refused c.args.threads.now in search rules

pub returns-in_err-make_children-clause-refused : goal.returns-in_err-make_children-clause-refused
returns-in_err-make_children-clause-refused c = let k = c.in_err-make_children.ensures.refused c.args.threads.now in search rules

pub add_threads-requires-clause-opening : goal.add_threads-requires-clause-opening
add_threads-requires-clause-opening c =
    (children-made c.args.processes.now _ _ _ c.in-Ok.ensures c.in_ok-limits.ensures.limits c.in_ok-make_children.ensures.made).events

pub add_threads-requires-clause-processes : goal.add_threads-requires-clause-processes
add_threads-requires-clause-processes c =
    (children-made c.args.processes.now _ _ _ c.in-Ok.ensures c.in_ok-limits.ensures.limits c.in_ok-make_children.ensures.made).count

pub add_threads-requires-clause-no_thread : goal.add_threads-requires-clause-no_thread
add_threads-requires-clause-no_thread c =
    (children-made c.args.processes.now _ _ _ c.in-Ok.ensures c.in_ok-limits.ensures.limits c.in_ok-make_children.ensures.made).threads

pub returns-clause-no_event : goal.returns-clause-no_event
returns-clause-no_event c =
    ap (λ m. m.events) c.in_ok-add_threads.ensures.added
    ∙ (events-with_threads c.make_children.new.kernel c.args.threads.now
    ∙ (children-made c.args.processes.now _ _ _ c.in-Ok.ensures c.in_ok-limits.ensures.limits c.in_ok-make_children.ensures.made).events)
