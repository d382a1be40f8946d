use Rattle.std.proofs.Common.{◌≤◌, length, ap, ◌∙◌, subst, sym}
use Rattle.std.specs.List.{AllByRecursion}
use Rattle.dk_base.specs.declared.limits.TheConstants.{DESCRIPTORS_MAX}
use Rattle.spec_kernel.specs.Words.{opening}
use Rattle.sys_run.proofs.Opens.{events-with_children, narrow_limits, no_event-opening, processes-opening, processes-with_children}
use Rattle.sys_run.proofs.opening.open.Goals as goal

pub new-requires-clause-limits : goal.new-requires-clause-limits
new-requires-clause-limits c =
    subst (AllByRecursion (λ n. n ≤ DESCRIPTORS_MAX)) (sym c.in_ok-limits.ensures) (narrow_limits c.args.script.now.processes c.requires.narrow)

pub make_children-requires-clause-opening : goal.make_children-requires-clause-opening
make_children-requires-clause-opening c = no_event-opening _ c.in_ok-limits.limits c.in_ok-kernel.ensures

pub make_children-requires-clause-fresh : goal.make_children-requires-clause-fresh
make_children-requires-clause-fresh c = c.in_ok-kernel.ensures ∙ ap opening c.in_ok-limits.ensures

pub add_threads-requires-clause-opening : goal.add_threads-requires-clause-opening
add_threads-requires-clause-opening c =
    ap (λ k. k.events) c.make_children.ensures ∙
    events-with_children c.args.script.now.processes c.in_ok-kernel.kernel 0 ∙
    no_event-opening _ c.in_ok-limits.limits c.in_ok-kernel.ensures

pub add_threads-requires-clause-processes : goal.add_threads-requires-clause-processes
add_threads-requires-clause-processes c =
    ap (λ k. length k.process_table.processes) c.make_children.ensures ∙
    processes-with_children c.args.script.now.processes c.in_ok-kernel.kernel 0 ∙
    processes-opening _ c.in_ok-limits.limits c.args.script.now.processes c.in_ok-kernel.ensures c.in_ok-limits.ensures
