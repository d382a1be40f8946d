use Rattle.std.proofs.Common.{sym, ap, ◌∙◌, subst, arith}
use Rattle.proc_table.specs.Words.{Walks}
use Rattle.dk_base.specs.Words.{has}
use Rattle.exit_paths.specs.Words.{is_call_of_any}
use Rattle.exit_paths.proofs.ItemsLeft.{left_as, left_none, left_then}
use Rattle.exit_paths.proofs.Walked.{all_walked, any_walked}
use Rattle.exit_paths.proofs.queues.withdraw_all.Goals as goal

pub loop-t-init : goal.loop-t-init
loop-t-init c = (
  subst (λ s. Walks s c.over-walk.result) (sym c.over-walk.ensures.rest) c.over-walk.ensures.walks,
  left_as (left_none c.args.pools.now)
      (λ q w. sym (ap (λ n. is_call_of_any c.args.doors.now.items c.args.calls.now.tree.calls (has c.over-walk.result.rest) n q w) c.over-walk.ensures.start)),
)

pub loop-t-smaller : goal.loop-t-smaller
loop-t-smaller c =
    let step = c.in-Some.ensures.next c.over-walk.result.rest c.loop-t.invariant.0 in
    omega (arith, step.later, step.done, c.in-Some.ensures.within.1)

pub loop-t-preserved : goal.loop-t-preserved
loop-t-preserved c =
    let doors = c.args.doors.now.items in
    let calls = c.args.calls.now.tree.calls in
    let set = c.over-walk.result.rest in
    let step = c.in-Some.ensures.next set c.loop-t.invariant.0 in (
      step.walks,
      left_as (left_then c.loop-t.invariant.1 c.withdraw_caller.ensures)
          (λ q w.
          any_walked doors calls q w (has set) c.loop-t.walk.done c.in-Some.t.0 step.later step.between step.here
          ∙ ap (λ n. is_call_of_any doors calls (has set) n q w) (sym step.done)),
    )

pub returns : goal.returns
returns c =
    let set = c.over-walk.result.rest in
    left_as c.loop-t.invariant.1
    (λ q w.
    all_walked c.args.doors.now.items c.args.calls.now.tree.calls q w set c.args.procs.now c.args.p.0 c.loop-t.walk.done (λ t. ap (λ s. has s t) c.over-walk.ensures.rest ∙ c.threads_of-threads.ensures t)
    (c.in_default.ensures.end set c.loop-t.invariant.0))
