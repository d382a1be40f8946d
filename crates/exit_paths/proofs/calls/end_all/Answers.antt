use Rattle.std.proofs.Common.{le_refl, le_trans, sym, ap, ◌∙◌, subst, arith}
use Rattle.proc_table.specs.Words.{Walks}
use Rattle.dk_base.specs.Words.{has}
use Rattle.exit_paths.specs.Words.{HaveEnded}
use Rattle.exit_paths.proofs.CallsSoFar.{none_ended}
use Rattle.exit_paths.proofs.Walked.{all_walked_ended, walked_ended}
use Rattle.exit_paths.proofs.calls.end_all.Goals as goal

pub loop-t-init : goal.loop-t-init
loop-t-init c = (
  subst (λ s. Walks s c.over-walk.result) (sym c.over-walk.ensures.rest) c.over-walk.ensures.walks,
  λ tree refused sound so_far. subst (λ n. HaveEnded (has c.over-walk.result.rest) refused n tree c.args.calls.now.tree) (sym c.over-walk.ensures.start) (none_ended so_far),
  λ first h. h,
  c.requires,
  le_refl _,
)

pub loop-t-smaller : goal.loop-t-smaller
loop-t-smaller c =
    let step = c.in-Some.ensures.next c.over-walk.result.rest c.loop-t.invariant.0 in
    omega (arith, step.later, step.done, c.in-Some.ensures.within.1)

pub loop-t-preserved : goal.loop-t-preserved
loop-t-preserved c =
    let step = c.in-Some.ensures.next c.over-walk.result.rest c.loop-t.invariant.0 in (
      step.walks,
      λ tree refused sound so_far.
          subst (λ n. HaveEnded (has c.over-walk.result.rest) refused n tree c.end_thread.new.calls.tree) (sym step.done)
          (walked_ended (c.parts_of_leaving.ensures tree sound) (c.loop-t.invariant.1 tree refused sound so_far) c.in-Some.t.0 step.later step.between step.here
          c.end_thread.ensures.tree),
      λ first h. c.end_thread.ensures.dropped first (c.loop-t.invariant.2 first h),
      c.end_thread.ensures.room,
      le_trans c.loop-t.invariant.4 c.end_thread.ensures.spare,
    )

pub returns-clause-tree : goal.returns-clause-tree
returns-clause-tree c = λ tree refused sound so_far.
    all_walked_ended c.over-walk.result.rest c.args.procs.now c.args.p.0 (c.loop-t.invariant.1 tree refused sound so_far) (λ t. ap (λ s. has s t) c.over-walk.ensures.rest ∙ c.threads_of-threads.ensures t)
    (c.in_default.ensures.end c.over-walk.result.rest c.loop-t.invariant.0)
