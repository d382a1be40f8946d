use Rattle.std.proofs.Common.{◌≤◌, ⊎_elim, sym, ap, ◌∙◌, subst, eq-or-lt_of_le, arith}
use Rattle.spec_records.specs.Words.{is_fellow_caller, thread_at}
use Rattle.proc_table.specs.Words.{Walks, is_of}
use Rattle.dk_base.specs.Words.{has}
use Rattle.exit_paths.proofs.ForkLeft.{caller_of_own, no_caller_zero, with_here, with_other}
use Rattle.exit_paths.proofs.LeftThreads.{or_later}
use Rattle.exit_paths.proofs.fates.fellow_callers.Goals as goal

pub loop-u-init : goal.loop-u-init
loop-u-init c = (
  subst (λ s. Walks s c.over-walk.result) (sym c.over-walk.ensures.rest) c.over-walk.ensures.walks,
  λ u l. c.new-callers.ensures u ∙ sym (no_caller_zero c.args.processes.now c.args.t.0 u (omega (arith, l, c.over-walk.ensures.start))),
  λ u l. c.new-callers.ensures u,
)

pub loop-u-smaller : goal.loop-u-smaller
loop-u-smaller c =
    let step = c.in-Some.ensures.next c.over-walk.result.rest c.loop-u.invariant.0 in
    omega (arith, step.later, step.done, c.in-Some.ensures.within.1)

pub loop-u-preserved : goal.loop-u-preserved
loop-u-preserved c =
    let set = c.over-walk.result.rest in
    let table = c.args.processes.now in
    let t = c.args.t.0 in
    let next = c.in-Some.u.0 in
    let before = c.loop-u.callers in
    let step = c.in-Some.ensures.next set c.loop-u.invariant.0 in (
      step.walks,
      λ u l.
          c.put.ensures u
          ∙ ⊎_elim
          (λ e. with_here before next u c.is_fellow_caller.result e ∙ c.is_fellow_caller.ensures ∙ ap (is_fellow_caller table t) (sym e))
          (λ k.
          with_other before next u c.is_fellow_caller.result (λ e. omega (arith, e, k))
          ∙ ⊎_elim (λ a. c.loop-u.invariant.1 u a)
          (λ a.
          c.loop-u.invariant.2 u a
          ∙ sym
          (caller_of_own table t u
          (sym (ap (λ s. has s u) c.over-walk.ensures.rest ∙ c.threads_of-own.ensures u ∙ ap (λ p. is_of p (thread_at table u)) c.process_of.ensures) ∙ step.between u a k)))
          (or_later u c.loop-u.walk.done))
          (eq-or-lt_of_le (subst (λ n. u ≤ n) step.done l)),
      λ u l.
          c.put.ensures u ∙ with_other before next u c.is_fellow_caller.result (λ e. omega (arith, e, l, step.done)) ∙ c.loop-u.invariant.2 u (omega (arith, l, step.done, step.later)),
    )

pub returns : goal.returns
returns c = λ u.
    let table = c.args.processes.now in
    let t = c.args.t.0 in
    let end = c.in_default.ensures.end c.over-walk.result.rest c.loop-u.invariant.0 in
    ⊎_elim (λ a. c.loop-u.invariant.1 u a)
    (λ a.
    c.loop-u.invariant.2 u a
    ∙ sym
    (caller_of_own table t u
    (sym (ap (λ s. has s u) c.over-walk.ensures.rest ∙ c.threads_of-own.ensures u ∙ ap (λ p. is_of p (thread_at table u)) c.process_of.ensures) ∙ end u a)))
    (or_later u c.loop-u.walk.done)
