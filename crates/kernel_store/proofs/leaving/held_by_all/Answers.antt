use Rattle.std.proofs.Common.{◌≡◌, ⊎_elim, ◌≤◌, ℕ, [], Some, length, sym, ap, ◌∙◌, subst, eq-or-lt_of_le, true, arith}
use Rattle.dk_base.specs.declared.object.Item.TheVariants as item
use Rattle.proc_table.specs.Words.{Walks}
use Rattle.dk_base.specs.Words.{has}
use Rattle.exit_paths.proofs.MadeRoom.{numbered_low}
use Rattle.exit_paths.proofs.Walked.{all_came, earlier, none_zero, of_there}
use Rattle.kernel_store.specs.Held.{held_at}
use Rattle.kernel_store.proofs.HeldNotices.{ends_as, held_of}
use Rattle.kernel_store.proofs.leaving.held_by_all.Goals as goal

pub loop-t-init : goal.loop-t-init
loop-t-init c =
    record {
      walks = subst (λ s. Walks s c.over-walk.result) (sym c.over-walk.ensures.rest) c.over-walk.ensures.walks;
      room = omega (arith, c.in_ok-held.ensures.spare, c.thread_count-count.ensures.count);
      listed = λ t n l e f. absurd (none_zero c.over-walk.result.rest t c.over-walk.result.done l c.over-walk.ensures.start e);
    }

pub loop-t-smaller : goal.loop-t-smaller
loop-t-smaller c =
    let step = c.in-Some.ensures.next c.over-walk.result.rest c.loop-t.invariant.walks in
    omega (arith, step.later, step.done, c.in-Some.ensures.within.1)

pub note_held-requires : goal.note_held-requires
note_held-requires c =
    let set = c.over-walk.result.rest in
    let step = c.in-Some.ensures.next set c.loop-t.invariant.walks in
    let t = c.in-Some.t.0 in
    let low : t ≤ length c.args.processes.now.threads =
    numbered_low c.args.processes.now.threads t (of_there c.args.processes.now c.args.process.0 t (sym (ap (λ s. has s t) c.over-walk.ensures.rest ∙ c.threads_of-threads.ensures t) ∙ step.here)) in
    omega (arith, low, step.later, c.loop-t.invariant.room)

pub loop-t-preserved : goal.loop-t-preserved
loop-t-preserved c =
    let set = c.over-walk.result.rest in
    let table = c.args.processes.now in
    let p = c.args.process.0 in
    let step = c.in-Some.ensures.next set c.loop-t.invariant.walks in
    let u = c.in-Some.t.0 in
    record {
      walks = step.walks;
      room = let a = c.loop-t.invariant.room in let b = c.note_held.ensures.spare in omega (arith, a, b, step.later, step.done);
      listed = λ t n l e f.
          ⊎_elim
          (λ k.
          c.note_held.ensures.noted [] n (ends_as table [] p u (sym (ap (λ s. has s u) c.over-walk.ensures.rest ∙ c.threads_of-threads.ensures u) ∙ step.here))
          (subst (λ v. held_at table v ≡ Some (item.Notice n)) k f))
          (λ k. c.note_held.ensures.kept n (c.loop-t.invariant.listed t n (earlier set t c.loop-t.walk.done u (step.between t) k e) e f))
          (eq-or-lt_of_le (subst (λ v. t ≤ v) step.done l));
    }

pub returns : goal.returns
returns c = λ doors t n l e f.
    let set = c.over-walk.result.rest in
    let here = ap (λ s. has s t) c.over-walk.ensures.rest ∙ c.threads_of-threads.ensures t ∙ held_of c.args.processes.now doors c.args.process.0 t (item.Notice n) f e in
    c.loop-t.invariant.listed t n (all_came set t c.loop-t.walk.done (c.in_default.ensures.end set c.loop-t.invariant.walks t) here) here f
