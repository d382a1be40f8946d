use Rattle.std.proofs.Common.{◌≡◌, ◌+◌, ◌-◌, ◌<◌, ◌≤◌, length, sym, ◌∙◌, subst, arith}
use Rattle.spec_records.specs.Words.{leaving_of}
use Rattle.server_pool.specs.Words.{thread_room_in}
use Rattle.dk_base.specs.Words.{has}
use Rattle.exit_paths.specs.Words.{fated, own_pool_in}
use Rattle.exit_paths.proofs.Fated.{keeps_self, keeps_then}
use Rattle.exit_paths.proofs.LeftThreads.{HasLeft, all_left, fate_now, interrupting_as, next_later, next_left, next_room, next_there}
use Rattle.exit_paths.proofs.MadeRoom.{numbered_low}
use Rattle.exit_paths.proofs.Walked.{left_skipped, none_left}
use Rattle.exit_paths.proofs.fates.leave_threads.Goals as goal

pub loop-t-init : goal.loop-t-init
loop-t-init c = (
  c.over-walk.ensures.walks,
  λ doors. none_left _ _ _ c.args.processes.now c.over-walk.result.done c.over-walk.ensures.start,
  λ doors tree list h. h,
  keeps_self c.args.pools.now,
  λ pool. omega arith,
)

pub loop-t-smaller : goal.loop-t-smaller
loop-t-smaller c =
    let step = c.in-Some.ensures.next c.args.touched c.loop-t.invariant.0 in
    omega (arith, step.later, step.done, c.in-Some.ensures.within.1)

pub leave_thread-requires : goal.leave_thread-requires
leave_thread-requires c =
    let step = c.in-Some.ensures.next c.args.touched c.loop-t.invariant.0 in
    let t = c.in-Some.t.0 in
    let i = t - 1 in
    let next : t ≡ i + 1 = omega (arith, step.later) in
    let there = c.requires.there t step.here in
    let low : t ≤ length c.args.processes.now.threads = numbered_low c.args.processes.now.threads t there in
    let within : i < length c.args.processes.now.threads = omega (arith, low, next) in
    let own = own_pool_in c.loop-t.processes c.loop-t.pools.bindings t in
    let left =
    left_skipped (c.loop-t.invariant.1 c.requires.agreed.doors) i (omega (arith, step.later)) (λ u a b x e. c.requires.others c.requires.agreed.doors u x (step.between u a (omega (arith, b, next))) e) in
    λ parks. record {
      there = next_there c.args.pools.now c.loop-t.pools left c.loop-t.invariant.3.bindings t next within;
      room =
          next_room c.args.pools.now c.loop-t.pools left c.loop-t.invariant.3.bindings t next within (c.requires.room t step.here (c.fate_of-fate.ensures.parks parks))
          (λ pool. omega (arith, c.loop-t.invariant.4 pool, step.later));
      later =
          next_later c.args.pools.now c.loop-t.pools left c.loop-t.invariant.3.bindings t next c.requires.agreed.doors
          c.requires.agreed.tree c.requires.agreed.list
          (c.loop-t.invariant.2 c.requires.agreed.doors c.requires.agreed.tree c.requires.agreed.list c.requires.agreed.agrees)
          c.requires.earlier own own;
    }

pub loop-t-preserved : goal.loop-t-preserved
loop-t-preserved c =
    let step = c.in-Some.ensures.next c.args.touched c.loop-t.invariant.0 in
    let t = c.in-Some.t.0 in
    let i = t - 1 in
    let next : t ≡ i + 1 = omega (arith, step.later) in (
      step.walks,
      λ doors.
          let left =
          left_skipped (c.loop-t.invariant.1 doors) i (omega (arith, step.later)) (λ u a b x e. c.requires.others doors u x (step.between u a (omega (arith, b, next))) e) in
          subst (λ n. HasLeft (leaving_of c.args.processes.now doors c.args.who) c.args.now c.args.calls.now.tree.calls n c.args.processes.now c.leave_thread.new.processes)
          (sym next ∙ sym step.done)
          (next_left left t (fated c.args.now c.fate_of-fate.result) c.leave_thread.new.processes next
          c.leave_thread.ensures.thread
          (fate_now doors c.args.who (has c.args.interrupted) left (interrupting_as (leaving_of c.args.processes.now doors c.args.who) (has c.args.interrupted) (c.requires.interrupted doors))
          (fated c.args.now c.fate_of-fate.result) t
          (c.fate_of-fate.ensures.fate doors c.args.now))
          (c.requires.numbered t)),
      λ doors tree list h. c.leave_thread.ensures.agreed doors tree list (c.loop-t.invariant.2 doors tree list h),
      keeps_then c.args.pools.now c.loop-t.pools c.leave_thread.new.pools c.loop-t.invariant.3 c.leave_thread.ensures.keeps,
      λ pool.
          let a : thread_room_in c.args.pools.now pool ≤ thread_room_in c.loop-t.pools pool + c.loop-t.walk.done = c.loop-t.invariant.4 pool in
          let b : thread_room_in c.loop-t.pools pool ≤ thread_room_in c.leave_thread.new.pools pool + 1 = c.leave_thread.ensures.room_left pool in
          omega (arith, a, b, step.later, step.done),
    )

pub returns-clause-threads : goal.returns-clause-threads
returns-clause-threads c = λ doors.
    let n = c.loop-t.walk.done + length c.args.processes.now.threads in
    let end = c.in_default.ensures.end c.args.touched c.loop-t.invariant.0 in
    all_left (left_skipped (c.loop-t.invariant.1 doors) n (omega arith) (λ u a b x e. c.requires.others doors u x (end u a) e)) (omega arith)
