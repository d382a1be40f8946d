use Rattle.std.proofs.Common.{◌≡◌, ⊎_elim, ◌≤◌, true, is_some, length, sym, ap, ◌∙◌, subst, eq-or-lt_of_le, arith}
use Rattle.server_pool.specs.Words.{item_room_in, pool_at, thread_room_in}
use Rattle.exit_paths.specs.Words.{HasNoLessRoom, own_pool_in}
use Rattle.exit_paths.proofs.MadeRoom.{holds_room, holds_self, holds_then, room_made, room_self, room_then}
use Rattle.exit_paths.proofs.Walked.{all_came, earlier, none_zero}
use Rattle.exit_paths.proofs.fates.make_room.Goals as goal

pub returns-in_err-room_for_threads-clause-same : goal.returns-in_err-room_for_threads-clause-same
returns-in_err-room_for_threads-clause-same c =
    let v = c.loop-t.pools in
    let w = c.room_for_threads.new.self in
    let pool = c.own_pool-pool.result in
    holds_then c.args.pools.now v w c.loop-t.invariant.0
    (holds_room v w pool (thread_room_in w pool) (item_room_in w pool) c.room_for_threads.ensures.same)

pub returns-in_err-room_for_threads-clause-kept : goal.returns-in_err-room_for_threads-clause-kept
returns-in_err-room_for_threads-clause-kept c =
    let v = c.loop-t.pools in
    let w = c.room_for_threads.new.self in
    let pool = c.own_pool-pool.result in
    room_then c.args.pools.now v w c.loop-t.invariant.1
    (room_made v w pool (thread_room_in w pool) (item_room_in w pool) c.room_for_threads.ensures.same c.room_for_threads.ensures.threads
    c.room_for_threads.ensures.items)

pub loop-t-init : goal.loop-t-init
loop-t-init c = (
  holds_self c.args.pools.now,
  room_self c.args.pools.now,
  λ t l here there. absurd (none_zero c.args.touched t c.over-walk.result.done l c.over-walk.ensures.start here),
  c.over-walk.ensures.walks,
)

pub loop-t-smaller : goal.loop-t-smaller
loop-t-smaller c =
    let step = c.in-Some.ensures.next c.args.touched c.loop-t.invariant.3 in
    omega (arith, step.later, step.done, c.in-Some.ensures.within.1)

pub loop-t-preserved : goal.loop-t-preserved
loop-t-preserved c =
    let step = c.in-Some.ensures.next c.args.touched c.loop-t.invariant.3 in
    let n = c.in-Some.t.0 in
    let v = c.loop-t.pools in
    let w = c.room_for_threads.new.self in
    let pool = c.own_pool-pool.result in
    let table = c.args.processes.now in
    let bindings = c.args.pools.now.bindings in
    let made : HasNoLessRoom v w =
    room_made v w pool (thread_room_in w pool) (item_room_in w pool) c.room_for_threads.ensures.same c.room_for_threads.ensures.threads
    c.room_for_threads.ensures.items in
    let own : pool ≡ own_pool_in table bindings n =
    c.own_pool-pool.ensures ∙ ap (λ bs. own_pool_in table bs n) c.loop-t.invariant.0.bindings in
    let last :
    is_some (pool_at c.args.pools.now (own_pool_in table bindings n)) ≡ true →
    length table.threads ≤ thread_room_in w (own_pool_in table bindings n) =
    subst (λ p. is_some (pool_at c.args.pools.now p) ≡ true → length table.threads ≤ thread_room_in w p) own
    (λ there.
    subst (λ k. k ≤ thread_room_in w pool) c.thread_count-count.ensures.count
    (c.in_ok-room_for_threads.ensures.ok (c.loop-t.invariant.1.there pool ∙ there))) in (
      holds_then c.args.pools.now v w c.loop-t.invariant.0
          (holds_room v w pool (thread_room_in w pool) (item_room_in w pool) c.room_for_threads.ensures.same),
      room_then c.args.pools.now v w c.loop-t.invariant.1 made,
      λ t l here pool_there.
          ⊎_elim
          (λ e.
          subst (λ k. length table.threads ≤ thread_room_in w (own_pool_in table bindings k)) (sym e)
          (last (subst (λ k. is_some (pool_at c.args.pools.now (own_pool_in table bindings k)) ≡ true) e pool_there)))
          (λ k.
          let low : t ≤ c.loop-t.walk.done = earlier c.args.touched t c.loop-t.walk.done n (step.between t) k here in
          let before : length table.threads ≤ thread_room_in v (own_pool_in table bindings t) = c.loop-t.invariant.2 t low here pool_there in
          let more : thread_room_in v (own_pool_in table bindings t) ≤ thread_room_in w (own_pool_in table bindings t) =
          made.threads (own_pool_in table bindings t) in
          omega (arith, before, more))
          (eq-or-lt_of_le (subst (λ k. t ≤ k) step.done l)),
      step.walks,
    )

pub returns-clause-room : goal.returns-clause-room
returns-clause-room c = λ t here pool_there.
    let table = c.args.processes.now in
    let v = c.loop-t.pools in
    let end = c.in_default.ensures.end c.args.touched c.loop-t.invariant.3 in
    let whole : t ≤ c.loop-t.walk.done = all_came c.args.touched t c.loop-t.walk.done (end t) here in
    let own : own_pool_in table v.bindings t ≡ own_pool_in table c.args.pools.now.bindings t =
    ap (λ bs. own_pool_in table bs t) c.loop-t.invariant.0.bindings in
    subst (λ p. length table.threads ≤ thread_room_in v p) (sym own)
    (c.loop-t.invariant.2 t whole here
    (sym (c.loop-t.invariant.1.there (own_pool_in table c.args.pools.now.bindings t)) ∙ ap (λ p. is_some (pool_at v p)) (sym own) ∙ pool_there))
