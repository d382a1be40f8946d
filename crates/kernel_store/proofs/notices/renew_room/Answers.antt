use Rattle.std.proofs.Common.{◌+◌, ◌≤◌, drop, get_or, subst}
use Rattle.std.proofs.lemmas.List.{drop_more}
use Rattle.spec_records.specs.declared.pool.Pool.TheVariants.{Common}
use Rattle.spec_records.specs.Words.{pid}
use Rattle.server_pool.specs.Words.{item_room_in, thread_room_in}
use Rattle.exit_paths.specs.Words.{HasNoLessRoom}
use Rattle.kernel_store.specs.Noticing.{HaveItemRoomBut}
use Rattle.exit_paths.proofs.MadeRoom.{holds_room, holds_then, room_made, room_then}
use Rattle.kernel_store.proofs.Short.{room_again}
use Rattle.kernel_store.proofs.notices.renew_room.Goals as goal

pub returns-in_err-room_for_items-clause-same : goal.returns-in_err-room_for_items-clause-same
returns-in_err-room_for_items-clause-same c =
    let v = c.loop-pool.pools in
    let w = c.room_for_items.new.self in
    let pool = get_or c.args.short.now c.loop-pool.pool-index (Common (pid 0)) in
    holds_then c.args.pools.now v w c.loop-pool.invariant.0
    (holds_room v w pool (thread_room_in w pool) (item_room_in w pool) c.room_for_items.ensures.same)

pub returns-in_err-room_for_items-clause-kept : goal.returns-in_err-room_for_items-clause-kept
returns-in_err-room_for_items-clause-kept c =
    let v = c.loop-pool.pools in
    let w = c.room_for_items.new.self in
    let pool = get_or c.args.short.now c.loop-pool.pool-index (Common (pid 0)) in
    room_then c.args.pools.now v w c.loop-pool.invariant.1
    (room_made v w pool (thread_room_in w pool) (item_room_in w pool) c.room_for_items.ensures.same c.room_for_items.ensures.threads
    c.room_for_items.ensures.items)

pub loop-pool-preserved : goal.loop-pool-preserved
loop-pool-preserved c =
    let v = c.loop-pool.pools in
    let w = c.room_for_items.new.self in
    let ds = c.args.short.now in
    let i = c.loop-pool.pool-index in
    let pool = get_or ds i (Common (pid 0)) in
    let made : HasNoLessRoom v w =
    room_made v w pool (thread_room_in w pool) (item_room_in w pool) c.room_for_items.ensures.same c.room_for_items.ensures.threads
    c.room_for_items.ensures.items in (
      holds_then c.args.pools.now v w c.loop-pool.invariant.0
          (holds_room v w pool (thread_room_in w pool) (item_room_in w pool) c.room_for_items.ensures.same),
      room_then c.args.pools.now v w c.loop-pool.invariant.1 made,
      room_again (drop (i + 1) ds) v w pool (subst (λ ps. HaveItemRoomBut ps v) (drop_more ds i (Common (pid 0)) c.loop-pool-test.true) c.loop-pool.invariant.2) made
          (λ there. subst (λ k. k ≤ item_room_in w pool) c.items_for.ensures (c.in_ok-room_for_items.ensures.ok there)),
    )
