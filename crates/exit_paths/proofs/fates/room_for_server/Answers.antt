use Rattle.server_pool.specs.Words.{item_room_in, thread_room_in}
use Rattle.exit_paths.proofs.MadeRoom.{holds_room, room_made}
use Rattle.exit_paths.proofs.fates.room_for_server.Goals as goal

pub returns-clause-same : goal.returns-clause-same
returns-clause-same c =
    let w = c.room_for_threads.new.self in
    let pool = c.own_pool-pool.result in
    holds_room c.args.pools.now w pool (thread_room_in w pool) (item_room_in w pool) c.room_for_threads.ensures.same

pub returns-clause-kept : goal.returns-clause-kept
returns-clause-kept c =
    let w = c.room_for_threads.new.self in
    let pool = c.own_pool-pool.result in
    room_made c.args.pools.now w pool (thread_room_in w pool) (item_room_in w pool) c.room_for_threads.ensures.same c.room_for_threads.ensures.threads
    c.room_for_threads.ensures.items
