use Rattle.std.proofs.Common.{◌∷◌, ◌++◌, [], ◌≡◌, ◌+◌, ◌<◌, ◌≤◌, is_some, true, refl, arith}
use Rattle.server_pool.specs.Words.{pool_at, thread_room_in}
use Rattle.server_pool.proofs.Changed.{thread_room_there}
use Rattle.exit_paths.specs.Words.{own_pool_in}
use Rattle.exit_paths.proofs.Fated.{keeps_then, keeps_threads, parked_again, room_parked}
use Rattle.exit_paths.proofs.fates.park_again.Goals as goal

pub park-requires-clause-later : goal.park-requires-clause-later
park-requires-clause-later c =
    let own = own_pool_in c.args.processes.now c.args.pools.now.bindings c.args.t.0 in
    rw c.own_pool-pool.ensures
    (c.take_out.ensures.above own (record { thread = c.args.t; pool = own; since = c.args.since }) c.requires.later)

pub returns-clause-agreed : goal.returns-clause-agreed
returns-clause-agreed c = λ doors tree list h.
    let own = own_pool_in c.args.processes.now c.args.pools.now.bindings c.args.t.0 in
    let before : 0 < thread_room_in c.args.pools.now own = c.requires.room in
    let kept : thread_room_in c.args.pools.now own ≤ thread_room_in c.take_out.new.pools own = c.take_out.ensures.room own in
    let there : is_some (pool_at c.take_out.new.pools own) ≡ true = thread_room_there c.take_out.new.pools own (omega arith) in
    rw c.park-2.ensures
    (rw c.park.ensures
    (rw c.own_pool-pool.ensures
    (parked_again h c.args.t.0 c.take_out.new.pools own (c.take_out.ensures.agreed c.args.since doors tree list h) c.requires.there refl
    c.take_out.ensures.keeps.bindings there
    (c.take_out.ensures.above own (record { thread = c.args.t; pool = own; since = c.args.since }) c.requires.later))))

pub returns-clause-room_left : goal.returns-clause-room_left
returns-clause-room_left c = λ pool.
    let kept : thread_room_in c.args.pools.now pool ≤ thread_room_in c.take_out.new.pools pool = c.take_out.ensures.room pool in
    let left : thread_room_in c.take_out.new.pools pool ≤ thread_room_in c.park.new.self pool + 1 =
    rw c.park.ensures
    (room_parked c.take_out.new.pools c.own_pool-pool.result (record { thread = c.args.t; pool = c.own_pool-pool.result; since = c.args.since }) pool) in
    omega arith

pub returns-clause-keeps : goal.returns-clause-keeps
returns-clause-keeps c =
    keeps_then c.args.pools.now c.take_out.new.pools c.park.new.self c.take_out.ensures.keeps
    (keeps_threads c.take_out.new.pools c.own_pool-pool.result (λ xs. xs ++ record { thread = c.args.t; pool = c.own_pool-pool.result; since = c.args.since } ∷ []) c.park.new.self c.park.ensures)
