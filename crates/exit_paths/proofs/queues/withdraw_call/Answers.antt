use Rattle.std.proofs.Common.{◌&&◌, sym, ap, ◌∙◌}
use Rattle.dk_base.specs.ByNumber.{at_number}
use Rattle.dk_base.specs.declared.object.Item.TheVariants as item
use Rattle.spec_records.specs.Words.{is_pool, pool_in}
use Rattle.server_pool.specs.Words.{is_waiting_as}
use Rattle.exit_paths.specs.Words.{HaveLeft}
use Rattle.exit_paths.proofs.ItemsLeft.{left_as, left_none, left_pool}
use Rattle.exit_paths.proofs.queues.withdraw_call.Goals as goal

pub returns-then-is_queued : goal.returns-then-is_queued
returns-then-is_queued c =
    let v = c.args.pools.now in
    let r = c.args.call.now in
    let pool = pool_in (at_number c.args.doors.now.items r.door) in
    let is = c.is_queued.ensures in
    let here : HaveLeft (λ q w. is_pool pool q && is_waiting_as (item.Call r.number) w) v c.withdraw.new.self =
    rw c.withdraw.ensures.pool (rw c.pool_of-pool.ensures (left_pool v pool (is_waiting_as (item.Call r.number)))) in
    left_as here (λ q w. ap (λ b. b && (is_pool pool q && is_waiting_as (item.Call r.number) w)) (sym c.if-is_queued.true ∙ is))

pub returns-else-is_queued : goal.returns-else-is_queued
returns-else-is_queued c =
    let r = c.args.call.now in
    let pool = pool_in (at_number c.args.doors.now.items r.door) in
    left_as (left_none c.args.pools.now) (λ q w. ap (λ b. b && (is_pool pool q && is_waiting_as (item.Call r.number) w)) (sym c.if-is_queued.false ∙ c.is_queued.ensures))
