use Rattle.std.proofs.Common.{◌||◌, option_map, sym, length, arith}
use Rattle.law_pools.specs.Words.{is_this}
use Rattle.spec_kernel.specs.Words.{give, has_given_last}
use Rattle.kernel_store.specs.Stored.{stored_state}
use Rattle.kernel_store.proofs.GivingServed.{out_parked, served_more, to_all, told_apart}
use Rattle.kernel_store.proofs.store.Store.+serve_parked.Goals as goal

pub serve_from-requires-clause-out : goal.serve_from-requires-clause-out
serve_from-requires-clause-out t c = λ pool f. to_all c.args.threads c.args.self.now.pools pool c.in_default.ensures.none (c.requires.out pool f)

pub serve_parked-requires : goal.serve_parked-requires
serve_parked-requires t c = (
  omega (arith, c.in-Some.ensures.fewer),
  (
    out_parked c.args.self.now c.give_and_tell-last.new.self c.args.threads c.take_least.new.set c.args.doors.now c.in-Some.t.0 c.own_pool-pool.result
        c.requires.agreed c.own_pool-pool.ensures c.in-Some.ensures.others c.give_and_tell-last.ensures.given c.requires.out,
    c.give_and_tell-last.ensures.given.agreed,
  ),
)

pub returns : goal.returns
returns t c =
    let s = c.args.self.now in
    let mid = c.give_and_tell-last.new.self in
    let first = option_map (λ p. p.0) c.args.first in
    let last = option_map (λ p. p.0) c.give_and_tell-last.result in
    served_more c.own_pool-pool.result first last s mid c.serve_parked.new.self c.start_as_well.new.self c.give_and_tell-last.ensures c.serve_parked.ensures
    (c.start_as_well.ensures.state (give (stored_state mid)) (λ p. is_this p first || has_given_last (stored_state mid) (give (stored_state mid)) p)
    (length (give (stored_state mid)).process_table.processes) (sym c.serve_parked.ensures.processes) c.serve_parked.ensures.state
    (told_apart c.own_pool-pool.result first last s mid c.serve_parked.new.self c.start_as_well.new.self c.give_and_tell-last.ensures c.serve_parked.ensures))
    c.start_as_well.ensures.processes c.start_as_well.ensures.given_out c.start_as_well.ensures.latest
