use Rattle.std.proofs.Common.{◌||◌, false, option_map, refl, sym, subst, length, arith}
use Rattle.std.proofs.lemmas.List.{drop_all}
use Rattle.law_pools.specs.Words.{is_this}
use Rattle.spec_kernel.specs.Words.{give, has_given_last}
use Rattle.kernel_store.specs.Stored.{stored_state}
use Rattle.kernel_store.proofs.AnyOrder.{start_none_meant}
use Rattle.kernel_store.proofs.GivingServed.{AreOut, out_next, served_more, served_none, told_apart}
use Rattle.kernel_store.proofs.store.Store.+serve_from.Goals as goal

pub returns-then-place-doors : goal.returns-then-place-doors
returns-then-place-doors t c =
    let s = c.args.self.now in
    let n = length s.processes.processes in
    served_none s c.start_as_well.new.self (option_map (λ p. p.0) c.args.first) c.requires.agreed
    (subst (λ ds. AreOut ds (stored_state s) s) (drop_all c.args.place c.args.doors.now c.if-place-doors.true) c.requires.out)
    (c.start_as_well.ensures.state (stored_state s) (λ p. false) n refl (sym (start_none_meant (stored_state s) n)) (λ p e. refl))
    c.start_as_well.ensures.processes c.start_as_well.ensures.given_out c.start_as_well.ensures.latest

pub serve_from-requires : goal.serve_from-requires
serve_from-requires t c = (
  omega (arith, c.if-place-doors.false),
  (
    out_next c.args.self.now c.give_and_tell-last.new.self c.args.doors.now c.args.place c.pool_of-pool.result c.if-place-doors.false c.requires.out
        c.pool_of-pool.ensures c.give_and_tell-last.ensures.given,
    c.give_and_tell-last.ensures.given.agreed,
  ),
)

pub returns : goal.returns
returns t c =
    let s = c.args.self.now in
    let mid = c.give_and_tell-last.new.self in
    let first = option_map (λ p. p.0) c.args.first in
    let last = option_map (λ p. p.0) c.give_and_tell-last.result in
    served_more c.pool_of-pool.result first last s mid c.serve_from.new.self c.start_as_well-2.new.self c.give_and_tell-last.ensures c.serve_from.ensures
    (c.start_as_well-2.ensures.state (give (stored_state mid)) (λ p. is_this p first || has_given_last (stored_state mid) (give (stored_state mid)) p)
    (length (give (stored_state mid)).process_table.processes) (sym c.serve_from.ensures.processes) c.serve_from.ensures.state
    (told_apart c.pool_of-pool.result first last s mid c.serve_from.new.self c.start_as_well-2.new.self c.give_and_tell-last.ensures c.serve_from.ensures))
    c.start_as_well-2.ensures.processes c.start_as_well-2.ensures.given_out c.start_as_well-2.ensures.latest
