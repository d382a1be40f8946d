use Rattle.std.proofs.Common.{◌≡◌, ◌||◌, ap, option_map, sym, length, ◌∙◌}
use Rattle.law_pools.specs.Words.{is_this}
use Rattle.spec_kernel.specs.Words.{State, give, has_given_last}
use Rattle.spec_kernel.proofs.Failing.{doors-fail_returns}
use Rattle.kernel_store.specs.Frames.{serves_any}
use Rattle.kernel_store.specs.Giving.{IsServed}
use Rattle.kernel_store.specs.Stored.{stored_state}
use Rattle.kernel_store.proofs.GivingServed.{out_touched, served_more, settles, told_apart}
use Rattle.kernel_store.proofs.store.Store.settle.Goals as goal

pub serve_parked-requires-clause-out : goal.serve_parked-requires-clause-out
serve_parked-requires-clause-out c =
    let s = c.args.self.now in
    let failed = c.fail_touched.new.self in
    let doors : (stored_state failed).doors ≡ (stored_state s).doors = ap (λ (m : State). m.doors) c.fail_touched.ensures.state ∙ doors-fail_returns (stored_state s) in
    out_touched c.args.touched c.args.parked c.args.doors.now failed c.give_and_tell-last.new.self
    (λ pool e f.
    c.fail_touched.ensures.given_out c.args.parked pool
    (c.requires.given_out pool e (ap (λ ds. serves_any (record (stored_state s) { doors = ds }) c.args.doors.now pool) (sym doors) ∙ f)))
    c.give_and_tell-last.ensures.given

pub returns-clause-state : goal.returns-clause-state
returns-clause-state c =
    let s = c.fail_touched.new.self in
    let mid = c.give_and_tell-last.new.self in
    let first = option_map (λ p. p.0) c.args.first in
    let last = option_map (λ p. p.0) c.give_and_tell-last.result in
    let served : IsServed first s c.start_as_well.new.self =
    served_more c.args.touched first last s mid c.serve_parked.new.self c.start_as_well.new.self c.give_and_tell-last.ensures c.serve_parked.ensures
    (c.start_as_well.ensures.state (give (stored_state mid)) (λ p. is_this p first || has_given_last (stored_state mid) (give (stored_state mid)) p)
    (length (give (stored_state mid)).process_table.processes) (sym c.serve_parked.ensures.processes) c.serve_parked.ensures.state
    (told_apart c.args.touched first last s mid c.serve_parked.new.self c.start_as_well.new.self c.give_and_tell-last.ensures c.serve_parked.ensures))
    c.start_as_well.ensures.processes c.start_as_well.ensures.given_out c.start_as_well.ensures.latest in
    settles c.args.self.now s c.start_as_well.new.self first c.fail_touched.ensures.state served
