use Rattle.std.proofs.Common.{ap, ◌∙◌}
use Rattle.spec_records.specs.Words.{close_row, is_idle, revoke_door}
use Rattle.spec_kernel.specs.Words.{State, state_of, table_of, with_table_of}
use Rattle.kernel_store.specs.Words.{stored_state}
use Rattle.kernel_core.proofs.CanSettle.{parks_then}
use Rattle.kernel_core.proofs.Live.{revoke_stands}
use Rattle.kernel_core.proofs.leaving.revoke.Goals as goal

pub returns-clause-state : goal.returns-clause-state
returns-clause-state c =
    let p = c.args.p.0 in
    let door = c.door_named-door.result in
    revoke_stands (stored_state c.args.store.now) (stored_state c.revoke.new.self) p door c.args.fd c.door_named-door.ensures
    (c.revoke.ensures.state
    ∙ ap (λ (k : State). record k { doors = revoke_door k.doors door })
    (c.close.ensures.state ∙ ap (λ (k : State). with_table_of k p (close_row (table_of k p) c.args.fd.0)) c.in_ok-parked.ensures.state))

pub returns-clause-parked : goal.returns-clause-parked
returns-clause-parked c =
    parks_then _ c.args.store.now c.leave.new.self c.revoke.new.self (c.revoke.ensures.keeps.pools ∙ c.close.ensures.keeps.pools)
    (λ t. ap (λ (k : State). is_idle (state_of k t)) (c.revoke.ensures.state ∙ ap (λ (k : State). record k { doors = revoke_door k.doors c.door_named-door.result }) c.close.ensures.state))
    c.in_ok-parked.ensures.parked
