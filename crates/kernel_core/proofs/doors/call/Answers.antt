use Rattle.std.proofs.Common.{◌≡◌, ◌<◌, ◌++◌, ap, sym, subst, ◌∙◌, length, arith}
use Rattle.dk_base.specs.declared.limits.TheConstants.{QUEUE_MAX}
use Rattle.spec_records.specs.Words.{objects_passed}
use Rattle.spec_kernel.specs.Words.{State, calls_waiting, is_valid, pool_of, table_of}
use Rattle.kernel_store.specs.Words.{AreThere}
use Rattle.kernel_store.specs.Words.{stored_state}
use Rattle.kernel_core.proofs.Tests.{called_once, called_valid, not_full}
use Rattle.kernel_core.proofs.Grows.{few_arguments, few_passed}
use Rattle.kernel_core.proofs.doors.call.Goals as goal

pub open_call-requires-clause-few : goal.open_call-requires-clause-few
open_call-requires-clause-few c =
    let m = stored_state c.args.store.now in
    subst (λ (k : State). calls_waiting k (pool_of k c.door_named-door.result) < QUEUE_MAX) (sym c.take_out.ensures.state)
    (subst (λ d. calls_waiting m (pool_of m d) < QUEUE_MAX) (sym c.door_named-door.ensures)
    (not_full m c.args.p.0 c.args.fd c.args.bytes c.args.pass.now c.requires.allowed))

pub open_call-requires-clause-door : goal.open_call-requires-clause-door
open_call-requires-clause-door c =
    let m = stored_state c.args.store.now in
    ap (λ (k : State). is_valid k c.door_named-door.result) c.take_out.ensures.state
    ∙ ap (is_valid m) c.door_named-door.ensures
    ∙ called_valid m c.args.p.0 c.args.fd c.args.bytes c.args.pass.now c.requires.allowed

pub take_out-requires-clause-once : goal.take_out-requires-clause-once
take_out-requires-clause-once c =
    called_once (stored_state c.args.store.now) c.args.p.0 c.args.fd c.args.bytes c.args.pass.now c.requires.allowed

pub open_call-requires-clause-there : goal.open_call-requires-clause-there
open_call-requires-clause-there c =
    let passed = objects_passed (table_of (stored_state c.args.store.now) c.args.p.0) c.args.pass.now in
    let objects : c.into_list.result ≡ passed = c.into_list.ensures ∙ c.take_out.ensures.items ∙ ap (λ os. os ++ passed) c.requires.room.empty in
    subst (AreThere c.take_out.new.self.doors.items) (sym objects) c.take_out.ensures.there

pub open_call-requires-clause-small : goal.open_call-requires-clause-small
open_call-requires-clause-small c =
    let m = stored_state c.args.store.now in
    let table = table_of m c.args.p.0 in
    let passed = objects_passed table c.args.pass.now in
    let objects : c.into_list.result ≡ passed = c.into_list.ensures ∙ c.take_out.ensures.items ∙ ap (λ os. os ++ passed) c.requires.room.empty in
    let few = few_arguments m c.args.p.0 c.args.fd c.args.bytes c.args.pass.now c.requires.allowed in
    omega (arith, ap length objects, few_passed table c.args.pass.now, few.1)
