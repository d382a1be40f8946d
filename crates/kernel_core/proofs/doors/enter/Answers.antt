use Rattle.std.proofs.Common.{arith, refl}
use Rattle.dk_base.specs.declared.request.Request.TheVariants as request
use Rattle.kernel_store.specs.Words.{stored_state}
use Rattle.kernel_core.proofs.Live.{entry_kept}
use Rattle.kernel_core.proofs.doors.enter.Goals as goal

pub returns-in-Create-clause-state : goal.returns-in-Create-clause-state
returns-in-Create-clause-state c =
    let r = request.Create c.in-Create.entry c.in-Create.cookie c.in-Create.attrs in
    let kept =
    entry_kept (stored_state c.args.store.now) (stored_state c.create.new.store) c.args.t.0 c.args.p.0 r c.requires.own refl refl
    c.requires.can_act.placed c.requires.none_past in
    grind (arith, kept)

pub returns-in-Call-clause-state : goal.returns-in-Call-clause-state
returns-in-Call-clause-state c =
    let r = request.Call c.in-Call.door c.in-Call.bytes c.in-Call.pass c.in-Call.rsize in
    let kept =
    entry_kept (stored_state c.args.store.now) (stored_state c.call.new.store) c.args.t.0 c.args.p.0 r c.requires.own refl refl
    c.requires.can_act.placed c.requires.none_past in
    grind (arith, kept)
