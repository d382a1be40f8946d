use Rattle.std.proofs.Common.{◌≡◌, ◌++◌, true, false, ap, sym, subst, ◌∙◌, length, arith, is_some, find}
use Rattle.spec_records.specs.Words.{end_invocation, end_notice, kept_notices, objects_passed, park_thread, return_call, unbind_thread, is_client_call_of}
use Rattle.spec_kernel.specs.Words.{State, has_invalid_door, now, table_of, tables_after_pass}
use Rattle.kernel_store.specs.Words.{AreThere}
use Rattle.kernel_store.specs.Words.{stored_state}
use Rattle.kernel_core.proofs.Live.{return_stands}
use Rattle.kernel_core.proofs.Tests.{returned_once}
use Rattle.kernel_core.proofs.Grows.{few_passed, few_results}
use Rattle.kernel_core.proofs.doors.return_from.Goals as goal

pub returns-then-has_invalid_door-clause-state : goal.returns-then-has_invalid_door-clause-state
returns-then-has_invalid_door-clause-state c =
    let m = stored_state c.args.store.now in
    let t = c.args.t.0 in
    let passed = objects_passed (table_of m c.args.p.0) c.args.pass.now in
    let objects : c.into_list-objects.result ≡ passed =
    c.into_list-objects.ensures ∙ c.take_out.ensures.items ∙ ap (λ os. os ++ passed) c.requires.room.empty in
    let invalid : has_invalid_door m t ≡ true =
    ap (λ (k : State). has_invalid_door k t) (sym c.take_out.ensures.state) ∙ sym c.has_invalid_door.ensures ∙ c.if-has_invalid_door.true in
    return_stands m (stored_state c.return_unbound.new.self) t c.args.p.0 c.args.bytes c.args.pass.now true c.requires.none_past invalid
    (c.return_unbound.ensures.state
    ∙ ap
    (λ (k : State).
    record k {
      process_table = end_invocation k.process_table t;
      bindings = unbind_thread k.bindings t;
      call_tree = return_call k.call_tree t c.args.bytes c.into_list-objects.result;
      notice_list = kept_notices k.doors (end_notice k.notice_list t);
    })
    c.take_out.ensures.state
    ∙ ap
    (λ os.
    record m {
      process_table = end_invocation m.process_table t;
      bindings = unbind_thread m.bindings t;
      tables = tables_after_pass m c.args.p.0 c.args.pass.now;
      call_tree = return_call m.call_tree t c.args.bytes os;
      notice_list = kept_notices m.doors (end_notice m.notice_list t);
    })
    objects)

pub returns-clause-state : goal.returns-clause-state
returns-clause-state c =
    let m = stored_state c.args.store.now in
    let t = c.args.t.0 in
    let passed = objects_passed (table_of m c.args.p.0) c.args.pass.now in
    let objects : c.into_list-objects.result ≡ passed =
    c.into_list-objects.ensures ∙ c.take_out.ensures.items ∙ ap (λ os. os ++ passed) c.requires.room.empty in
    let valid : has_invalid_door m t ≡ false =
    ap (λ (k : State). has_invalid_door k t) (sym c.take_out.ensures.state) ∙ sym c.has_invalid_door.ensures ∙ c.if-has_invalid_door.false in
    return_stands m (stored_state c.return_call.new.self) t c.args.p.0 c.args.bytes c.args.pass.now false c.requires.none_past valid
    (c.return_call.ensures.state
    ∙ ap
    (λ (k : State).
    record k {
      process_table = park_thread k.process_table t (now k);
      call_tree = return_call k.call_tree t c.args.bytes c.into_list-objects.result;
      notice_list = kept_notices k.doors (end_notice k.notice_list t);
    })
    c.take_out.ensures.state
    ∙ ap
    (λ os.
    record m {
      process_table = park_thread m.process_table t (now m);
      tables = tables_after_pass m c.args.p.0 c.args.pass.now;
      call_tree = return_call m.call_tree t c.args.bytes os;
      notice_list = kept_notices m.doors (end_notice m.notice_list t);
    })
    objects)

pub take_out-requires-clause-once : goal.take_out-requires-clause-once
take_out-requires-clause-once c =
    returned_once (stored_state c.args.store.now) c.args.t.0 c.args.p.0 c.args.bytes c.args.pass.now c.requires.allowed

pub return_unbound-requires-clause-there : goal.return_unbound-requires-clause-there
return_unbound-requires-clause-there c =
    let passed = objects_passed (table_of (stored_state c.args.store.now) c.args.p.0) c.args.pass.now in
    let objects : c.into_list-objects.result ≡ passed =
    c.into_list-objects.ensures ∙ c.take_out.ensures.items ∙ ap (λ os. os ++ passed) c.requires.room.empty in
    subst (AreThere c.take_out.new.self.doors.items) (sym objects) c.take_out.ensures.there

pub return_call-requires-clause-there : goal.return_call-requires-clause-there
return_call-requires-clause-there c =
    let passed = objects_passed (table_of (stored_state c.args.store.now) c.args.p.0) c.args.pass.now in
    let objects : c.into_list-objects.result ≡ passed =
    c.into_list-objects.ensures ∙ c.take_out.ensures.items ∙ ap (λ os. os ++ passed) c.requires.room.empty in
    subst (AreThere c.take_out.new.self.doors.items) (sym objects) c.take_out.ensures.there

pub return_unbound-requires-clause-small : goal.return_unbound-requires-clause-small
return_unbound-requires-clause-small c =
    λ client.
    let m = stored_state c.args.store.now in
    let table = table_of m c.args.p.0 in
    let passed = objects_passed table c.args.pass.now in
    let objects : c.into_list-objects.result ≡ passed =
    c.into_list-objects.ensures ∙ c.take_out.ensures.items ∙ ap (λ os. os ++ passed) c.requires.room.empty in
    let there = ap (λ (k : State). is_some (find (is_client_call_of c.args.t.0) k.call_tree.calls)) (sym c.take_out.ensures.state) ∙ client in
    let few = few_results m c.args.t.0 c.args.p.0 c.args.bytes c.args.pass.now c.requires.allowed there in
    omega (arith, ap length objects, few_passed table c.args.pass.now, few.1)

pub return_call-requires-clause-small : goal.return_call-requires-clause-small
return_call-requires-clause-small c =
    λ client.
    let m = stored_state c.args.store.now in
    let table = table_of m c.args.p.0 in
    let passed = objects_passed table c.args.pass.now in
    let objects : c.into_list-objects.result ≡ passed =
    c.into_list-objects.ensures ∙ c.take_out.ensures.items ∙ ap (λ os. os ++ passed) c.requires.room.empty in
    let there = ap (λ (k : State). is_some (find (is_client_call_of c.args.t.0) k.call_tree.calls)) (sym c.take_out.ensures.state) ∙ client in
    let few = few_results m c.args.t.0 c.args.p.0 c.args.bytes c.args.pass.now c.requires.allowed there in
    omega (arith, ap length objects, few_passed table c.args.pass.now, few.1)
