use Rattle.std.proofs.Common.{◌≡◌, ◌++◌, Some, None, ap, length, sym, ◌∙◌}
use Rattle.spec_records.specs.Words.{first_refusal, limit_tests}
use Rattle.spec_kernel.specs.Words.{door_named, door_of, object_at, pass_tests, pool_tests}
use Rattle.kernel_store.specs.Words.{stored_state}
use Rattle.kernel_core.proofs.Tests.{first_of, none_of}
use Rattle.kernel_core.proofs.doors.call_refusal.Goals as goal

pub returns-in-Some : goal.returns-in-Some
returns-in-Some c =
    let m = stored_state c.args.store.now in
    let d = door_named (object_at m c.args.p.0 c.args.fd) in
    let tests = limit_tests (door_of m d) (length c.args.bytes.now) (length c.args.pass.now) in
    let told : first_refusal tests ≡ Some c.in-Some.error =
    ap (λ k. first_refusal (limit_tests (door_of m k) (length c.args.bytes.now) (length c.args.pass.now))) (sym c.door_named-door.ensures)
    ∙ sym c.limit_refusal.ensures
    ∙ c.in-Some.is in
    sym (first_of tests (pass_tests m c.args.p.0 c.args.pass.now ++ pool_tests m d) c.in-Some.error told)

pub returns-in-None : goal.returns-in-None
returns-in-None c =
    let m = stored_state c.args.store.now in
    let d = door_named (object_at m c.args.p.0 c.args.fd) in
    let tests = limit_tests (door_of m d) (length c.args.bytes.now) (length c.args.pass.now) in
    let told : first_refusal tests ≡ None =
    ap (λ k. first_refusal (limit_tests (door_of m k) (length c.args.bytes.now) (length c.args.pass.now))) (sym c.door_named-door.ensures)
    ∙ sym c.limit_refusal.ensures
    ∙ c.in-None.is in
    c.pass_refusal.ensures
    ∙ ap (λ k. first_refusal (pass_tests m c.args.p.0 c.args.pass.now ++ pool_tests m k)) c.door_named-door.ensures
    ∙ sym (none_of tests (pass_tests m c.args.p.0 c.args.pass.now ++ pool_tests m d) told)
