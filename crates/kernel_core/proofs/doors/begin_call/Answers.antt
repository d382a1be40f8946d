use Rattle.std.proofs.Common.{ap, find, sym, ◌∙◌}
use Rattle.std.specs.Option.{option_copied}
use Rattle.call_tree.specs.Words.{CallsValue}
use Rattle.kernel_store.specs.Words.{stored_state}
use Rattle.spec_kernel.specs.Words.{State, table_of}
use Rattle.spec_records.specs.Words.{is_given_as, new_descriptors}
use Rattle.kernel_core.proofs.Told.{begins}
use Rattle.kernel_core.proofs.doors.begin_call.Goals as goal

pub returns-clause-answer : goal.returns-clause-answer
returns-clause-answer c =
    let m = stored_state c.args.store.now in
    let found =
    sym (c.given.ensures ∙ ap (λ (v : CallsValue). find (is_given_as c.args.c c.args.t.0) v.tree.calls) c.calls.ensures) ∙ ap option_copied c.in-Some.is in
    begins m c.args.t.0 c.args.p.0 c.args.c c.in-Some.call.now c.enter_call-bytes.result c.entry_point-entry.result.0 c.entry_point-entry.result.1 c.install.result
    found c.enter_call-bytes.ensures.args c.requires.room c.entry_point-entry.ensures.entry c.entry_point-entry.ensures.cookie
    (c.install.ensures.fds ∙ ap (λ (k : State). new_descriptors (table_of k c.args.p.0) c.enter_call-bytes.result.objects) c.enter_call-bytes.ensures.state)
