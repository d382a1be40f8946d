use Rattle.std.proofs.Common.{sym, ◌∙◌}
use Rattle.spec_records.specs.Words.{is_to_collect}
use Rattle.call_tree.specs.Words.{is_call}
use Rattle.call_tree.proofs.Keys.{finds, misses, narrow_first, nowhere, of_number, only_narrow}
use Rattle.call_tree.proofs.calls.Calls.ready_call.Goals as goal

pub returns-in_default : goal.returns-in_default
returns-in_default c =
    rw (← c.self.view_is) (sym (nowhere (of_number c.of_number.ensures.single c.args.c) (narrow_first (is_call c.args.c) (λ r. is_to_collect r.stage)) c.in_default.ensures.found))

pub returns-then-is_to_collect_as : goal.returns-then-is_to_collect_as
returns-then-is_to_collect_as c =
    let o = of_number c.at-call.ensures.single c.args.c in
    let q = only_narrow o (narrow_first (is_call c.args.c) (λ r. is_to_collect r.stage)) in
    let r = c.at-call.result.now in
    rw (← c.self.view_is) (sym (finds q c.in-Some.key r c.at-call.ensures.call (sym c.is_to_collect_as.ensures ∙ c.if-is_to_collect_as.true)))

pub returns-else-is_to_collect_as : goal.returns-else-is_to_collect_as
returns-else-is_to_collect_as c =
    let o = of_number c.at-call.ensures.single c.args.c in
    let r = c.at-call.result.now in
    rw (← c.self.view_is) (sym (misses o (narrow_first (is_call c.args.c) (λ r. is_to_collect r.stage)) c.in-Some.key r c.at-call.ensures.call c.in-Some.ensures.found (sym c.is_to_collect_as.ensures ∙ c.if-is_to_collect_as.false)))
