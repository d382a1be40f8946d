use Rattle.std.proofs.Common.{ap, filter, refl, sym, ◌∙◌}
use Rattle.spec_records.specs.declared.record.CallStage.TheVariants as stage
use Rattle.spec_records.specs.Words.{is_live_call, is_to_collect, without_arguments_at}
use Rattle.call_tree.specs.Words.{is_call}
use Rattle.call_tree.specs.Calls.{is_called_by, outcome_in}
use Rattle.call_tree.proofs.Looks.{same_some}
use Rattle.call_tree.proofs.Keys.{changes, finds, found, known_there, looked_up, narrow_first, of_caller, of_number, only_narrow, there}
use Rattle.call_tree.proofs.Leaving.{answered_calls}
use Rattle.call_tree.proofs.Looks.{test_same}
use Rattle.call_tree.proofs.Ties.{and_second, both}
use Rattle.call_tree.proofs.calls.Calls.collect.Goals as goal

pub known-key-requires : goal.known-key-requires
known-key-requires c = known_there (of_caller c.of_caller.ensures.single c.args.caller.0) (narrow_first (is_called_by c.args.caller.0) (λ r. is_to_collect r.stage)) c.of_caller.result c.of_caller.ensures.found (rw (← c.self.view_is) at c.requires)

pub outcome-requires : goal.outcome-requires
outcome-requires c =
    let w = looked_up (is_called_by c.args.caller.0) _ c.of_caller.result c.known-key.result c.of_caller.ensures.found c.known-key.ensures in
    and_second _ _ (there (of_caller c.of_caller.ensures.single c.args.caller.0) (narrow_first (is_called_by c.args.caller.0) (λ r. is_to_collect r.stage)) c.known-key.result c.remove.result c.remove.ensures.before w (rw (← c.self.view_is) at c.requires))

pub returns-clause-tree : goal.returns-clause-tree
returns-clause-tree c =
    let single = c.of_caller.ensures.single in
    let o = of_caller c.of_caller.ensures.single c.args.caller.0 in
    let k = c.known-key.result in
    let r = c.remove.result in
    let l = c.remove.ensures.before in
    let w = looked_up (is_called_by c.args.caller.0) _ c.of_caller.result c.known-key.result c.of_caller.ensures.found c.known-key.ensures in
    let test = and_second _ _ (there o (narrow_first (is_called_by c.args.caller.0) (λ r. is_to_collect r.stage)) k r l w (rw (← c.self.view_is) at c.requires)) in
    rw (← c.self.view_is, c.remove.ensures.after)
    (λ x m at.
    let e = same_some r x (sym (finds o k r l (found o k r l w)) ∙ m) in
    let n = only_narrow (of_number single r.number) (narrow_first (is_call r.number) (λ y. is_to_collect y.stage)) in
    rw (← e)
    (ap (λ rs. record { made = c.self.inside.index.made; calls = rs })
    (answered_calls single k r l (without_arguments_at (stage.Answered at) r) refl
    ∙ sym (ap (filter is_live_call) (changes n (without_arguments_at (stage.Answered at)) k r l (both _ _ (test_same r.number) test))))))

pub returns-clause-outcome : goal.returns-clause-outcome
returns-clause-outcome c =
    let o = of_caller c.of_caller.ensures.single c.args.caller.0 in
    let k = c.known-key.result in
    let r = c.remove.result in
    let l = c.remove.ensures.before in
    rw (← c.self.view_is) (ap outcome_in (finds o k r l (found o k r l (looked_up (is_called_by c.args.caller.0) _ c.of_caller.result c.known-key.result c.of_caller.ensures.found c.known-key.ensures))) ∙ c.outcome.ensures)
