use Rattle.std.proofs.Common.{ap, ap₂, filter, sym, ◌∙◌}
use Rattle.spec_records.specs.Words.{is_live_call, left_call}
use Rattle.call_tree.specs.Words.{calls_in, with_call}
use Rattle.call_tree.specs.Calls.{cancelled_by, dropped_objects, is_called_by, leaving_for, parked_thread}
use Rattle.call_tree.proofs.Keys.{changes, finds, found, looked_up, of_caller}
use Rattle.call_tree.proofs.Ties.{is_of_true}
use Rattle.call_tree.proofs.calls.Calls.abandon.Goals as goal

pub returns-clause-tree : goal.returns-clause-tree
returns-clause-tree c =
    let o = of_caller c.of_caller.ensures.single c.args.caller.0 in
    let k = c.known-key.result in
    let r = c.at-call.result.now in
    let l = c.at-call.ensures.call in
    let test = found o k r l (looked_up (is_called_by c.args.caller.0) _ c.of_caller.result c.known-key.result c.of_caller.ensures.found c.known-key.ensures) in
    let e = c.leave-dropped.ensures in
    let es = c.self.inside.index.entries in
    rw (← c.self.view_is)
    (ap₂ (λ n rs. record { made = n; calls = rs }) e.made
    (e.calls r l
    ∙ ap (λ t. filter is_live_call (calls_in (with_call k (left_call (leaving_for c.args.why t) r) es))) (is_of_true r.caller.0 c.args.caller.0 test)
    ∙ sym (ap (filter is_live_call) (changes o (left_call (leaving_for c.args.why c.args.caller.0)) k r l test))))

pub returns-clause-dropped : goal.returns-clause-dropped
returns-clause-dropped c =
    let o = of_caller c.of_caller.ensures.single c.args.caller.0 in
    let k = c.known-key.result in
    let r = c.at-call.result.now in
    let l = c.at-call.ensures.call in
    rw (← c.self.view_is) (c.leave-dropped.ensures.objects r l ∙ sym (ap (dropped_objects c.args.why) (finds o k r l (found o k r l (looked_up (is_called_by c.args.caller.0) _ c.of_caller.result c.known-key.result c.of_caller.ensures.found c.known-key.ensures)))))

pub returns-clause-parked : goal.returns-clause-parked
returns-clause-parked c =
    let o = of_caller c.of_caller.ensures.single c.args.caller.0 in
    let k = c.known-key.result in
    let r = c.at-call.result.now in
    let l = c.at-call.ensures.call in
    rw (← c.self.view_is) (c.given_to-parked.ensures ∙ sym (ap parked_thread (finds o k r l (found o k r l (looked_up (is_called_by c.args.caller.0) _ c.of_caller.result c.known-key.result c.of_caller.ensures.found c.known-key.ensures)))))

pub returns-clause-cancelled : goal.returns-clause-cancelled
returns-clause-cancelled c =
    let o = of_caller c.of_caller.ensures.single c.args.caller.0 in
    let k = c.known-key.result in
    let r = c.at-call.result.now in
    let l = c.at-call.ensures.call in
    rw (← c.self.view_is) (c.cancelled_in-cancelled.ensures ∙ sym (ap cancelled_by (finds o k r l (found o k r l (looked_up (is_called_by c.args.caller.0) _ c.of_caller.result c.known-key.result c.of_caller.ensures.found c.known-key.ensures)))))
