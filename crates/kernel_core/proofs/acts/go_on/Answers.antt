use Rattle.std.proofs.Common.{None, ap, arith, sym, ◌∙◌}
use Rattle.spec_kernel.specs.Words.{ActResult, act, process_of, state_of}
use Rattle.kernel_store.specs.Words.{stored_state}
use Rattle.kernel_core.proofs.Endings.{ended_getting, ending_getting}
use Rattle.kernel_core.proofs.Live.{go_on_past, is_kept}
use Rattle.kernel_core.proofs.acts.go_on.Goals as goal

pub returns-in-Accept-clause-state : goal.returns-in-Accept-clause-state
returns-in-Accept-clause-state c =
    let m = stored_state c.args.store.now in
    is_kept (stored_state c.accept.new.store) (act m c.args.t.0 None).state
    (go_on_past m c.args.t.0 c.requires.can_act.placed c.requires.none_past (λ k e. grind arith)) (grind arith)

pub end_getting-requires-clause-can_end : goal.end_getting-requires-clause-can_end
end_getting-requires-clause-can_end c =
    let m = stored_state c.args.store.now in
    ending_getting m (state_of m c.args.t.0) c.in-Got.port c.in-Got.max c.in-Got.one c.in-Got.interrupted (sym c.in-Got.is ∙ c.requires.at)
    c.requires.runnable c.requires.fit

pub returns-in-Got-clause-state : goal.returns-in-Got-clause-state
returns-in-Got-clause-state c =
    let m = stored_state c.args.store.now in
    is_kept (stored_state c.end_getting.new.store) (act m c.args.t.0 None).state
    (go_on_past m c.args.t.0 c.requires.can_act.placed c.requires.none_past (λ k e. grind arith))
    (c.end_getting.ensures.state
    ∙ ap (λ (a : ActResult). a.state)
    (ended_getting m c.args.t.0 (process_of m c.args.t.0) (state_of m c.args.t.0) c.in-Got.port c.in-Got.max c.in-Got.one c.in-Got.interrupted
    (sym c.in-Got.is ∙ c.requires.at)))

pub returns-in-Find-clause-state : goal.returns-in-Find-clause-state
returns-in-Find-clause-state c =
    let m = stored_state c.args.store.now in
    is_kept (stored_state c.found.new.store) (act m c.args.t.0 None).state
    (go_on_past m c.args.t.0 c.requires.can_act.placed c.requires.none_past (λ k e. grind arith)) (grind arith)

pub returns-in-EndWork-clause-state : goal.returns-in-EndWork-clause-state
returns-in-EndWork-clause-state c =
    let m = stored_state c.args.store.now in
    is_kept (stored_state c.end_work.new.store) (act m c.args.t.0 None).state
    (go_on_past m c.args.t.0 c.requires.can_act.placed c.requires.none_past (λ k e. grind arith)) (grind arith)

pub returns-in-Wake-clause-state : goal.returns-in-Wake-clause-state
returns-in-Wake-clause-state c =
    let m = stored_state c.args.store.now in
    is_kept (stored_state c.wake.new.store) (act m c.args.t.0 None).state
    (go_on_past m c.args.t.0 c.requires.can_act.placed c.requires.none_past (λ k e. grind arith)) (grind arith)

pub returns-in-Nothing-clause-state : goal.returns-in-Nothing-clause-state
returns-in-Nothing-clause-state c =
    let m = stored_state c.args.store.now in
    is_kept (stored_state c.args.store.now) (act m c.args.t.0 None).state
    (go_on_past m c.args.t.0 c.requires.can_act.placed c.requires.none_past (λ k e. grind arith)) (grind arith)

pub returns-in-Got-clause-answer : goal.returns-in-Got-clause-answer
returns-in-Got-clause-answer c =
    let m = stored_state c.args.store.now in
    c.end_getting.ensures.answer
    ∙ ap (λ (a : ActResult). a.answer)
    (ended_getting m c.args.t.0 (process_of m c.args.t.0) (state_of m c.args.t.0) c.in-Got.port c.in-Got.max c.in-Got.one c.in-Got.interrupted
    (sym c.in-Got.is ∙ c.requires.at))
