use Rattle.std.proofs.Common.{◌-◌, Some, refl, sym, ap, ◌∙◌, arith}
use Rattle.spec_kernel.specs.Words.{objects_collected_in}
use Rattle.call_tree.specs.Words.{outcome_in}
use Rattle.kernel_holdings.proofs.Handing.{collected_few, by_caller, collected, collected_tree, ready_there, some_call}
use Rattle.kernel_holdings.proofs.TransitCounts.{handed_out}
use Rattle.kernel_holdings.proofs.Bounds.{few_changed, few_live, holds_calls}
use Rattle.spec_records.specs.Words.{is_to_collect_as}
use Rattle.kernel_holdings.specs.Words.{HoldingsValue}
use Rattle.spec_records.specs.Words.{count_object, is_object}
use Rattle.kernel_holdings.specs.Words.{HoldingsValue, references_of, results_in}
use Rattle.kernel_holdings.proofs.Carried.{carried_fewer, carried_some, each}
use Rattle.kernel_holdings.proofs.Handing.{collected_results, results_collected, results_few}
use Rattle.kernel_holdings.proofs.Referring.{references_to-parts}
use Rattle.kernel_holdings.proofs.TransitCounts.{if_found, in_transit-found, transit_of}
use Rattle.kernel_holdings.proofs.holdings.Holdings.collect_call.Goals as goal

pub collect-outcome-requires : goal.collect-outcome-requires
collect-outcome-requires c =
    ready_there c.self.inside.calls.tree c.are_sound.ensures c.args.c (rw (← c.self.view_is) at c.requires.ready) c.collector-caller.result
    (rw (← c.self.view_is) at c.collector-caller.ensures)

pub invariant_of-self : goal.invariant_of-self
invariant_of-self c =
    let h = c.self.inside in
    let tree = h.calls.tree in
    let down = c.lower_results.ensures in
    let there = rw (← c.self.view_is) at c.requires.ready in
    let his = rw (← c.self.view_is) at c.collector-caller.ensures in
    let x = some_call _ there in
    let told = ap outcome_in (sym (by_caller tree c.are_sound.ensures c.args.c there c.collector-caller.result his)) ∙ c.collect-outcome.ensures.outcome in (
      handed_out h.counts.counts h.tables h.names.names tree.calls c.self.invariant.0 c.lower_results.new.counts.counts c.collect-outcome.new.self.tree.calls
          (objects_collected_in (Some x.0)) (objects_collected_in (Some x.0)) refl (λ d. down.counts d x.0 told)
          (λ o. collected tree c.are_sound.ensures c.args.c there c.collector-caller.result his c.collect-outcome.new.self.tree c.collect-outcome.ensures.tree (is_object o)),
      holds_calls h.tables h.calls.tree.calls _ c.self.invariant.1 (rw (collected_tree tree c.are_sound.ensures c.args.c there c.collector-caller.result his c.collect-outcome.new.self.tree c.collect-outcome.ensures.tree 0) (few_live _ (few_changed (is_to_collect_as c.args.c) _ (λ r t l. omega arith) tree.calls c.self.invariant.1.transit))),
      ap (λ n. h.carried - n) c.count_results.ensures ∙ carried_fewer h.carried tree.calls c.collect-outcome.new.self.tree.calls (results_in c.collect-outcome.result) c.self.invariant.2 (collected_results tree c.are_sound.ensures c.args.c there c.collector-caller.result his c.collect-outcome.new.self.tree c.collect-outcome.ensures.tree each c.collect-outcome.result told),
    )

pub returns-clause-calls : goal.returns-clause-calls
returns-clause-calls c at =
    let there = rw (← c.self.view_is) at c.requires.ready in
    let his = rw (← c.self.view_is) at c.collector-caller.ensures in
    rw (← c.self.view_is)
    (collected_tree c.self.inside.calls.tree c.are_sound.ensures c.args.c there c.collector-caller.result his c.collect-outcome.new.self.tree c.collect-outcome.ensures.tree at)

pub returns-clause-outcome : goal.returns-clause-outcome
returns-clause-outcome c =
    let tree = c.self.inside.calls.tree in
    let there = rw (← c.self.view_is) at c.requires.ready in
    let his = rw (← c.self.view_is) at c.collector-caller.ensures in
    rw (← c.self.view_is)
    (ap outcome_in (some_call _ there).1 ∙ ap outcome_in (sym (by_caller tree c.are_sound.ensures c.args.c there c.collector-caller.result his))
    ∙ c.collect-outcome.ensures.outcome)

pub lower_results-requires : goal.lower_results-requires
lower_results-requires c =
    let there = rw (← c.self.view_is) at c.requires.ready in
    let his = rw (← c.self.view_is) at c.collector-caller.ensures in
    let few = collected_few c.self.inside.calls.tree c.are_sound.ensures c.args.c there c.collector-caller.result his c.self.invariant.1.transit c.collect-outcome.result c.collect-outcome.ensures.outcome in
    omega (arith, ap (λ (v : HoldingsValue). v.left) c.self.view_is, few, c.requires.left)

pub returns-clause-few : goal.returns-clause-few
returns-clause-few c =
    let there = rw (← c.self.view_is) at c.requires.ready in
    let his = rw (← c.self.view_is) at c.collector-caller.ensures in
    collected_few c.self.inside.calls.tree c.are_sound.ensures c.args.c there c.collector-caller.result his c.self.invariant.1.transit c.collect-outcome.result c.collect-outcome.ensures.outcome

pub returns-clause-left : goal.returns-clause-left
returns-clause-left c =
    let there = rw (← c.self.view_is) at c.requires.ready in
    let his = rw (← c.self.view_is) at c.collector-caller.ensures in
    let few = collected_few c.self.inside.calls.tree c.are_sound.ensures c.args.c there c.collector-caller.result his c.self.invariant.1.transit c.collect-outcome.result c.collect-outcome.ensures.outcome in
    omega (arith, ap (λ (v : HoldingsValue). v.left) c.self.view_is, few, c.lower_results.ensures.left)

pub returns-clause-references : goal.returns-clause-references
returns-clause-references c = λ o.
    let tree = c.self.inside.calls.tree in
    let there = rw (← c.self.view_is) at c.requires.ready in
    let his = rw (← c.self.view_is) at c.collector-caller.ensures in
    let x = some_call _ there in
    let told = ap outcome_in (sym (by_caller tree c.are_sound.ensures c.args.c there c.collector-caller.result his)) ∙ c.collect-outcome.ensures.outcome in
    omega (arith, (invariant_of-self c).0 o, c.self.invariant.0 o, c.lower_results.ensures.counts o x.0 told, ap (λ (v : HoldingsValue). references_of v o) c.self.view_is)

pub returns-clause-held : goal.returns-clause-held
returns-clause-held c = λ o.
    let h = c.self.inside in
    let tree = h.calls.tree in
    let there = rw (← c.self.view_is) at c.requires.ready in
    let his = rw (← c.self.view_is) at c.collector-caller.ensures in
    let one = some_call _ there in
    let told = ap outcome_in (sym (by_caller tree c.are_sound.ensures c.args.c there c.collector-caller.result his)) ∙ c.collect-outcome.ensures.outcome in
    omega (
      arith,
      in_transit-found (is_object o) (is_to_collect_as c.args.c) tree.calls,
      ap (if_found (transit_of (is_object o))) one.1,
      ap (count_object o) (results_few tree c.are_sound.ensures c.args.c there c.collector-caller.result his c.collect-outcome.result told),
      references_to-parts h.tables h.names.names h.calls.tree.calls o,
      ap (λ (v : HoldingsValue). references_of v o) c.self.view_is,
    )

pub returns-clause-others : goal.returns-clause-others
returns-clause-others c = λ o none.
    let tree = c.self.inside.calls.tree in
    let there = rw (← c.self.view_is) at c.requires.ready in
    let his = rw (← c.self.view_is) at c.collector-caller.ensures in
    let x = some_call _ there in
    let told = ap outcome_in (sym (by_caller tree c.are_sound.ensures c.args.c there c.collector-caller.result his)) ∙ c.collect-outcome.ensures.outcome in
    omega (
      arith,
      (invariant_of-self c).0 o,
      c.self.invariant.0 o,
      none,
      c.lower_results.ensures.counts o x.0 told,
      results_collected tree c.are_sound.ensures c.args.c there c.collector-caller.result his (is_object o) c.collect-outcome.result told,
      ap (λ (v : HoldingsValue). references_of v o) c.self.view_is,
    )

pub overflow_sub-self : goal.overflow_sub-self
overflow_sub-self c =
    let tree = c.self.inside.calls.tree in
    let there = rw (← c.self.view_is) at c.requires.ready in
    let his = rw (← c.self.view_is) at c.collector-caller.ensures in
    let told = ap outcome_in (sym (by_caller tree c.are_sound.ensures c.args.c there c.collector-caller.result his)) ∙ c.collect-outcome.ensures.outcome in
    let few =
    carried_some c.self.inside.carried tree.calls c.collect-outcome.new.self.tree.calls (results_in c.collect-outcome.result) c.self.invariant.2
    (collected_results tree c.are_sound.ensures c.args.c there c.collector-caller.result his c.collect-outcome.new.self.tree c.collect-outcome.ensures.tree each c.collect-outcome.result told) in
    omega (arith, few, c.count_results.ensures)
