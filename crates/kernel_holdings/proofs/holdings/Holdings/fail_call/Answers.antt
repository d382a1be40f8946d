use Rattle.std.proofs.Common.{◌-◌, find, length, refl, ap, ◌∙◌, arith}
use Rattle.call_tree.specs.Words.{argument_objects, is_call}
use Rattle.kernel_holdings.proofs.Handing.{failed_few, failed, given_waits}
use Rattle.kernel_holdings.proofs.TransitCounts.{handed_out}
use Rattle.kernel_holdings.proofs.Carried.{carried_fewer, carried_some, each}
use Rattle.kernel_holdings.proofs.Bounds.{few_changed, holds_calls}
use Rattle.spec_records.specs.Words.{count_object, is_given_as, is_object}
use Rattle.kernel_holdings.specs.Words.{HoldingsValue}
use Rattle.kernel_holdings.specs.Words.{HoldingsValue, references_of}
use Rattle.kernel_holdings.proofs.holdings.Holdings.fail_call.Goals as goal

pub refuse-objects-requires : goal.refuse-objects-requires
refuse-objects-requires c = given_waits c.args.c c.args.t.0 c.self.inside.calls.tree.calls (rw (← c.self.view_is) at c.requires.given)

pub invariant_of-self : goal.invariant_of-self
invariant_of-self c =
    let h = c.self.inside in
    let down = c.down_all.ensures in
    let tree = h.calls.tree in
    let given = rw (← c.self.view_is) at c.requires.given in (
      handed_out h.counts.counts h.tables h.names.names tree.calls c.self.invariant.0 c.down_all.new.self.counts c.refuse-objects.new.self.tree.calls c.slice.result.now
          (argument_objects (find (is_call c.args.c) tree.calls)) (c.slice.ensures ∙ c.refuse-objects.ensures.objects) down.counts
          (λ o. rw (c.refuse-objects.ensures.failed c.args.t.0 given refl) (failed tree c.are_sound.ensures c.args.c c.args.t.0 given (is_object o))),
      holds_calls h.tables h.calls.tree.calls _ c.self.invariant.1 (rw (c.refuse-objects.ensures.failed c.args.t.0 given refl) (few_changed (is_given_as c.args.c c.args.t.0) _ (λ r t l. omega arith) tree.calls c.self.invariant.1.transit)),
      ap (λ n. h.carried - n) (c.len.ensures ∙ ap length c.refuse-objects.ensures.objects) ∙ carried_fewer h.carried tree.calls c.refuse-objects.new.self.tree.calls (argument_objects (find (is_call c.args.c) tree.calls)) c.self.invariant.2 (rw (c.refuse-objects.ensures.failed c.args.t.0 given refl) (failed tree c.are_sound.ensures c.args.c c.args.t.0 given each)),
    )

pub down_all-requires : goal.down_all-requires
down_all-requires c =
    let given = rw (← c.self.view_is) at c.requires.given in
    let few = failed_few c.self.inside.calls.tree c.are_sound.ensures c.args.c c.args.t.0 given c.self.invariant.1.transit in
    omega (arith, ap (λ (v : HoldingsValue). v.left) c.self.view_is, few, c.requires.left, ap length (c.slice.ensures ∙ c.refuse-objects.ensures.objects))

pub returns-clause-left : goal.returns-clause-left
returns-clause-left c =
    let given = rw (← c.self.view_is) at c.requires.given in
    let few = failed_few c.self.inside.calls.tree c.are_sound.ensures c.args.c c.args.t.0 given c.self.invariant.1.transit in
    omega (arith, ap (λ (v : HoldingsValue). v.left) c.self.view_is, few, c.down_all.ensures.left, ap length (c.slice.ensures ∙ c.refuse-objects.ensures.objects))

pub returns-clause-references : goal.returns-clause-references
returns-clause-references c = λ o. omega (arith, (invariant_of-self c).0 o, c.self.invariant.0 o, c.down_all.ensures.counts o, ap (λ (v : HoldingsValue). references_of v o) c.self.view_is)

pub returns-clause-others : goal.returns-clause-others
returns-clause-others c = λ o none. omega (arith, (invariant_of-self c).0 o, c.self.invariant.0 o, none, c.down_all.ensures.counts o, ap (count_object o) c.slice.ensures, ap (λ (v : HoldingsValue). references_of v o) c.self.view_is)

pub overflow_sub-self : goal.overflow_sub-self
overflow_sub-self c =
    let tree = c.self.inside.calls.tree in
    let given = rw (← c.self.view_is) at c.requires.given in
    let few =
    carried_some c.self.inside.carried tree.calls c.refuse-objects.new.self.tree.calls (argument_objects (find (is_call c.args.c) tree.calls)) c.self.invariant.2
    (rw (c.refuse-objects.ensures.failed c.args.t.0 given refl) (failed tree c.are_sound.ensures c.args.c c.args.t.0 given each)) in
    omega (arith, few, c.len.ensures, ap length c.refuse-objects.ensures.objects)
