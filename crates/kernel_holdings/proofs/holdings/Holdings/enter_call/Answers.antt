use Rattle.std.proofs.Common.{◌-◌, length, ap, ◌∙◌, arith}
use Rattle.spec_records.specs.Words.{is_given_as, is_object}
use Rattle.kernel_holdings.proofs.Handing.{entered, given_args, given_few, given_there}
use Rattle.kernel_holdings.proofs.TransitCounts.{handed_out}
use Rattle.kernel_holdings.proofs.Carried.{carried_fewer, carried_some, each}
use Rattle.kernel_holdings.proofs.Bounds.{few_changed, holds_calls}
use Rattle.kernel_holdings.specs.Words.{HoldingsValue}
use Rattle.spec_records.specs.Words.{count_object}
use Rattle.kernel_holdings.specs.Words.{HoldingsValue, references_of}
use Rattle.kernel_holdings.proofs.Handing.{args_few, some_call}
use Rattle.kernel_holdings.proofs.Referring.{references_to-parts}
use Rattle.kernel_holdings.proofs.TransitCounts.{if_found, in_transit-found, transit_of}
use Rattle.kernel_holdings.proofs.holdings.Holdings.enter_call.Goals as goal

pub enter_inv-args-requires : goal.enter_inv-args-requires
enter_inv-args-requires c = given_there c.args.c c.args.t.0 c.self.inside.calls.tree.calls (rw (← c.self.view_is) at c.requires.given)

pub invariant_of-self : goal.invariant_of-self
invariant_of-self c =
    let h = c.self.inside in
    let down = c.down_all.ensures in
    let tree = h.calls.tree in
    let given = rw (← c.self.view_is) at c.requires.given in (
      handed_out h.counts.counts h.tables h.names.names tree.calls c.self.invariant.0 c.down_all.new.self.counts c.enter_inv-args.new.self.tree.calls c.slice.result.now c.enter_inv-args.result.objects
          c.slice.ensures down.counts (λ o. rw (c.enter_inv-args.ensures.tree c.args.t.0 given) (entered tree c.are_sound.ensures c.args.c c.args.t.0 given (is_object o) c.enter_inv-args.result c.enter_inv-args.ensures.args)),
      holds_calls h.tables h.calls.tree.calls _ c.self.invariant.1 (rw (c.enter_inv-args.ensures.tree c.args.t.0 given) (few_changed (is_given_as c.args.c c.args.t.0) _ (λ r t l. omega arith) tree.calls c.self.invariant.1.transit)),
      ap (λ n. h.carried - n) c.len.ensures ∙ carried_fewer h.carried tree.calls c.enter_inv-args.new.self.tree.calls c.enter_inv-args.result.objects c.self.invariant.2 (rw (c.enter_inv-args.ensures.tree c.args.t.0 given) (entered tree c.are_sound.ensures c.args.c c.args.t.0 given each c.enter_inv-args.result c.enter_inv-args.ensures.args)),
    )

pub returns-clause-args : goal.returns-clause-args
returns-clause-args c =
    let given = rw (← c.self.view_is) at c.requires.given in
    rw (← c.self.view_is) (given_args c.self.inside.calls.tree c.are_sound.ensures c.args.c c.args.t.0 given c.enter_inv-args.result c.enter_inv-args.ensures.args)

pub down_all-requires : goal.down_all-requires
down_all-requires c =
    let given = rw (← c.self.view_is) at c.requires.given in
    let few = given_few c.self.inside.calls.tree c.are_sound.ensures c.args.c c.args.t.0 given c.self.invariant.1.transit c.enter_inv-args.result c.enter_inv-args.ensures.args in
    omega (arith, ap (λ (v : HoldingsValue). v.left) c.self.view_is, few, c.requires.left, ap length c.slice.ensures)

pub returns-clause-few : goal.returns-clause-few
returns-clause-few c =
    let given = rw (← c.self.view_is) at c.requires.given in
    given_few c.self.inside.calls.tree c.are_sound.ensures c.args.c c.args.t.0 given c.self.invariant.1.transit c.enter_inv-args.result c.enter_inv-args.ensures.args

pub returns-clause-left : goal.returns-clause-left
returns-clause-left c =
    let given = rw (← c.self.view_is) at c.requires.given in
    let few = given_few c.self.inside.calls.tree c.are_sound.ensures c.args.c c.args.t.0 given c.self.invariant.1.transit c.enter_inv-args.result c.enter_inv-args.ensures.args in
    omega (arith, ap (λ (v : HoldingsValue). v.left) c.self.view_is, few, c.down_all.ensures.left, ap length c.slice.ensures)

pub returns-clause-references : goal.returns-clause-references
returns-clause-references c = λ o. omega (arith, (invariant_of-self c).0 o, c.self.invariant.0 o, c.down_all.ensures.counts o, ap (λ (v : HoldingsValue). references_of v o) c.self.view_is)

pub returns-clause-held : goal.returns-clause-held
returns-clause-held c = λ o.
    let h = c.self.inside in
    let given = rw (← c.self.view_is) at c.requires.given in
    let one = some_call _ given in
    let within = in_transit-found (is_object o) (is_given_as c.args.c c.args.t.0) h.calls.tree.calls in
    omega (
      arith,
      within,
      ap (if_found (transit_of (is_object o))) one.1,
      ap (count_object o) (args_few h.calls.tree c.are_sound.ensures c.args.c c.args.t.0 given c.enter_inv-args.result c.enter_inv-args.ensures.args),
      references_to-parts h.tables h.names.names h.calls.tree.calls o,
      ap (λ (v : HoldingsValue). references_of v o) c.self.view_is,
    )

pub returns-clause-others : goal.returns-clause-others
returns-clause-others c = λ o none. omega (arith, (invariant_of-self c).0 o, c.self.invariant.0 o, none, c.down_all.ensures.counts o, ap (count_object o) c.slice.ensures, ap (λ (v : HoldingsValue). references_of v o) c.self.view_is)

pub overflow_sub-self : goal.overflow_sub-self
overflow_sub-self c =
    let tree = c.self.inside.calls.tree in
    let given = rw (← c.self.view_is) at c.requires.given in
    let few =
    carried_some c.self.inside.carried tree.calls c.enter_inv-args.new.self.tree.calls c.enter_inv-args.result.objects c.self.invariant.2
    (rw (c.enter_inv-args.ensures.tree c.args.t.0 given) (entered tree c.are_sound.ensures c.args.c c.args.t.0 given each c.enter_inv-args.result c.enter_inv-args.ensures.args)) in
    omega (arith, few, c.len.ensures)
