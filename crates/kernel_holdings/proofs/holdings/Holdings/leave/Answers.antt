use Rattle.std.proofs.Common.{length, sym, subst, ap, ◌∙◌, map, arith}
use Rattle.exit_paths.specs.Words.{in_transit}
use Rattle.spec_records.specs.Words.{count_object, is_object}
use Rattle.call_tree.specs.Words.{CallsValue}
use Rattle.kernel_holdings.specs.Words.{IsCountOf}
use Rattle.kernel_holdings.proofs.TransitCounts.{handed_out}
use Rattle.kernel_holdings.proofs.Bounds.{few_in_transit, few_left, few_live, holds_calls}
use Rattle.spec_records.specs.Words.{leaving_of, left_call}
use Rattle.kernel_holdings.specs.Words.{HoldFew, HoldingsValue}
use Rattle.kernel_holdings.specs.Words.{HoldingsValue, references_of}
use Rattle.kernel_holdings.proofs.holdings.Holdings.leave.Goals as goal

pub invariant_of-self : goal.invariant_of-self
invariant_of-self c =
    let h = c.self.inside in (
      subst (λ (v : CallsValue). IsCountOf h.counts.counts h.tables h.names.names v.tree.calls) (sym c.in_err-left.ensures.as_before.calls) c.self.invariant.0,
      subst (λ (v : CallsValue). HoldFew h.tables v.tree.calls) (sym c.in_err-left.ensures.as_before.calls) c.self.invariant.1,
      c.self.invariant.2 ∙ ap (λ (v : CallsValue). in_transit v.tree.calls) (sym c.in_err-left.ensures.as_before.calls),
    )

pub invariant_of-self-2 : goal.invariant_of-self-2
invariant_of-self-2 c =
    let h = c.self.inside in
    let down = c.down_all.ensures in (
      handed_out h.counts.counts h.tables h.names.names h.calls.tree.calls c.self.invariant.0 c.down_all.new.self.counts c.leave.new.calls.tree.calls c.slice.result.now
          c.in_ok-left.left.dropped c.slice.ensures down.counts (λ o. sym (c.in_ok-left.ensures.left.dropped.counts (is_object o))),
      holds_calls h.tables h.calls.tree.calls _ c.self.invariant.1 (rw c.in_ok-left.ensures.left.calls (few_live (map (left_call (leaving_of c.args.procs.now c.args.doors.now.items c.args.who)) h.calls.tree.calls) (few_left (leaving_of c.args.procs.now c.args.doors.now.items c.args.who) h.calls.tree.calls c.self.invariant.1.transit))),
      (let all = c.in_ok-left.ensures.left.dropped.in_all in omega (arith, all, c.self.invariant.2, c.len.ensures)),
    )

pub returns-clause-left : goal.returns-clause-left
returns-clause-left c = rw (← c.self.view_is) c.in_ok-left.ensures.left

pub down_all-requires : goal.down_all-requires
down_all-requires c =
    let tree = c.self.inside.calls.tree in
    let few = few_in_transit tree c.are_sound.ensures c.self.invariant.1.transit in
    let left = ap (λ (v : HoldingsValue). v.left) c.self.view_is in
    omega (arith, few, left, c.requires.left, ap length c.slice.ensures, c.in_ok-left.ensures.left.dropped.in_all)

pub returns-clause-uses : goal.returns-clause-uses
returns-clause-uses c =
    let tree = c.self.inside.calls.tree in
    let few = few_in_transit tree c.are_sound.ensures c.self.invariant.1.transit in
    let left = ap (λ (v : HoldingsValue). v.left) c.self.view_is in
    omega (arith, few, left, c.down_all.ensures.left, ap length c.slice.ensures, c.in_ok-left.ensures.left.dropped.in_all)

pub returns-clause-references : goal.returns-clause-references
returns-clause-references c = λ o. omega (arith, (invariant_of-self-2 c).0 o, c.self.invariant.0 o, c.down_all.ensures.counts o, ap (λ (v : HoldingsValue). references_of v o) c.self.view_is)

pub returns-clause-others : goal.returns-clause-others
returns-clause-others c = λ o none.
    omega (
      arith,
      (invariant_of-self-2 c).0 o,
      c.self.invariant.0 o,
      c.down_all.ensures.counts o,
      ap (count_object o) c.slice.ensures,
      none,
      ap (λ (v : HoldingsValue). references_of v o) c.self.view_is,
    )

pub overflow_sub-self : goal.overflow_sub-self
overflow_sub-self c = let all = c.in_ok-left.ensures.left.dropped.in_all in omega (arith, all, c.self.invariant.2, c.len.ensures)
