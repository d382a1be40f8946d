use Rattle.std.proofs.Common.{◌≡◌, ◌+◌, Bool, count_by, length, refl, ap, ◌∙◌, arith}
use Rattle.spec_records.specs.Words.{count_object}
use Rattle.unref_notice.specs.Words.{count_of}
use Rattle.kernel_holdings.proofs.TransitCounts.{in_transit, open_call-in_transit, transit_more}
use Rattle.exit_paths.specs.Words.{in_transit as carried_in}
use Rattle.kernel_holdings.proofs.Carried.{carried_more, each}
use Rattle.spec_records.specs.Words.{is_object}
use Rattle.kernel_holdings.proofs.Bounds.{few_pushed, holds_calls}
use Rattle.dk_base.specs.declared.object.Obj.{Obj}
use Rattle.kernel_holdings.specs.Words.{HoldingsValue, references_to}
use Rattle.spec_records.specs.Words.{count_object}
use Rattle.kernel_holdings.specs.Words.{HoldingsValue, references_of}
use Rattle.kernel_holdings.proofs.holdings.Holdings.open_call.Goals as goal

pub invariant_of-self : goal.invariant_of-self
invariant_of-self c =
    let h = c.self.inside in
    let up = c.up_all.ensures in
    let more = λ (o : Obj). count_object o c.args.args.objects in
    let raised : (o : Obj) → count_of c.up_all.new.self.counts o ≡ count_of h.counts.counts o + more o =
    λ o. up.counts o ∙ ap (λ os. count_of h.counts.counts o + count_object o os) c.slice.ensures in
    let further : (p : Obj → Bool) → in_transit p c.open_call.new.self.tree.calls ≡ in_transit p h.calls.tree.calls + count_by p c.args.args.objects =
    λ p. rw c.open_call.ensures.tree (open_call-in_transit p h.calls.tree _ refl) in (
      transit_more h.counts.counts h.tables h.names.names h.calls.tree.calls c.self.invariant.0 c.up_all.new.self.counts c.open_call.new.self.tree.calls more raised (λ o. further (is_object o)),
      holds_calls h.tables h.calls.tree.calls _ c.self.invariant.1 (rw c.open_call.ensures.tree (few_pushed h.calls.tree.calls _ c.self.invariant.1.transit c.requires.few)),
      ap (λ n. h.carried + n) c.len.ensures ∙ carried_more h.carried h.calls.tree.calls c.open_call.new.self.tree.calls c.args.args.objects c.self.invariant.2 (further each),
    )

pub up_all-requires-clause-few : goal.up_all-requires-clause-few
up_all-requires-clause-few c = λ o. omega (arith, c.self.invariant.0 o, c.are_few.ensures o, ap (λ (v : HoldingsValue). references_to v.tables v.names.names v.calls.tree.calls o) c.self.view_is, c.requires.few, ap length c.slice.ensures)

pub returns-clause-references : goal.returns-clause-references
returns-clause-references c = λ o. omega (arith, (invariant_of-self c).0 o, c.self.invariant.0 o, c.up_all.ensures.counts o, ap (count_object o) c.slice.ensures, ap (λ (v : HoldingsValue). references_of v o) c.self.view_is)

pub returns-clause-others : goal.returns-clause-others
returns-clause-others c = λ o none. omega (arith, (invariant_of-self c).0 o, c.self.invariant.0 o, none, c.up_all.ensures.counts o, ap (count_object o) c.slice.ensures, ap (λ (v : HoldingsValue). references_of v o) c.self.view_is)

pub overflow_add-self : goal.overflow_add-self
overflow_add-self c = omega (arith, c.self.invariant.2, ap (λ (v : HoldingsValue). carried_in v.calls.tree.calls) c.self.view_is, c.carries_few.ensures, c.requires.few, c.len.ensures)
