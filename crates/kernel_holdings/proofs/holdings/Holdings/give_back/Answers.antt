use Rattle.std.proofs.Common.{◌≡◌, ◌+◌, Bool, Bor, true, false, None, Option, Some, cond, count_by, is_some, find, length, refl, sym, ap, ◌∙◌, arith}
use Rattle.std.specs.Option.{option_copied}
use Rattle.spec_records.proofs.Places.{change_first-none}
use Rattle.spec_records.specs.declared.record.CallStage.TheVariants as stage
use Rattle.spec_records.specs.Words.{count_object, is_client_call_of, is_object, without_arguments_at}
use Rattle.unref_notice.specs.Words.{count_of}
use Rattle.spec_kernel.specs.Types.{Call}
use Rattle.kernel_holdings.proofs.TransitCounts.{in_transit, return_call-in_transit, transit_more}
use Rattle.exit_paths.specs.Words.{in_transit as carried_in}
use Rattle.kernel_holdings.proofs.Carried.{carried_more, each}
use Rattle.kernel_holdings.proofs.Bounds.{few_changed, holds_calls}
use Rattle.dk_base.specs.declared.object.Obj.{Obj}
use Rattle.kernel_holdings.specs.Words.{HoldingsValue, references_to}
use Rattle.spec_records.specs.Words.{count_object}
use Rattle.kernel_holdings.specs.Words.{HoldingsValue, references_of}
use Rattle.kernel_holdings.proofs.holdings.Holdings.give_back.Goals as goal

copied : (r : Option (Bor Call)) → is_some (option_copied r) ≡ is_some r
copied None = refl
copied (Some r) = refl

none : (r : Option (Bor Call)) → is_some r ≡ false → option_copied r ≡ None
none None e = refl
none (Some r) e = cc

pub returns-then-is_none-clause-calls : goal.returns-then-is_none-clause-calls
returns-then-is_none-clause-calls c =
    let tree = c.self.inside.calls.tree in
    rw (← c.self.view_is)
    (sym
    (ap (λ rs. record tree { calls = rs })
    (change_first-none (is_client_call_of c.args.t.0) (without_arguments_at (stage.Returned c.args.bytes c.args.objects)) tree.calls
    (sym c.client.ensures ∙ none c.client.result c.if-is_none.ensures))))

pub invariant_of-self : goal.invariant_of-self
invariant_of-self c =
    let h = c.self.inside in
    let tree = h.calls.tree in
    let up = c.up_all.ensures in
    let more = λ (o : Obj). count_object o c.args.objects in
    let there : is_some (find (is_client_call_of c.args.t.0) tree.calls) ≡ true =
    ap is_some (sym c.client.ensures) ∙ copied c.client.result ∙ c.if-is_none.ensures in
    let raised : (o : Obj) → count_of c.up_all.new.self.counts o ≡ count_of h.counts.counts o + more o =
    λ o. up.counts o ∙ ap (λ os. count_of h.counts.counts o + count_object o os) c.slice.ensures in
    let further : (p : Obj → Bool) → in_transit p c.finish.new.self.tree.calls ≡ in_transit p tree.calls + count_by p c.args.objects =
    λ p. rw c.finish.ensures.tree
    (return_call-in_transit p tree c.args.t.0 c.args.bytes c.args.objects
    ∙ ap (λ b. in_transit p tree.calls + cond b (count_by p c.args.objects) 0) there) in (
      transit_more h.counts.counts h.tables h.names.names tree.calls c.self.invariant.0 c.up_all.new.self.counts c.finish.new.self.tree.calls more raised (λ o. further (is_object o)),
      holds_calls h.tables h.calls.tree.calls _ c.self.invariant.1 (rw c.finish.ensures.tree (few_changed (is_client_call_of c.args.t.0) _ (λ r t l. (c.requires.few (rw (← c.self.view_is) (ap is_some (sym c.client.ensures) ∙ copied c.client.result ∙ c.if-is_none.ensures)))) tree.calls c.self.invariant.1.transit)),
      ap (λ n. h.carried + n) c.len.ensures ∙ carried_more h.carried tree.calls c.finish.new.self.tree.calls c.args.objects c.self.invariant.2 (further each),
    )

pub up_all-requires-clause-few : goal.up_all-requires-clause-few
up_all-requires-clause-few c = λ o. omega (arith, c.self.invariant.0 o, c.are_few.ensures o, ap (λ (v : HoldingsValue). references_to v.tables v.names.names v.calls.tree.calls o) c.self.view_is, (c.requires.few (rw (← c.self.view_is) (ap is_some (sym c.client.ensures) ∙ copied c.client.result ∙ c.if-is_none.ensures))), ap length c.slice.ensures)

pub returns-clause-references : goal.returns-clause-references
returns-clause-references c = λ o. omega (arith, (invariant_of-self c).0 o, c.self.invariant.0 o, c.up_all.ensures.counts o, ap (count_object o) c.slice.ensures, ap (λ (v : HoldingsValue). references_of v o) c.self.view_is)

pub up_all-requires-clause-left : goal.up_all-requires-clause-left
up_all-requires-clause-left c = omega (arith, (c.requires.few (rw (← c.self.view_is) (ap is_some (sym c.client.ensures) ∙ copied c.client.result ∙ c.if-is_none.ensures))), c.requires.left, ap length c.slice.ensures, ap (λ (v : HoldingsValue). v.left) c.self.view_is)

pub returns-clause-left : goal.returns-clause-left
returns-clause-left c = omega (arith, (c.requires.few (rw (← c.self.view_is) (ap is_some (sym c.client.ensures) ∙ copied c.client.result ∙ c.if-is_none.ensures))), c.up_all.ensures.left, ap length c.slice.ensures, ap (λ (v : HoldingsValue). v.left) c.self.view_is)

pub returns-clause-others : goal.returns-clause-others
returns-clause-others c = λ o none. omega (arith, (invariant_of-self c).0 o, c.self.invariant.0 o, none, c.up_all.ensures.counts o, ap (count_object o) c.slice.ensures, ap (λ (v : HoldingsValue). references_of v o) c.self.view_is)

pub overflow_add-self : goal.overflow_add-self
overflow_add-self c = omega (arith, c.self.invariant.2, ap (λ (v : HoldingsValue). carried_in v.calls.tree.calls) c.self.view_is, c.carries_few.ensures, (c.requires.few (rw (← c.self.view_is) (ap is_some (sym c.client.ensures) ∙ copied c.client.result ∙ c.if-is_none.ensures))), c.len.ensures)
