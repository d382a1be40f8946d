use Rattle.std.proofs.Common.{◌≡◌, ◌+◌, [], ◌∷◌, sym, ap, ◌∙◌, arith}
use Rattle.dk_base.specs.declared.object.Obj.{Obj}
use Rattle.spec_records.specs.Words.{count_object, object_named, table_in}
use Rattle.std.specs.Option.{option_to_list}
use Rattle.kernel_holdings.proofs.TableCounts.{count_in, count_in-close, held_fewer}
use Rattle.kernel_holdings.proofs.Bounds.{holds_table, row_closed_long}
use Rattle.spec_records.specs.Words.{count_object}
use Rattle.kernel_holdings.specs.Words.{HoldingsValue, references_of}
use Rattle.kernel_holdings.proofs.holdings.Holdings.close.Goals as goal

pub invariant_of-self : goal.invariant_of-self
invariant_of-self c =
    let h = c.self.inside in
    let down = c.down.ensures in
    let named : option_to_list (object_named (table_in h.tables c.args.p.0) c.args.fd) ≡ c.in-Some.object ∷ [] =
    ap option_to_list (sym c.object_at.ensures ∙ c.in-Some.is) in
    let fewer : (o : Obj) → count_in o c.close.new.self + count_object o (c.in-Some.object ∷ []) ≡ count_in o h.tables =
    λ o. omega (arith, ap (count_in o) c.close.ensures, ap (count_object o) named, count_in-close o h.tables c.args.p.0 c.args.fd) in (
      held_fewer h.counts.counts c.down.new.self.counts h.tables c.close.new.self h.names.names h.calls.tree.calls (c.in-Some.object ∷ []) c.self.invariant.0 down.counts fewer,
      holds_table h.tables c.close.new.self h.calls.tree.calls c.args.p.0 _ c.self.invariant.1 c.close.ensures (row_closed_long _ c.args.fd.0),
      c.self.invariant.2,
    )

pub returns-in-Some-clause-references : goal.returns-in-Some-clause-references
returns-in-Some-clause-references c = λ o. omega (arith, (invariant_of-self c).0 o, c.self.invariant.0 o, c.down.ensures.counts o, ap (λ (v : HoldingsValue). references_of v o) c.self.view_is)

pub returns-in-Some-clause-others : goal.returns-in-Some-clause-others
returns-in-Some-clause-others c = λ o none. omega (arith, (invariant_of-self c).0 o, c.self.invariant.0 o, none, c.down.ensures.counts o, ap (λ (v : HoldingsValue). count_object o (option_to_list (object_named (table_in v.tables c.args.p.0) c.args.fd))) c.self.view_is, ap (λ x. count_object o (option_to_list x)) (sym c.object_at.ensures ∙ c.in-Some.is), ap (λ (v : HoldingsValue). references_of v o) c.self.view_is)
