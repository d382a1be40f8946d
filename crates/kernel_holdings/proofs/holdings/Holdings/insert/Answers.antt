use Rattle.std.proofs.Common.{◌≡◌, ◌+◌, [], ◌∷◌, is_some, ap, ◌∙◌, arith}
use Rattle.dk_base.specs.declared.object.Obj.{Obj}
use Rattle.spec_records.specs.Words.{count_object, lowest_free, table_in}
use Rattle.kernel_holdings.proofs.TableCounts.{count_in, count_in-insert, held_more}
use Rattle.kernel_holdings.proofs.Bounds.{holds_table, row_inserted_long}
use Rattle.kernel_holdings.specs.Words.{HoldingsValue, references_to}
use Rattle.spec_records.specs.Words.{count_object}
use Rattle.kernel_holdings.specs.Words.{HoldingsValue, references_of}
use Rattle.kernel_holdings.proofs.holdings.Holdings.insert.Goals as goal

pub invariant_of-self : goal.invariant_of-self
invariant_of-self c =
    let h = c.self.inside in
    let up = c.up.ensures in
    let free = ap (λ v. is_some (lowest_free (table_in v.tables c.args.p.0))) c.self.view_is ∙ c.requires.free in
    let more : (o : Obj) → count_in o c.insert.new.self ≡ count_in o h.tables + count_object o (c.args.object ∷ []) =
    λ o. ap (count_in o) c.insert.ensures.tables ∙ count_in-insert o c.args.object h.tables c.args.p.0 free in (
      held_more h.counts.counts c.up.new.self.counts h.tables c.insert.new.self h.names.names h.calls.tree.calls (c.args.object ∷ []) c.self.invariant.0 up.counts more,
      holds_table h.tables c.insert.new.self h.calls.tree.calls c.args.p.0 _ c.self.invariant.1 c.insert.ensures.tables (row_inserted_long _ c.args.object),
      c.self.invariant.2,
    )

pub up-requires-clause-few : goal.up-requires-clause-few
up-requires-clause-few c = omega (arith, c.self.invariant.0 c.args.object, c.are_few.ensures c.args.object, ap (λ (v : HoldingsValue). references_to v.tables v.names.names v.calls.tree.calls c.args.object) c.self.view_is)

pub returns-clause-references : goal.returns-clause-references
returns-clause-references c = λ o. omega (arith, (invariant_of-self c).0 o, c.self.invariant.0 o, c.up.ensures.counts o, ap (λ (v : HoldingsValue). references_of v o) c.self.view_is)

pub returns-clause-others : goal.returns-clause-others
returns-clause-others c = λ o none. omega (arith, (invariant_of-self c).0 o, c.self.invariant.0 o, none, c.up.ensures.counts o, ap (λ (v : HoldingsValue). references_of v o) c.self.view_is)
