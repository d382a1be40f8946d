use Rattle.std.proofs.Common.{◌≡◌, ◌+◌, ap, arith}
use Rattle.dk_base.specs.declared.object.Obj.{Obj}
use Rattle.spec_records.specs.Words.{count_object, free_row, objects_of, table_in}
use Rattle.kernel_holdings.proofs.TableCounts.{count_in, count_in-close_all, held_fewer}
use Rattle.kernel_holdings.proofs.Bounds.{holds_table, narrow_at}
use Rattle.std.proofs.lemmas.List.{length-map}
use Rattle.kernel_holdings.specs.Words.{HoldingsValue}
use Rattle.spec_records.specs.Words.{count_object}
use Rattle.kernel_holdings.specs.Words.{HoldingsValue, references_of}
use Rattle.kernel_holdings.proofs.holdings.Holdings.close_all.Goals as goal

pub invariant_of-self : goal.invariant_of-self
invariant_of-self c =
    let h = c.self.inside in
    let objects = objects_of (table_in h.tables c.args.p.0) in
    let down = c.lower_table.ensures in
    let fewer : (o : Obj) → count_in o c.close_all.new.self + count_object o objects ≡ count_in o h.tables =
    λ o. rw c.close_all.ensures (count_in-close_all o h.tables c.args.p.0) in (
      held_fewer h.counts.counts c.lower_table.new.counts.counts h.tables c.close_all.new.self h.names.names h.calls.tree.calls objects c.self.invariant.0 down.counts fewer,
      holds_table h.tables c.close_all.new.self h.calls.tree.calls c.args.p.0 _ c.self.invariant.1 c.close_all.ensures (length-map _ free_row),
      c.self.invariant.2,
    )

pub lower_table-requires : goal.lower_table-requires
lower_table-requires c = omega (arith, ap (λ (v : HoldingsValue). v.left) c.self.view_is, c.requires, narrow_at c.self.inside.tables c.args.p.0 c.self.invariant.1.rows)

pub returns-clause-left : goal.returns-clause-left
returns-clause-left c = omega (arith, ap (λ (v : HoldingsValue). v.left) c.self.view_is, c.lower_table.ensures.left, narrow_at c.self.inside.tables c.args.p.0 c.self.invariant.1.rows)

pub returns-clause-references : goal.returns-clause-references
returns-clause-references c = λ o. omega (arith, (invariant_of-self c).0 o, c.self.invariant.0 o, c.lower_table.ensures.counts o, ap (λ (v : HoldingsValue). references_of v o) c.self.view_is)
