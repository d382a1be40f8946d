use Rattle.std.proofs.Common.{◌≡◌, ◌+◌, filter, ap, arith}
use Rattle.dk_base.specs.declared.object.Obj.{Obj}
use Rattle.spec_records.specs.Words.{count_object, objects_passed, table_in}
use Rattle.kernel_holdings.specs.Words.{is_released}
use Rattle.kernel_holdings.proofs.TableCounts.{count_in, count_in-release, held_fewer}
use Rattle.kernel_holdings.proofs.Bounds.{holds_table, rows_released_long}
use Rattle.spec_records.specs.Words.{count_object}
use Rattle.kernel_holdings.specs.Words.{HoldingsValue, references_of}
use Rattle.kernel_holdings.proofs.Referring.{references_to-parts}
use Rattle.kernel_holdings.proofs.TableCounts.{passed_held}
use Rattle.kernel_holdings.proofs.Bounds.{narrow_at}
use Rattle.kernel_holdings.proofs.Lowering.{released_few}
use Rattle.kernel_holdings.proofs.TableCounts.{released_within}
use Rattle.kernel_holdings.proofs.holdings.Holdings.take_out.Goals as goal

pub invariant_of-self : goal.invariant_of-self
invariant_of-self c =
    let h = c.self.inside in
    let objects = objects_passed (table_in h.tables c.args.p.0) (filter is_released c.args.pass.now) in
    let down = c.lower_released.ensures in
    let fewer : (o : Obj) → count_in o c.take_out.new.self + count_object o objects ≡ count_in o h.tables =
    λ o. rw c.take_out.ensures.tables (count_in-release o h.tables c.args.p.0 c.args.pass.now c.requires.once) in (
      held_fewer h.counts.counts c.lower_released.new.counts.counts h.tables c.take_out.new.self h.names.names h.calls.tree.calls objects c.self.invariant.0 down.counts fewer,
      holds_table h.tables c.take_out.new.self h.calls.tree.calls c.args.p.0 _ c.self.invariant.1 c.take_out.ensures.tables (rows_released_long _ c.args.pass.now),
      c.self.invariant.2,
    )

pub returns-clause-references : goal.returns-clause-references
returns-clause-references c = λ o. omega (arith, (invariant_of-self c).0 o, c.self.invariant.0 o, c.lower_released.ensures.counts o, ap (λ (v : HoldingsValue). references_of v o) c.self.view_is)

pub returns-clause-held : goal.returns-clause-held
returns-clause-held c = λ o none.
    let h = c.self.inside in
    rw (← c.self.view_is) (passed_held o h.tables c.args.p.0 c.args.pass.now (omega (arith, none, references_to-parts h.tables h.names.names h.calls.tree.calls o, ap (λ (v : HoldingsValue). references_of v o) c.self.view_is)))

pub lower_released-requires : goal.lower_released-requires
lower_released-requires c =
    let h = c.self.inside in
    let few = released_few (table_in h.tables c.args.p.0) c.args.pass.now c.requires.once in
    omega (arith, few, narrow_at h.tables c.args.p.0 c.self.invariant.1.rows, c.requires.left, ap (λ (v : HoldingsValue). v.left) c.self.view_is)

pub returns-clause-left : goal.returns-clause-left
returns-clause-left c =
    let h = c.self.inside in
    let few = released_few (table_in h.tables c.args.p.0) c.args.pass.now c.requires.once in
    omega (arith, few, narrow_at h.tables c.args.p.0 c.self.invariant.1.rows, c.lower_released.ensures.left, ap (λ (v : HoldingsValue). v.left) c.self.view_is)

pub returns-clause-others : goal.returns-clause-others
returns-clause-others c = λ o none. omega (arith, (invariant_of-self c).0 o, c.self.invariant.0 o, none, c.lower_released.ensures.counts o, released_within o (table_in c.self.inside.tables c.args.p.0) c.args.pass.now, ap (λ (v : HoldingsValue). count_object o (objects_passed (table_in v.tables c.args.p.0) c.args.pass.now)) c.self.view_is, ap (λ (v : HoldingsValue). references_of v o) c.self.view_is)
