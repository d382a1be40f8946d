use Rattle.std.proofs.Common.{◌≡◌, ◌+◌, ◌++◌, [], length, sym, subst, ap, ◌∙◌, arith}
use Rattle.dk_base.specs.declared.object.Obj.{Obj}
use Rattle.spec_records.specs.Words.{count_object, objects_of, table_in}
use Rattle.unref_notice.specs.Words.{count_of}
use Rattle.kernel_holdings.proofs.TableCounts.{count_in, count_in-copy, held_more}
use Rattle.kernel_holdings.proofs.Bounds.{holds_table, named_rows, narrow_at}
use Rattle.kernel_holdings.specs.Words.{HoldingsValue, references_of, references_to}
use Rattle.kernel_holdings.proofs.holdings.Holdings.copy_rows.Goals as goal

pub copy_rows-requires-clause-none : goal.copy_rows-requires-clause-none
copy_rows-requires-clause-none c =
    subst (λ (v : HoldingsValue). objects_of (table_in v.tables c.args.child.0) ≡ []) (sym c.self.view_is) c.requires.none

pub copy_rows-requires-clause-room : goal.copy_rows-requires-clause-room
copy_rows-requires-clause-room c =
    let tables = c.self.inside.tables in
    omega (arith, c.requires.room, named_rows (table_in tables c.args.parent.0), narrow_at tables c.args.parent.0 c.self.invariant.1.rows)

pub up_all-requires-clause-left : goal.up_all-requires-clause-left
up_all-requires-clause-left c =
    let tables = c.self.inside.tables in
    let objects = objects_of (table_in tables c.args.parent.0) in
    let all = ap length (c.slice.ensures ∙ c.copy_rows.ensures.added ∙ ap (λ os. os ++ objects) c.requires.empty) in
    let left = ap (λ (v : HoldingsValue). v.left) c.self.view_is in
    omega (arith, c.requires.left, left, all, named_rows (table_in tables c.args.parent.0), narrow_at tables c.args.parent.0 c.self.invariant.1.rows)

pub up_all-requires-clause-few : goal.up_all-requires-clause-few
up_all-requires-clause-few c =
    λ o.
    let tables = c.self.inside.tables in
    let objects = objects_of (table_in tables c.args.parent.0) in
    let all = ap length (c.slice.ensures ∙ c.copy_rows.ensures.added ∙ ap (λ os. os ++ objects) c.requires.empty) in
    omega (
      arith,
      c.self.invariant.0 o,
      c.are_few.ensures o,
      ap (λ (v : HoldingsValue). references_to v.tables v.names.names v.calls.tree.calls o) c.self.view_is,
      all,
      named_rows (table_in tables c.args.parent.0),
      narrow_at tables c.args.parent.0 c.self.invariant.1.rows,
    )

pub invariant_of-self : goal.invariant_of-self
invariant_of-self c =
    let h = c.self.inside in
    let parent = c.args.parent.0 in
    let child = c.args.child.0 in
    let objects = objects_of (table_in h.tables parent) in
    let none : objects_of (table_in h.tables child) ≡ [] = subst (λ (v : HoldingsValue). objects_of (table_in v.tables child) ≡ []) (sym c.self.view_is) c.requires.none in
    let long : length (table_in h.tables child) ≡ length (table_in h.tables parent) =
    subst (λ (v : HoldingsValue). length (table_in v.tables child) ≡ length (table_in v.tables parent)) (sym c.self.view_is) c.requires.limits in
    let all = c.slice.ensures ∙ c.copy_rows.ensures.added ∙ ap (λ os. os ++ objects) c.requires.empty in
    let counts : (o : Obj) → count_of c.up_all.new.self.counts o ≡ count_of h.counts.counts o + count_object o objects =
    λ o. c.up_all.ensures.counts o ∙ ap (λ os. count_of h.counts.counts o + count_object o os) all in
    let more : (o : Obj) → count_in o c.copy_rows.new.self ≡ count_in o h.tables + count_object o objects =
    λ o. ap (count_in o) c.copy_rows.ensures.tables ∙ count_in-copy o h.tables parent child none long in (
      held_more h.counts.counts c.up_all.new.self.counts h.tables c.copy_rows.new.self h.names.names h.calls.tree.calls objects c.self.invariant.0 counts more,
      holds_table h.tables c.copy_rows.new.self h.calls.tree.calls child _ c.self.invariant.1 c.copy_rows.ensures.tables (sym long),
      c.self.invariant.2,
    )

pub returns-clause-left : goal.returns-clause-left
returns-clause-left c =
    let tables = c.self.inside.tables in
    let objects = objects_of (table_in tables c.args.parent.0) in
    let all = ap length (c.slice.ensures ∙ c.copy_rows.ensures.added ∙ ap (λ os. os ++ objects) c.requires.empty) in
    let left = ap (λ (v : HoldingsValue). v.left) c.self.view_is in
    omega (arith, c.up_all.ensures.left, left, all, named_rows (table_in tables c.args.parent.0), narrow_at tables c.args.parent.0 c.self.invariant.1.rows)

pub returns-clause-references : goal.returns-clause-references
returns-clause-references c =
    λ o.
    omega (
      arith,
      (invariant_of-self c).0 o,
      c.self.invariant.0 o,
      c.up_all.ensures.counts o,
      ap (count_object o) c.slice.ensures,
      ap (λ (v : HoldingsValue). references_of v o) c.self.view_is,
    )

pub returns-clause-others : goal.returns-clause-others
returns-clause-others c =
    λ o none.
    omega (
      arith,
      (invariant_of-self c).0 o,
      c.self.invariant.0 o,
      none,
      c.up_all.ensures.counts o,
      ap (count_object o) c.slice.ensures,
      ap (λ (v : HoldingsValue). references_of v o) c.self.view_is,
    )
