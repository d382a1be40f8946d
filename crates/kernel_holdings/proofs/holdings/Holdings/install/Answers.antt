use Rattle.std.proofs.Common.{◌≡◌, ◌+◌, ◌≤◌, length, sym, subst, ap, ◌∙◌, arith, is_none}
use Rattle.dk_base.specs.declared.object.Obj.{Obj}
use Rattle.spec_records.specs.Words.{count_object, free_rows, table_in}
use Rattle.kernel_holdings.proofs.TableCounts.{count_in, count_in-install, held_more}
use Rattle.kernel_holdings.proofs.Bounds.{holds_table, narrow_at, rows_inserted_long}
use Rattle.std.proofs.lemmas.List.Sums.{count_by-le-length}
use Rattle.kernel_holdings.specs.Words.{HoldingsValue, references_to}
use Rattle.spec_records.specs.Words.{count_object}
use Rattle.kernel_holdings.specs.Words.{HoldingsValue, references_of}
use Rattle.kernel_holdings.proofs.holdings.Holdings.install.Goals as goal

pub invariant_of-self : goal.invariant_of-self
invariant_of-self c =
    let h = c.self.inside in
    let objects = c.args.objects.now in
    let up = c.up_all.ensures in
    let free : length objects ≤ free_rows (table_in h.tables c.args.p.0) =
    subst (λ v. length objects ≤ free_rows (table_in v.tables c.args.p.0)) (sym c.self.view_is) c.requires.free in
    let counts = rw c.slice.ensures at up.counts in
    let more : (o : Obj) → count_in o c.install.new.self ≡ count_in o h.tables + count_object o objects =
    λ o. ap (count_in o) c.install.ensures.tables ∙ count_in-install o h.tables c.args.p.0 objects free in (
      held_more h.counts.counts c.up_all.new.self.counts h.tables c.install.new.self h.names.names h.calls.tree.calls objects c.self.invariant.0 counts more,
      holds_table h.tables c.install.new.self h.calls.tree.calls c.args.p.0 _ c.self.invariant.1 c.install.ensures.tables (rows_inserted_long _ c.args.objects.now),
      c.self.invariant.2,
    )

pub up_all-requires-clause-few : goal.up_all-requires-clause-few
up_all-requires-clause-few c =
    λ o.
    let table = table_in c.self.inside.tables c.args.p.0 in
    let free = ap (λ (v : HoldingsValue). free_rows (table_in v.tables c.args.p.0)) c.self.view_is in
    omega (
      arith,
      c.self.invariant.0 o,
      c.are_few.ensures o,
      ap (λ (v : HoldingsValue). references_to v.tables v.names.names v.calls.tree.calls o) c.self.view_is,
      ap length c.slice.ensures,
      c.requires.free,
      free,
      count_by-le-length is_none table,
      narrow_at c.self.inside.tables c.args.p.0 c.self.invariant.1.rows,
    )

pub returns-clause-references : goal.returns-clause-references
returns-clause-references c = λ o. omega (arith, (invariant_of-self c).0 o, c.self.invariant.0 o, c.up_all.ensures.counts o, ap (count_object o) c.slice.ensures, ap (λ (v : HoldingsValue). references_of v o) c.self.view_is)

pub returns-clause-others : goal.returns-clause-others
returns-clause-others c = λ o none. omega (arith, (invariant_of-self c).0 o, c.self.invariant.0 o, none, c.up_all.ensures.counts o, ap (count_object o) c.slice.ensures, ap (λ (v : HoldingsValue). references_of v o) c.self.view_is)
