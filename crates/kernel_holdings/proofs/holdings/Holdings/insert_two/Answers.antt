use Rattle.std.proofs.Common.{◌≡◌, ◌+◌, ◌≤◌, [], ◌∷◌, sym, subst, ap, ◌∙◌, arith}
use Rattle.std.proofs.lemmas.List.Sums.{count_by-le-length}
use Rattle.dk_base.specs.declared.object.Obj.{Obj}
use Rattle.spec_records.specs.Words.{count_object, free_rows, is_object, table_in}
use Rattle.kernel_holdings.proofs.TableCounts.{count_in, count_in-install, held_more}
use Rattle.kernel_holdings.proofs.Bounds.{holds_table, rows_inserted_long}
use Rattle.kernel_holdings.proofs.Referring.{count_object-cons}
use Rattle.kernel_holdings.specs.Words.{HoldingsValue, references_of, references_to}
use Rattle.kernel_holdings.proofs.holdings.Holdings.insert_two.Goals as goal

count_one : (o x : Obj) → count_object o (x ∷ []) ≤ 1
count_one o x = count_by-le-length (is_object o) (x ∷ [])

pub up-requires-clause-few : goal.up-requires-clause-few
up-requires-clause-few c =
    omega (arith, c.self.invariant.0 c.args.first, c.are_few.ensures c.args.first, ap (λ (v : HoldingsValue). references_to v.tables v.names.names v.calls.tree.calls c.args.first) c.self.view_is)

pub up-requires-2-clause-few : goal.up-requires-2-clause-few
up-requires-2-clause-few c =
    omega (arith, c.self.invariant.0 c.args.second, c.are_few.ensures c.args.second, c.up.ensures.counts c.args.second, count_one c.args.second c.args.first, ap (λ (v : HoldingsValue). references_to v.tables v.names.names v.calls.tree.calls c.args.second) c.self.view_is)

pub invariant_of-self : goal.invariant_of-self
invariant_of-self c =
    let h = c.self.inside in
    let free : 2 ≤ free_rows (table_in h.tables c.args.p.0) = subst (λ (v : HoldingsValue). 2 ≤ free_rows (table_in v.tables c.args.p.0)) (sym c.self.view_is) c.requires.free in
    let both = c.args.first ∷ c.args.second ∷ [] in
    let more : (o : Obj) → count_in o c.insert_two.new.self ≡ count_in o h.tables + count_object o both =
    λ o. ap (count_in o) c.insert_two.ensures.tables ∙ count_in-install o h.tables c.args.p.0 both free in (
      held_more h.counts.counts c.up-2.new.self.counts h.tables c.insert_two.new.self h.names.names h.calls.tree.calls both c.self.invariant.0
          (λ o. omega (arith, c.up.ensures.counts o, c.up-2.ensures.counts o, count_object-cons o c.args.first (c.args.second ∷ []))) more,
      holds_table h.tables c.insert_two.new.self h.calls.tree.calls c.args.p.0 _ c.self.invariant.1 c.insert_two.ensures.tables (rows_inserted_long _ both),
      c.self.invariant.2,
    )

pub returns-clause-references : goal.returns-clause-references
returns-clause-references c = λ o.
    omega (arith, (invariant_of-self c).0 o, c.self.invariant.0 o, c.up.ensures.counts o, c.up-2.ensures.counts o, count_object-cons o c.args.first (c.args.second ∷ []), ap (λ (v : HoldingsValue). references_of v o) c.self.view_is)

pub returns-clause-others : goal.returns-clause-others
returns-clause-others c = λ o none. omega (arith, (invariant_of-self c).0 o, c.self.invariant.0 o, none, c.up.ensures.counts o, c.up-2.ensures.counts o, count_object-cons o c.args.first (c.args.second ∷ []), ap (λ (v : HoldingsValue). references_of v o) c.self.view_is)
