use Rattle.std.proofs.Common.{◌≡◌, ◌++◌, [], ◌∷◌, ap, arith}
use Rattle.std.specs.Prelude.{Err, Ok, OnErr, OnOk, Result}
use Rattle.spec_records.specs.Words.{empty_table}
use Rattle.spec_kernel.specs.Types.{NoMemory}
use Rattle.kernel_holdings.specs.Words.{HoldFew, HoldingsValue, references_of}
use Rattle.kernel_holdings.proofs.Bounds.{holds_new}
use Rattle.kernel_holdings.proofs.TableCounts.{held_added}
use Rattle.kernel_holdings.proofs.holdings.Holdings.add_table.Goals as goal

pub invariant_of-self : goal.invariant_of-self
invariant_of-self c =
    let h = c.self.inside in
    (held_added h.counts.counts h.tables c.add.new.self h.names.names h.calls.tree.calls c.args.limit c.add.result c.self.invariant.0 c.add.ensures.ok c.add.ensures.err, added c.add.result c.add.ensures.ok c.add.ensures.err, c.self.invariant.2)
  where
    added : (r : Result Unit NoMemory) → OnOk r (c.add.new.self ≡ c.self.inside.tables ++ empty_table c.args.limit ∷ []) → OnErr r (c.add.new.self ≡ c.self.inside.tables) → HoldFew c.add.new.self c.self.inside.calls.tree.calls
    added (Ok x) ok err =
        rw ok (holds_new c.self.inside.tables c.self.inside.calls.tree.calls c.args.limit c.self.invariant.1 (rw (← c.self.view_is) at c.requires.processes) c.requires.limit)
    added (Err x) ok err = rw err c.self.invariant.1

pub returns-clause-references : goal.returns-clause-references
returns-clause-references c = λ o.
    omega (arith, (invariant_of-self c).0 o, c.self.invariant.0 o, ap (λ (v : HoldingsValue). references_of v o) c.self.view_is)

pub returns-clause-others : goal.returns-clause-others
returns-clause-others c = λ o none. omega (arith, (invariant_of-self c).0 o, c.self.invariant.0 o, none, ap (λ (v : HoldingsValue). references_of v o) c.self.view_is)
