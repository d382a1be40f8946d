use Rattle.std.proofs.Common.{◌≡◌, ◌≤◌, [], ◌∷◌, Option, None, Some, ap, arith}
use Rattle.std.specs.Prelude.{IfSome}
use Rattle.spec_records.specs.Words.{count_object, object_named, table_in}
use Rattle.spec_kernel.specs.Types.{Obj}
use Rattle.kernel_holdings.specs.Words.{HoldingsValue, references_of}
use Rattle.kernel_holdings.proofs.Referring.{references_to-parts}
use Rattle.kernel_holdings.proofs.TableCounts.{named_held}
use Rattle.kernel_holdings.proofs.holdings.Holdings.object_at.Goals as goal

pub returns-clause-held : goal.returns-clause-held
returns-clause-held c = found c.object_at.result c.object_at.ensures
  where
    found : (x : Option Obj) → x ≡ object_named (table_in c.self.inside.tables c.args.p.0) c.args.fd → IfSome x (λ y. (o : Obj) → count_object o (y ∷ []) ≤ references_of c.args.self.now o)
    found None is = tt
    found (Some y) is = λ o.
        let h = c.self.inside in
        omega (arith, named_held o h.tables c.args.p.0 c.args.fd (Some y) is, references_to-parts h.tables h.names.names h.calls.tree.calls o, ap (λ (v : HoldingsValue). references_of v o) c.self.view_is)
