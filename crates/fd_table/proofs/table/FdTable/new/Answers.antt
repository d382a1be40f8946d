use Rattle.std.proofs.Common.{◌≡◌, Option, None, length, sym, ap, ◌∙◌, arith, rules}
use Rattle.std.proofs.lemmas.List.{length-replicate}
use Rattle.dk_base.specs.declared.object.Obj.{Obj}
use Rattle.spec_records.specs.Words.{empty_table, free_rows}
use Rattle.fd_table.specs.Rows.{lowest_row}
use Rattle.fd_table.proofs.Lowest.{free_empty, lowest_empty}
use Rattle.fd_table.proofs.table.FdTable.new.Goals as goal

pub invariant_of-result : goal.invariant_of-result
invariant_of-result c =
    let n = c.args.limit in
    let is : c.in-Ok.rows.items ≡ empty_table n = search rules in
    let none : Option Obj = None in (
      omega (arith, ap length is, length-replicate n none, c.requires),
      sym (ap lowest_row is ∙ lowest_empty n),
      sym (ap free_rows is ∙ free_empty n),
    )
