use Rattle.std.proofs.Common.{length, sym, ap, ◌∙◌, arith}
use Rattle.std.proofs.lemmas.List.{length-map}
use Rattle.spec_records.specs.Words.{close_table, free_row, free_rows}
use Rattle.fd_table.specs.Rows.{lowest_row}
use Rattle.fd_table.proofs.Listed.{closed_rows}
use Rattle.fd_table.proofs.Lowest.{free_all_closed, lowest_all_closed}
use Rattle.fd_table.proofs.table.FdTable.close_all.Goals as goal

pub invariant_of-self : goal.invariant_of-self
invariant_of-self c =
    let t = c.self.inside.rows.items in
    let closed = c.close_rows.ensures ∙ ap close_table c.deref_mut.ensures.value in
    let is = closed_rows t c.close_rows.new.rows c.self.inside.rows.len closed c.self.inside.rows.ok.0 in
    let free = ap free_rows is ∙ free_all_closed t in (
      omega (arith, ap length is, length-map t free_row, c.self.invariant.0),
      sym (ap lowest_row is ∙ lowest_all_closed t),
      omega (arith, free, c.len.ensures, c.self.inside.rows.ok.0),
    )
