use Rattle.std.proofs.Common.{◌≡◌, None, get_or, arith}
use Rattle.std.proofs.lemmas.Grind.{common_steps}
use Rattle.std.proofs.lemmas.List.Edits.{map_over_more}
use Rattle.spec_records.specs.Words.{free_row}
use Rattle.fd_table.proofs.rows.close_rows.Goals as goal

pub loop-row-preserved : goal.loop-row-preserved
loop-row-preserved c =
    let i = c.loop-row.row-index in
    let rows = c.loop-row.rows in
    let x = get_or rows i None in
    let read : x ≡ get_or rows i x = grind (arith, common_steps) in
    map_over_more free_row c.args.rows.now rows i x (omega arith) c.loop-row.invariant read
