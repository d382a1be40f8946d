use Rattle.std.proofs.Common.{ap, ◌∙◌, arith}
use Rattle.fd_table.proofs.Lowest.{free_some}
use Rattle.spec_records.specs.Words.{descriptor, free_place, free_rows, insert_row, with_table}
use Rattle.kernel_holdings.proofs.FreeTable.{table_read, table_written}
use Rattle.kernel_holdings.proofs.tables.Tables.insert_two.Goals as goal

pub insert_free-low-requires : goal.insert_free-low-requires
insert_free-low-requires c =
    let here = table_read c.self.inside.tables.items c.args.self.now c.args.p.0 c.index_mut-table.result.now c.index_mut-table.ensures.value c.self.view_is (omega arith) in
    free_some c.index_mut-table.result.now (omega (arith, ap free_rows here))

pub insert_free-high-requires : goal.insert_free-high-requires
insert_free-high-requires c =
    let here = table_read c.self.inside.tables.items c.args.self.now c.args.p.0 c.index_mut-table.result.now c.index_mut-table.ensures.value c.self.view_is (omega arith) in
    free_some c.insert_free-low.new.self (omega (arith, ap free_rows here))

pub returns-clause-tables : goal.returns-clause-tables
returns-clause-tables c =
    let here = table_read c.self.inside.tables.items c.args.self.now c.args.p.0 c.index_mut-table.result.now c.index_mut-table.ensures.value c.self.view_is (omega arith) in
    table_written c.self.inside.tables.items c.args.self.now c.args.p.0 c.insert_free-high.new.self c.self.view_is (omega arith)
    ∙ ap (with_table c.args.self.now c.args.p.0)
    (c.insert_free-high.ensures.row ∙ ap (λ t. insert_row t c.args.second) (c.insert_free-low.ensures.row ∙ ap (λ t. insert_row t c.args.first) here))

pub returns-clause-first : goal.returns-clause-first
returns-clause-first c =
    let here = table_read c.self.inside.tables.items c.args.self.now c.args.p.0 c.index_mut-table.result.now c.index_mut-table.ensures.value c.self.view_is (omega arith) in
    c.insert_free-low.ensures.fd ∙ ap (λ t. descriptor (free_place t)) here

pub returns-clause-second : goal.returns-clause-second
returns-clause-second c =
    let here = table_read c.self.inside.tables.items c.args.self.now c.args.p.0 c.index_mut-table.result.now c.index_mut-table.ensures.value c.self.view_is (omega arith) in
    c.insert_free-high.ensures.fd ∙ ap (λ t. descriptor (free_place t)) (c.insert_free-low.ensures.row ∙ ap (λ t. insert_row t c.args.first) here)
