use Rattle.std.proofs.Common.{◌-◌, ◌++◌, get_or, length, ap, sym, ◌∙◌, arith}
use Rattle.spec_records.specs.Words.{objects_of, table_in, with_table}
use Rattle.kernel_holdings.proofs.Copied.{read_there, written_over}
use Rattle.kernel_holdings.proofs.tables.Tables.copy_rows.Goals as goal

pub returns-clause-tables : goal.returns-clause-tables
returns-clause-tables c =
    let split = c.split_at_mut-lower.ensures in
    let tables = c.self.inside.tables.items in
    let front = split.front_len in
    let parent = c.args.parent.0 - 1 in
    let read = split.by_index.0 parent c.index-lower-parent.result (omega (arith, c.requires.order)) in
    let row = c.fork_rows.ensures.rows ∙ read ∙ ap (λ ts. get_or ts parent c.index-lower-parent.result) c.deref_mut.ensures.value
    ∙ read_there tables c.args.parent.0 c.index-lower-parent.result (omega (arith, c.requires.order)) (omega (arith, c.requires.order, ap length c.self.view_is)) in
    written_over tables c.split_at_mut-lower.result.0.now c.split_at_mut-lower.result.1.now c.fork_rows.new.child c.args.child.0 c.self.inside.tables.len
    (sym c.deref_mut.ensures.value ∙ split.value) front (omega (arith, c.requires.order)) (sym c.deref_mut.ensures.len ∙ ap length c.deref_mut.ensures.value)
    ∙ ap (λ t. with_table tables c.args.child.0 t) row
    ∙ ap (λ ts. with_table ts c.args.child.0 (table_in ts c.args.parent.0)) c.self.view_is

pub returns-clause-added : goal.returns-clause-added
returns-clause-added c =
    let split = c.split_at_mut-lower.ensures in
    let tables = c.self.inside.tables.items in
    let parent = c.args.parent.0 - 1 in
    let read = split.by_index.0 parent c.index-lower-parent.result (omega (arith, c.requires.order)) in
    let row = read ∙ ap (λ ts. get_or ts parent c.index-lower-parent.result) c.deref_mut.ensures.value
    ∙ read_there tables c.args.parent.0 c.index-lower-parent.result (omega (arith, c.requires.order)) (omega (arith, c.requires.order, ap length c.self.view_is)) in
    c.fork_rows.ensures.added ∙ ap (λ t. c.args.added.now.items ++ objects_of t) (row ∙ ap (λ ts. table_in ts c.args.parent.0) c.self.view_is)
