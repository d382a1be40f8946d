use Rattle.std.proofs.Common.{◌<◌, length, ap, ◌∙◌, arith}
use Rattle.std.proofs.lemmas.List.{take_all}
use Rattle.spec_records.specs.Words.{object_named, count_object, objects_of, table_in}
use Rattle.kernel_holdings.proofs.Lowering.{count_rows-more, one_named}
use Rattle.kernel_holdings.proofs.lowered.lower_table.Goals as goal

pub loop-fd-preserved : goal.loop-fd-preserved
loop-fd-preserved c =
    let t = table_in c.args.tables.now c.args.p.0 in
    let so_far = c.loop-fd.invariant in
    let row = c.lower_row.ensures in
    let within : c.loop-fd.fd < length t = omega (arith, c.loop-fd-test.true, c.row_count-fd-end.ensures) in
    record {
      counts = λ o. omega (arith, so_far.counts o, row.counts o, count_rows-more o t c.loop-fd.fd within);
      opening = row.opening ∙ so_far.opening;
      left = omega (arith, row.left, so_far.left, one_named (object_named t (record { 0 = c.loop-fd.fd })));
    }

pub returns-clause-counts : goal.returns-clause-counts
returns-clause-counts c o =
    let t = table_in c.args.tables.now c.args.p.0 in
    let all = take_all c.loop-fd.fd t (omega (arith, c.loop-fd-test.false, c.row_count-fd-end.ensures)) in
    omega (arith, c.loop-fd.invariant.counts o, ap (λ rows. count_object o (objects_of rows)) all)

pub lower_row-requires : goal.lower_row-requires
lower_row-requires c =
    let t = table_in c.args.tables.now c.args.p.0 in
    omega (arith, c.requires, c.loop-fd.invariant.left, c.loop-fd-test.true, c.row_count-fd-end.ensures, one_named (object_named t (record { 0 = c.loop-fd.fd })))
