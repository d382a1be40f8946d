use Rattle.std.proofs.Common.{cond, false, filter, get_or, ap, ◌∙◌, arith, length, ◌+◌}
use Rattle.std.specs.Option.{option_to_list}
use Rattle.std.proofs.lemmas.List.{take_all}
use Rattle.dk_base.specs.declared.object.Obj.{Obj}
use Rattle.spec_records.specs.Words.{count_object, object_named, objects_passed, table_in}
use Rattle.spec_kernel.specs.Types.{Pass}
use Rattle.kernel_holdings.specs.Words.{is_released}
use Rattle.kernel_holdings.proofs.Lowering.{count_released-more, length_released-more, released_first}
use Rattle.kernel_holdings.proofs.lowered.lower_released.Goals as goal
use Rattle.kernel_holdings.proofs.lowered.lower_released.Goals.{then-passed, else-passed}

pub loop-passed-preserved : goal.loop-passed-preserved
loop-passed-preserved c =
    let t = table_in c.args.tables.now c.args.p.0 in
    let pass = c.slice-passed-items.result.now in
    let i = c.loop-passed.passed-index in
    let unnamed : Pass = record { fd = record { 0 = 0 }; release = false } in
    let x = get_or pass i unnamed in
    let so_far = c.loop-passed.invariant in
    let more = λ (o : Obj). count_released-more o t pass i unnamed c.loop-passed-test.true in
    let longer = length_released-more t pass i unnamed c.loop-passed-test.true in
    let named = λ (o : Obj). count_object o (option_to_list (object_named t x.fd)) in
    elim c.if-passed.branch [
      | then-passed w ↦
          let row = w.lower_row.ensures in
          rw w.counts-is
          (record {
            counts = λ o. omega (arith, so_far.counts o, row.counts o, more o, ap (λ b. cond b (named o) 0) w.if-passed.true);
            opening = row.opening ∙ so_far.opening;
            left = omega (arith, row.left, so_far.left, longer, ap (λ b. cond b (length (option_to_list (object_named t x.fd))) 0) w.if-passed.true);
          })
      | else-passed w ↦
          rw w.counts-is
          (record {
            counts = λ o. omega (arith, so_far.counts o, more o, ap (λ b. cond b (named o) 0) w.if-passed.false);
            opening = so_far.opening;
            left = omega (arith, so_far.left, longer, ap (λ b. cond b (length (option_to_list (object_named t x.fd))) 0) w.if-passed.false);
          })
    ]

pub returns-clause-counts : goal.returns-clause-counts
returns-clause-counts c o =
    let t = table_in c.args.tables.now c.args.p.0 in
    let all = take_all c.loop-passed.passed-index c.slice-passed-items.result.now c.loop-passed-test.false ∙ c.slice-passed-items.ensures in
    omega (arith, c.loop-passed.invariant.counts o, ap (λ pass. count_object o (objects_passed t (filter is_released pass))) all)

pub returns-clause-left : goal.returns-clause-left
returns-clause-left c =
    let t = table_in c.args.tables.now c.args.p.0 in
    let all = take_all c.loop-passed.passed-index c.slice-passed-items.result.now c.loop-passed-test.false ∙ c.slice-passed-items.ensures in
    omega (arith, c.loop-passed.invariant.left, ap (λ pass. length (objects_passed t (filter is_released pass))) all)

pub lower_row-requires : goal.lower_row-requires
lower_row-requires c =
    let t = table_in c.args.tables.now c.args.p.0 in
    let pass = c.slice-passed-items.result.now in
    let i = c.loop-passed.passed-index in
    let unnamed : Pass = record { fd = record { 0 = 0 }; release = false } in
    let x = get_or pass i unnamed in
    omega (
      arith,
      c.requires,
      ap (λ ps. length (objects_passed t (filter is_released ps))) c.slice-passed-items.ensures,
      c.loop-passed.invariant.left,
      length_released-more t pass i unnamed c.loop-passed-test.true,
      released_first t pass (i + 1),
      ap (λ b. cond b (length (option_to_list (object_named t x.fd))) 0) c.if-passed.true,
    )
