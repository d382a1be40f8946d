use Rattle.std.proofs.Common.{◌≡◌, ◌+◌, ◌<◌, ◌≤◌, ◌++◌, List, Option, length, drop, slice_get, slice_set, sym, ap, ◌∙◌, add-one, append_assoc, arith, length-append}
use Rattle.std.specs.Option.{option_to_list}
use Rattle.dk_base.specs.declared.object.Obj.{Obj}
use Rattle.spec_records.specs.Words.{object_in, objects_of}
use Rattle.fork_step.proofs.Copied.{copied, copied_all, copied_length, copied_next, next_free, rest_names}
use Rattle.fork_step.proofs.forking.fork_rows.Goals as goal

pub fork_row-requires-clause-below : goal.fork_row-requires-clause-below
fork_row-requires-clause-below c =
    let i = c.loop-number.number in
    let from = c.args.parent.now in
    let to = c.args.child.now in
    omega (arith, ap length c.loop-number.invariant.rows, copied_length i from to, c.requires.limits, c.len-number-end.ensures, c.loop-number-test.true)

pub fork_row-requires-clause-free : goal.fork_row-requires-clause-free
fork_row-requires-clause-free c =
    let i = c.loop-number.number in
    ap (λ (rows : List (Option Obj)). object_in (slice_get rows i)) c.loop-number.invariant.rows ∙ next_free i c.args.parent.now c.args.child.now c.requires.none

pub fork_row-requires-clause-room : goal.fork_row-requires-clause-room
fork_row-requires-clause-room c =
    let i = c.loop-number.number in
    let from = c.args.parent.now in
    let here = option_to_list (object_in (slice_get from i)) in
    let below : i < length from = omega (arith, c.len-number-end.ensures, c.loop-number-test.true) in
    let names : objects_of (drop i from) ≡ here ++ objects_of (drop (i + 1) from) = rest_names i from below ∙ ap (λ k. here ++ objects_of (drop k from)) (sym (add-one i)) in
    let long = ap length names ∙ length-append here (objects_of (drop (i + 1) from)) in
    let room : length here ≤ c.loop-number.added.spare = omega (arith, long, c.loop-number.invariant.roomy) in
    room

pub loop-number-preserved : goal.loop-number-preserved
loop-number-preserved c =
    let i = c.loop-number.number in
    let from = c.args.parent.now in
    let to = c.args.child.now in
    let here = option_to_list (object_in (slice_get from i)) in
    let rest = objects_of (drop (i + 1) from) in
    let below : i < length from = omega (arith, c.len-number-end.ensures, c.loop-number-test.true) in
    let names : objects_of (drop i from) ≡ here ++ rest = rest_names i from below ∙ ap (λ k. here ++ objects_of (drop k from)) (sym (add-one i)) in
    let long = ap length names ∙ length-append here rest in
    record {
      rows =
          c.fork_row.ensures.row ∙ ap (λ (rows : List (Option Obj)). slice_set rows i (object_in (slice_get from i))) c.loop-number.invariant.rows
          ∙ copied_next i from to below c.requires.limits ∙ ap (λ k. copied k from to) (sym (add-one i));
      listed =
          ap (λ (os : List Obj). os ++ rest) c.fork_row.ensures.added ∙ append_assoc c.loop-number.added.items here rest
          ∙ ap (λ (os : List Obj). c.loop-number.added.items ++ os) (sym names) ∙ c.loop-number.invariant.listed;
      roomy = omega (arith, long, c.fork_row.ensures.spare, c.loop-number.invariant.roomy);
      kept = omega (arith, long, c.fork_row.ensures.spare, c.loop-number.invariant.kept);
    }

pub returns-clause-rows : goal.returns-clause-rows
returns-clause-rows c =
    let from = c.args.parent.now in
    let past : length from ≤ c.loop-number.number = omega (arith, c.len-number-end.ensures, c.loop-number-test.false) in
    c.loop-number.invariant.rows ∙ copied_all c.loop-number.number from c.args.child.now past c.requires.limits
