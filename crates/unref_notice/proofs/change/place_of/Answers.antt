use Rattle.std.proofs.Common.{nat_lt, arith, rules, ap, sym, ◌∙◌}
use Rattle.std.proofs.lemmas.List.Sorted.{IsPartitionPoint-from_clause}
use Rattle.spec_records.specs.declared.record.Notice.{Notice}
use Rattle.spec_records.specs.Words.{notice_number}
use Rattle.unref_notice.proofs.Items.{no_notice}
use Rattle.unref_notice.proofs.Places.{number_here, number_nowhere, number_past, parted}
use Rattle.unref_notice.proofs.change.place_of.Goals.{else-place-len-via-then-place-len+else-index-n, else-place-len-via-else-place-len}
use Rattle.unref_notice.proofs.change.place_of.Goals as goal

pub returns-then-index-n : goal.returns-then-index-n
returns-then-index-n c =
    let ns = c.args.notices.now.items in
    let n = c.args.n in
    let up = c.requires.1 in
    let point = IsPartitionPoint-from_clause (λ (x : Notice). nat_lt x.number n) ns c.partition_point-place.result c.partition_point-place.ensures.partitioned (parted notice_number ns c.requires.0 up n) (λ a r q k. search rules) in
    sym (number_here notice_number ns c.requires.0 up n c.partition_point-place.result c.index.result.now point (omega arith) (ap notice_number (sym c.index.ensures) ∙ c.if-index-n.true))

pub returns-else-place-len : goal.returns-else-place-len
returns-else-place-len c =
    let ns = c.args.notices.now.items in
    let n = c.args.n in
    let up = c.requires.1 in
    let place = c.partition_point-place.result in
    let point = IsPartitionPoint-from_clause (λ (x : Notice). nat_lt x.number n) ns place c.partition_point-place.ensures.partitioned (parted notice_number ns c.requires.0 up n) (λ a r q k. search rules) in
    elim c.else-place-len.branch [
      | else-place-len-via-then-place-len+else-index-n w ↦
          sym (number_nowhere notice_number ns c.requires.0 up n place w.index.result.now point (omega arith) (λ e. w.if-index-n.false (ap notice_number w.index.ensures ∙ e)))
      | else-place-len-via-else-place-len w ↦ sym (number_past notice_number ns c.requires.0 up n place no_notice point (omega arith))
    ]
