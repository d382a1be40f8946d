use Rattle.std.proofs.Common.{◌++◌, ◌∙◌, List, ap, ap₂, arith, take}
use Rattle.std.proofs.lemmas.List.{drop-drop}
use Rattle.spec_records.specs.declared.port.Queued.{Queued}
use Rattle.spec_records.specs.Words.{Port, associations_of, records_of}
use Rattle.event_port.specs.Words.{without_oldest}
use Rattle.event_port.proofs.Taken.{associations_more, records_more}
use Rattle.event_port.proofs.queue.PortQueue.take_many.Goals as goal

pub loop-preserved : goal.loop-preserved
loop-preserved c =
    let i = c.loop.counter in
    let port = c.args.self.now.port in
    let kept = c.loop.invariant in (
      c.move_oldest.ensures.port ∙ ap (without_oldest 1) kept.0 ∙ ap (λ (qs : List Queued). record port { queue = qs }) (drop-drop 1 i port.queue),
      c.move_oldest.ensures.records ∙ ap₂ (λ rs (x : Port). rs ++ records_of (take 1 x.queue)) kept.1 kept.0 ∙ records_more c.args.into.now.items port.queue i,
      c.move_oldest.ensures.numbers ∙ ap₂ (λ ns (x : Port). ns ++ associations_of (take 1 x.queue)) kept.2 kept.0 ∙ associations_more c.args.ids.now.items port.queue i,
      omega (arith, kept, c.move_oldest.ensures.room),
      omega (arith, kept, c.move_oldest.ensures.places),
      omega (arith, kept, c.move_oldest.ensures.record_spare),
      omega (arith, kept, c.move_oldest.ensures.number_spare),
    )
