use Rattle.std.proofs.Common.{arith, ap, map, sym, take, refl, ◌∷◌, [], ◌∙◌}
use Rattle.std.proofs.lemmas.List.{take_all, take_more}
use Rattle.unref_notice.specs.Left.{left_among}
use Rattle.unref_notice.proofs.Leaving.{left_twice, none_left}
use Rattle.unref_notice.proofs.leave.leave_all.Goals as goal

pub leave_item-requires-clause-order : goal.leave_item-requires-clause-order
leave_item-requires-clause-order g c = (c.requires.order.0, c.loop-item.invariant.order c.requires.order.0 c.requires.order.1)

pub loop-item-init : goal.loop-item-init
loop-item-init g c = record {
  notices = λ who e l. none_left who c.args.notices.now.items;
  order = λ made up. up;
  doors = refl;
  len = refl;
  capacity = refl;
}

pub loop-item-preserved : goal.loop-item-preserved
loop-item-preserved g c =
    let before = c.loop-item.invariant in
    let i = c.loop-item.item-index in
    let items = c.args.items.now in
    let ns = c.args.notices.now.items in
    record {
      notices = λ who e l.
          c.leave_item.ensures.notices who e l
          ∙ ap (map (left_among who (_ ∷ []))) (before.notices who e l)
          ∙ left_twice who (take i items) (_ ∷ []) ns
          ∙ ap (λ is. map (left_among who is) ns) (sym (take_more items i _ (omega arith)));
      order = λ made up. c.leave_item.ensures.order made (before.order made up);
      doors = c.leave_item.ensures.doors ∙ before.doors;
      len = c.leave_item.ensures.len ∙ before.len;
      capacity = c.leave_item.ensures.capacity ∙ before.capacity;
    }

pub returns-clause-notices : goal.returns-clause-notices
returns-clause-notices g c who e l =
    c.loop-item.invariant.notices who e l
    ∙ ap (λ is. map (left_among who is) c.args.notices.now.items) (take_all c.loop-item.item-index c.args.items.now (omega arith))
