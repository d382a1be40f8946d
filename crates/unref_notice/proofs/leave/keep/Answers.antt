use Rattle.std.proofs.Common.{arith, ap, filter, sym, take, refl, ◌∷◌, [], ◌∙◌}
use Rattle.std.proofs.lemmas.List.{take_all, take_more}
use Rattle.spec_records.specs.Words.{is_kept_notice}
use Rattle.unref_notice.specs.Left.{is_kept_among}
use Rattle.unref_notice.proofs.Leaving.{kept_twice, none_taken}
use Rattle.unref_notice.proofs.leave.keep.Goals as goal

pub keep_item-requires-clause-order : goal.keep_item-requires-clause-order
keep_item-requires-clause-order g c = (c.requires.order.0, c.loop-item.invariant.order c.requires.order.0 c.requires.order.1)

pub loop-item-init : goal.loop-item-init
loop-item-init g c = record {
  items = λ doors m. none_taken (is_kept_notice doors) c.args.notices.now.items;
  order = λ made up. up;
  counted = λ h. h;
  spare = omega arith;
  fewer = omega arith;
  capacity = refl;
}

pub loop-item-preserved : goal.loop-item-preserved
loop-item-preserved g c =
    let before = c.loop-item.invariant in
    let i = c.loop-item.item-index in
    let items = c.args.items.now in
    let ns = c.args.notices.now.items in
    record {
      items = λ doors m.
          c.keep_item.ensures.items doors m
          ∙ ap (filter (is_kept_among (is_kept_notice doors) (_ ∷ []))) (before.items doors m)
          ∙ kept_twice (is_kept_notice doors) (take i items) (_ ∷ []) ns
          ∙ ap (λ is. filter (is_kept_among (is_kept_notice doors) is) ns) (sym (take_more items i _ (omega arith)));
      order = λ made up. c.keep_item.ensures.order made (before.order made up);
      counted = λ h. c.keep_item.ensures.counted (before.counted h);
      spare = let a = c.keep_item.ensures.spare in let b = before.spare in omega (arith, a, b);
      fewer = let a = c.keep_item.ensures.fewer in let b = before.fewer in omega (arith, a, b);
      capacity = c.keep_item.ensures.capacity ∙ before.capacity;
    }

pub returns-clause-items : goal.returns-clause-items
returns-clause-items g c doors m =
    c.loop-item.invariant.items doors m
    ∙ ap (λ is. filter (is_kept_among (is_kept_notice doors) is) c.args.notices.now.items) (take_all c.loop-item.item-index c.args.items.now (omega arith))
