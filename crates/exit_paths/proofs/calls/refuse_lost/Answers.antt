use Rattle.std.proofs.Common.{get_or, le_refl, le_trans, subst, sym}
use Rattle.std.proofs.lemmas.List.{take_all, take_more}
use Rattle.dk_base.specs.declared.object.Item.TheVariants as item
use Rattle.spec_records.specs.Words.{leaving_of}
use Rattle.exit_paths.specs.Words.{AreRefused}
use Rattle.exit_paths.proofs.CallsSoFar.{next_refused, none_refused}
use Rattle.exit_paths.proofs.calls.refuse_lost.Goals as goal

pub loop-i-init : goal.loop-i-init
loop-i-init c = (
  λ table. none_refused (c.parts_of_leaving.ensures c.args.calls.now.tree c.are_sound.ensures),
  λ first h. h,
  c.requires,
  le_refl _,
)

pub loop-i-preserved : goal.loop-i-preserved
loop-i-preserved c =
    let d = item.Call 0 in (
      λ table.
          subst (λ xs. AreRefused (leaving_of table c.args.doors.now.items c.args.who).loses xs c.args.calls.now.tree c.refuse_item.new.calls.tree)
          (sym (take_more c.args.items.now c.loop-i.i d c.loop-i-test.true))
          (next_refused (c.parts_of_leaving.ensures c.args.calls.now.tree c.are_sound.ensures) c.are_sound.ensures c.are_sound-in-loop-i.ensures
          (c.loop-i.invariant.0 table) (get_or c.args.items.now c.loop-i.i d) (c.refuse_item.ensures.tree table)),
      λ first h. c.refuse_item.ensures.dropped first (c.loop-i.invariant.1 first h),
      c.refuse_item.ensures.room,
      le_trans c.loop-i.invariant.3 c.refuse_item.ensures.spare,
    )

pub returns-clause-tree : goal.returns-clause-tree
returns-clause-tree c = λ table.
    subst (λ xs. AreRefused (leaving_of table c.args.doors.now.items c.args.who).loses xs c.args.calls.now.tree c.loop-i.calls.tree)
    (take_all c.loop-i.i c.args.items.now c.loop-i-test.false) (c.loop-i.invariant.0 table)
