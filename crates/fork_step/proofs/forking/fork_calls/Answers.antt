use Rattle.std.proofs.Common.{◌≡◌, ◌+◌, ◌<◌, ◌∷◌, ◌++◌, List, get_or, length, drop, refl, sym, ap, ap₂, ◌∙◌, add-one, append_assoc, le_trans, arith}
use Rattle.std.proofs.Math.Seq.{drop-cons}
use Rattle.dk_base.specs.declared.number.Tid.{Tid}
use Rattle.spec_records.specs.Words.{CallTree}
use Rattle.fork_step.specs.Forking.{abandon_each, after_one, cancelled_by_each, cancelled_by_one, dropped_by_each, dropped_by_one, parked_by_each, parked_by_one}
use Rattle.fork_step.proofs.forking.fork_calls.Goals as goal

-- what one more caller leaves, before what the others do
told_next :
    {X : Type 0} (by_one : CallTree → Tid → List X) (by_each : CallTree → List Tid → List X) (tree next : CallTree) (t : Tid) (ts : List Tid) (items more : List X) →
    by_each tree (t ∷ ts) ≡ by_one tree t ++ by_each (after_one tree t) ts → next ≡ after_one tree t → more ≡ items ++ by_one tree t →
    more ++ by_each next ts ≡ items ++ by_each tree (t ∷ ts)
told_next by_one by_each tree next t ts items more is step told =
    ap₂ (λ xs n. xs ++ by_each n ts) told step ∙ append_assoc items (by_one tree t) (by_each (after_one tree t) ts) ∙ ap (λ xs. items ++ xs) (sym is)

pub loop-t-preserved : goal.loop-t-preserved
loop-t-preserved c =
    let ts = c.args.callers.now in
    let i = c.loop-t.t-index in
    let d : Tid = record { 0 = 0 } in
    let t : Tid = get_or c.slice-t-items.result.now i d in
    let below : i < length ts = omega (arith, ap length c.slice-t-items.ensures, c.loop-t-test.true) in
    let tree = c.loop-t.calls.tree in
    let next = c.fork_call.new.calls.tree in
    let rest = drop (i + 1) ts in
    let all : drop i ts ≡ t ∷ rest = drop-cons ts i d below ∙ ap₂ (λ (us : List Tid) k. get_or us i d ∷ drop k ts) (sym c.slice-t-items.ensures) (sym (add-one i)) in
    let long : length (drop i ts) ≡ 1 + length rest = ap length all ∙ omega arith in
    record {
      dropped_room = c.fork_call.ensures.dropped_left;
      parked_room = omega (arith, long, c.fork_call.ensures.parked_left, c.loop-t.invariant.parked_room);
      cancelled_room = omega (arith, long, c.fork_call.ensures.cancelled_left, c.loop-t.invariant.cancelled_room);
      tree = ap (λ n. abandon_each n rest) c.fork_call.ensures.tree ∙ ap (abandon_each tree) (sym all) ∙ c.loop-t.invariant.tree;
      dropped =
          told_next dropped_by_one dropped_by_each tree next t rest c.loop-t.dropped.items c.fork_call.new.dropped.items refl c.fork_call.ensures.tree c.fork_call.ensures.dropped
          ∙ ap (λ us. c.loop-t.dropped.items ++ dropped_by_each tree us) (sym all) ∙ c.loop-t.invariant.dropped;
      parked =
          told_next parked_by_one parked_by_each tree next t rest c.loop-t.parked.items c.fork_call.new.parked.items refl c.fork_call.ensures.tree c.fork_call.ensures.parked
          ∙ ap (λ us. c.loop-t.parked.items ++ parked_by_each tree us) (sym all) ∙ c.loop-t.invariant.parked;
      cancelled =
          told_next cancelled_by_one cancelled_by_each tree next t rest c.loop-t.cancelled.items c.fork_call.new.cancelled.items refl c.fork_call.ensures.tree c.fork_call.ensures.cancelled
          ∙ ap (λ us. c.loop-t.cancelled.items ++ cancelled_by_each tree us) (sym all) ∙ c.loop-t.invariant.cancelled;
      spare = le_trans c.loop-t.invariant.spare c.fork_call.ensures.spare;
    }
