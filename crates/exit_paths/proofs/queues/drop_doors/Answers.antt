use Rattle.std.proofs.Common.{◌≡◌, suc, ◌+◌, ◌≤◌, ◌∷◌, ◌++◌, drop, get_or, refl, sym, ap, ap₂, ◌∙◌, subst, add-one, append_assoc, arith}
use Rattle.std.proofs.Math.Seq.{drop-cons}
use Rattle.server_pool.specs.Words.{change_pool, drop_door_in, is_waiting_at, items_at, items_waiting_at, queue_in}
use Rattle.exit_paths.specs.Words.{dropped_items, pool_of_number, waiting_total}
use Rattle.exit_paths.proofs.ItemsLeft.{fewer_in_all, left_as, left_none, left_pool, next_lost, total_cons}
use Rattle.exit_paths.proofs.queues.drop_doors.Goals as goal

pub loop-d-init : goal.loop-d-init
loop-d-init c = (left_as (left_none c.args.pools.now) (λ q w. refl), refl, c.requires)

pub loop-d-preserved : goal.loop-d-preserved
loop-d-preserved c =
    let doors = c.args.doors.now.items in
    let lost = c.args.lost.now in
    let i = c.loop-d.d-index in
    let d = get_or lost i 0 in
    let v = c.loop-d.pools in
    let w = c.drop_items.new.self in
    let pool = pool_of_number doors d in
    let is : w ≡ change_pool v pool (drop_door_in d) = c.drop_items.ensures.pool ∙ ap (λ p. change_pool v p (drop_door_in d)) c.pool_of.ensures in
    let rest = drop-cons lost i 0 c.loop-d-test.true in
    let listed : c.drop_items.new.into.items ≡ c.loop-d.into.items ++ items_at d (queue_in v pool) =
    c.drop_items.ensures.items ∙ ap (λ p. c.loop-d.into.items ++ items_at d (queue_in v p)) c.pool_of.ensures in
    let spare : c.loop-d.into.spare ≤ c.drop_items.new.into.spare + items_waiting_at d (queue_in v pool) =
    subst (λ p. c.loop-d.into.spare ≤ c.drop_items.new.into.spare + items_waiting_at d (queue_in v p)) c.pool_of.ensures c.drop_items.ensures.spare in
    let one = left_pool v pool (is_waiting_at d) in
    let less : waiting_total doors w (drop (i + 1) lost) ≤ waiting_total doors v (drop (i + 1) lost) =
    subst (λ u. waiting_total doors u (drop (i + 1) lost) ≤ waiting_total doors v (drop (i + 1) lost)) (sym is) (fewer_in_all one doors (drop (i + 1) lost)) in
    let total : waiting_total doors v (drop i lost) ≡ items_waiting_at d (queue_in v pool) + waiting_total doors v (drop (i + 1) lost) =
    ap (waiting_total doors v) (rest ∙ ap (λ k. d ∷ drop k lost) (sym (add-one i))) ∙ total_cons doors v d (drop (i + 1) lost) in (
      rw add-one (next_lost doors lost i 0 c.loop-d-test.true c.loop-d.invariant.0 is),
      ap₂ (λ xs ys. xs ++ ys) listed (ap₂ (λ k u. dropped_items doors (drop k lost) u) (add-one i) is)
          ∙ append_assoc c.loop-d.into.items (items_at d (queue_in v pool)) (dropped_items doors (drop (suc i) lost) (change_pool v pool (drop_door_in d)))
          ∙ sym (ap (λ ds. c.loop-d.into.items ++ dropped_items doors ds v) rest)
          ∙ c.loop-d.invariant.1,
      omega (arith, less, total, spare, c.loop-d.invariant.2),
    )
