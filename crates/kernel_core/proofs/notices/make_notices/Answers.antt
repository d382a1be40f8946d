use Rattle.std.proofs.Common.{◌≡◌, ◌≤◌, ◌++◌, ◌∙◌, ap, ap₂, [], length, filter, refl, sym, subst, arith}
use Rattle.spec_records.specs.Words.{notice_doors}
use Rattle.kernel_store.specs.Words.{CanMake, CanSettle, StoreValue, has_fallen_since, stored_state}
use Rattle.kernel_core.specs.Watched.{fallen, make_of}
use Rattle.kernel_core.proofs.Acted.{can_make_fallen}
use Rattle.kernel_core.proofs.Due.{make_of-is}
use Rattle.kernel_core.proofs.Fallen.{fallen_is, shared_after}
use Rattle.kernel_core.proofs.notices.make_notices.Goals as goal

pub end_of_step-requires-clause-room : goal.end_of_step-requires-clause-room
end_of_step-requires-clause-room c =
    omega (arith, ap length (shared_after c.requires.room.1.began c.requires.within.placed.door_number), c.requires.room.2, c.clear.ensures.spare)

pub make_all-requires-clause-room : goal.make_all-requires-clause-room
make_all-requires-clause-room c =
    let b = stored_state c.requires.room.0 in
    let n = stored_state c.args.store.now in
    let h = c.requires.room.1 in
    let items =
    c.end_of_step.ensures.items
    ∙ ap (λ ds. ds ++ filter (has_fallen_since c.args.store.now.opening n) (notice_doors n.doors)) c.clear.ensures.items
    ∙ fallen_is h.began in
    let listed : c.slice.result.now ≡ fallen b n = c.slice.ensures ∙ items in
    let few : length (fallen b n) ≤ 1280 = omega (arith, ap length items, ap length c.clear.ensures.items, c.end_of_step.ensures.few) in
    subst (λ (s : StoreValue). CanMake s c.slice.result.now) (sym c.end_of_step.ensures.same)
    (subst (CanMake c.args.store.now) (sym listed)
    (can_make_fallen c.requires.room.0 c.args.store.now h c.notices.ensures.agreed c.requires.within.placed.door_number few))

pub returns-clause-state : goal.returns-clause-state
returns-clause-state c =
    λ before were.
    let n = stored_state c.args.store.now in
    let listed : c.slice.result.now ≡ fallen before n =
    c.slice.ensures ∙ c.end_of_step.ensures.items
    ∙ ap (λ ds. ds ++ filter (has_fallen_since c.args.store.now.opening n) (notice_doors n.doors)) c.clear.ensures.items
    ∙ fallen_is were in
    c.make_all.ensures.state
    ∙ ap₂ (λ (s : StoreValue) ds. make_of (stored_state s) ds) c.end_of_step.ensures.same listed
    ∙ make_of-is before n c.requires.within.placed.door_number

pub returns-clause-few : goal.returns-clause-few
returns-clause-few c =
    λ before were.
    let n = stored_state c.args.store.now in
    let listed =
    c.end_of_step.ensures.items
    ∙ ap (λ ds. ds ++ filter (has_fallen_since c.args.store.now.opening n) (notice_doors n.doors)) c.clear.ensures.items
    ∙ fallen_is were in
    omega (arith, ap length listed, ap length c.clear.ensures.items, c.end_of_step.ensures.few)

pub returns-clause-served : goal.returns-clause-served
returns-clause-served c = λ touched parked can.
    let n = c.end_of_step.new.self in
    let here : CanSettle touched parked [] n = subst (CanSettle touched parked []) (sym c.end_of_step.ensures.same) can in
    subst (λ ds. CanSettle touched parked ds c.make_all.new.store) c.slice.ensures
    (c.make_all.ensures.served touched parked (record { given_out = λ pool e f. here.given_out pool e refl; lost = here.lost }))
