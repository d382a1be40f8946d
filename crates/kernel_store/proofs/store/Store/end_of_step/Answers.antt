use Rattle.std.proofs.Common.{◌++◌, ap, filter, sym, subst, ◌∙◌}
use Rattle.spec_records.specs.Words.{notice_doors}
use Rattle.kernel_store.specs.Stored.{ArePlaced, StoreValue, has_fallen_since, stored_state}
use Rattle.kernel_store.proofs.store.Store.end_of_step.Goals as goal

pub end_of_step-requires-clause-numbered : goal.end_of_step-requires-clause-numbered
end_of_step-requires-clause-numbered c =
    let placed = subst (λ (s : StoreValue). ArePlaced (stored_state s)) (sym c.self.view_is) c.requires.placed in placed.door_number

pub returns-clause-items : goal.returns-clause-items
returns-clause-items c =
    c.end_of_step.ensures.items
    ∙ ap (λ (s : StoreValue). c.args.into.now.items ++ filter (has_fallen_since s.opening (stored_state s)) (notice_doors s.doors.items)) c.self.view_is
