-- What the exit paths need of a process that ends: it is there, and its valid doors are those at which something waits.
use Rattle.std.proofs.Common.{◌≡◌, ℕ, List, sym, subst}
use Rattle.spec_records.specs.declared.leaving.Leaver.{Leaver}
use Rattle.spec_records.specs.declared.leaving.Leaver.TheVariants.{Interrupted, Ended, EndedProcess, Revoked, Forked}
use Rattle.spec_records.specs.Words.{AreNumbered, process_end}
use Rattle.exit_paths.specs.Words.{AreLost}
use Rattle.exit_paths.proofs.Owned.{owned_lost}
use Rattle.kernel_holdings.specs.Words.{CanEnd}
use Rattle.kernel_store.specs.Frames.{AreItsDoors, IsDeclared}
use Rattle.kernel_store.specs.Stored.{IsAgreed, StoreValue, WaitAtValidDoors, stored_state}

pub can_end :
    {s now : StoreValue} → s ≡ now → IsAgreed s → AreNumbered s.doors.items → WaitAtValidDoors (stored_state now) → (who : Leaver) (lost : List ℕ) →
    IsDeclared who (stored_state now) → AreItsDoors who (stored_state s) lost → CanEnd who lost s.processes s.doors.items s.pools
can_end {s} {now} same h numbered waiting (Interrupted t) lost declared is = tt
can_end {s} {now} same h numbered waiting (Ended t) lost declared is = tt
can_end {s} {now} same h numbered waiting (Revoked d) lost declared is = tt
can_end {s} {now} same h numbered waiting (Forked t) lost declared is = tt
can_end {s} {now} same h numbered waiting (EndedProcess p) lost declared is =
    let here : WaitAtValidDoors (stored_state s) = subst (λ (v : StoreValue). WaitAtValidDoors (stored_state v)) (sym same) waiting in
    let there = subst (λ (v : StoreValue). IsDeclared (EndedProcess p) (stored_state v)) (sym same) declared in
    (there, subst (λ ds. AreLost (process_end s.processes s.doors.items p.0) ds s.pools) (sym is) (owned_lost h numbered here.calls here.notices p.0))
