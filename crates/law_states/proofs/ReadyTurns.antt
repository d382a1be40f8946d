-- A turn that ends a wait has what its thread waits for.
use Rattle.std.specs.Prelude.{ℕ, ◌≡◌, Option, true, false, Some, None, is_some}
use Rattle.std.proofs.Common.{refl}
use native.Mathlib.Omega.{arith}
use Rattle.dk_base.specs.declared.object.Item.TheVariants as item
use Rattle.spec_kernel.specs.Types.{Request, ThreadState}
use Rattle.spec_records.specs.declared.record.ThreadState.TheVariants as is
use Rattle.spec_kernel.specs.Words.{MayTurn, State, can_go_on, is_running_state, state_of}
use Rattle.law_states.specs.Coherent.{is_unfit}
use Rattle.law_states.specs.Invariant.{IsConsistent, Invariant}
use Rattle.law_states.specs.Events.{IsReadyEnd, IsReadyTurn, IsMade}
use Rattle.law_states.proofs.NoticeActs.{given_notice_found}
use Rattle.law_states.proofs.Waits.{given_found}

made_of : {X : Type 0} (o : Option X) → is_some o ≡ true → IsMade o
made_of None e = absurd (grind arith)
made_of (Some x) e = record { made = x; there = refl }

end_ready :
    (m : State) (t : ℕ) (s : ThreadState) → IsConsistent m → state_of m t ≡ s → can_go_on m s ≡ true → is_running_state s ≡ false →
    is_unfit s ≡ false → IsReadyEnd m t s
end_ready m t (is.Given (item.Call c)) h e f g u = made_of _ (given_found m t c h e)
end_ready m t (is.Given (item.Notice c)) h e f g u = made_of _ (given_notice_found m t c h e)
end_ready m t (is.Calling c) h e f g u = made_of _ f
end_ready m t (is.Getting port max nget one marked) h e f g u =
    (f, grind (arith, u))
end_ready m t (is.Awaiting path) h e f g u = made_of _ f
end_ready m t (is.Working op input) h e f g u = tt
end_ready m t is.FailedReturn h e f g u = tt
end_ready m t s h e f g u = grind arith

pub turn_ready : (m : State) (t : ℕ) (q : Option Request) → Invariant m → MayTurn m t q → IsReadyTurn m t q
turn_ready m t (Some r) h may = tt
turn_ready m t None h may =
    end_ready m t (state_of m t) h.consistent refl may.runnable may.waits (h.consistent.coherent.has_fit_state t)
