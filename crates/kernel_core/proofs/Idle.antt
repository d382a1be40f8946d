-- What a thread that runs is.
use Rattle.std.proofs.Common.{◌≡◌, ℕ, refl, arith, true}
use Rattle.spec_kernel.specs.Types.{ThreadState}
use Rattle.spec_records.specs.declared.record.ThreadState.TheVariants as is
use Rattle.spec_kernel.specs.Words.{State, is_running, is_running_state, state_of}
use Rattle.kernel_store.specs.Words.{IsActive}

-- a thread that runs
pub running_active : (m : State) (t : ℕ) → is_running m t ≡ true → IsActive (state_of m t)
running_active m t e = go (state_of m t) e
  where
    go : (s : ThreadState) → is_running_state s ≡ true → IsActive s
    go is.Running e = record { not_done = refl; not_idle = refl; not_dormant = refl; not_given = refl; not_calling = refl }
    go s e = grind arith
