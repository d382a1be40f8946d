-- What the end of a wait says of its thread.
use Rattle.std.proofs.Common.{◌≡◌, ℕ, Bool, true, false, not, refl, sym, subst, ap, ◌∙◌}
use Rattle.spec_kernel.specs.Types.{Item, ThreadState}
use Rattle.spec_records.specs.declared.record.ThreadState.TheVariants as is
use Rattle.spec_kernel.specs.Words.{ActResult, State, can_go_on, end_getting, go_on}
use Rattle.law_states.specs.Coherent.{is_fit_wait, is_unfit}
use Rattle.kernel_store.specs.Words.{IsActive}
use Rattle.kernel_core.specs.declared.acts.Ending.{Ending}
use Rattle.kernel_core.specs.declared.acts.Ending.TheVariants as ending
use Rattle.kernel_core.specs.Finding.{CanEndAs, CanEndGetting}
use Rattle.kernel_core.specs.Handed.{ending_of}

pub ending_active :
    (s : ThreadState) → (ending.Nothing ≡ ending_of s → ⊥) → ((i : Item) → ending.Accept i ≡ ending_of s → ⊥) → ((c : ℕ) → ending.Collect c ≡ ending_of s → ⊥) → IsActive s
ending_active is.Dormant n a k = absurd (n refl)
ending_active (is.Idle since) n a k = absurd (n refl)
ending_active is.Done n a k = absurd (n refl)
ending_active (is.Given i) n a k = absurd (a i refl)
ending_active (is.Calling c) n a k = absurd (k c refl)
ending_active s n a k = record { not_done = refl; not_idle = refl; not_dormant = refl; not_given = refl; not_calling = refl }

pub ending_given : (s : ThreadState) (i : Item) → ending.Accept i ≡ ending_of s → s ≡ is.Given i
ending_given (is.Given j) i e = cc
ending_given s i e = cc

pub ending_calling : (s : ThreadState) (c : ℕ) → ending.Collect c ≡ ending_of s → s ≡ is.Calling c
ending_calling (is.Calling d) c e = cc
ending_calling s c e = cc

can_end : (m : State) (s : ThreadState) → can_go_on m s ≡ true → is_unfit s ≡ false → CanEndAs m (ending_of s)
can_end m (is.Getting q max nget one interrupted) go fit = record { nget = nget; fit = taken (is_fit_wait max nget one) fit; can_end = go }
  where
    taken : (b : Bool) → not b ≡ false → b ≡ true
    taken true e = refl
    taken false e = cc
can_end m is.Dormant go fit = tt
can_end m is.Running go fit = tt
can_end m (is.Idle since) go fit = tt
can_end m (is.Given i) go fit = tt
can_end m (is.Calling c) go fit = tt
can_end m (is.Awaiting path) go fit = tt
can_end m (is.Working op input) go fit = tt
can_end m is.FailedReturn go fit = tt
can_end m is.Done go fit = tt

-- a wait at a port that ends can end
pub ending_getting :
    (m : State) (s : ThreadState) (q max : ℕ) (one interrupted : Bool) → ending.Got q max one interrupted ≡ ending_of s → can_go_on m s ≡ true →
    is_unfit s ≡ false → CanEndGetting m q max one interrupted
ending_getting m s q max one interrupted e go fit = subst (CanEndAs m) (sym e) (can_end m s go fit)

-- and it ends as the written kernel says

abbrev got_or : State → ℕ → ActResult → Ending → ActResult
got_or m t other (ending.Got q max one interrupted) = end_getting m t q max one interrupted
got_or m t other e = other

ended_or : (m : State) (t p : ℕ) (s : ThreadState) → got_or m t (go_on m t p s) (ending_of s) ≡ go_on m t p s
ended_or m t p is.Dormant = refl
ended_or m t p is.Running = refl
ended_or m t p (is.Idle since) = refl
ended_or m t p (is.Given i) = refl
ended_or m t p (is.Calling c) = refl
ended_or m t p (is.Getting q max nget one interrupted) = refl
ended_or m t p (is.Awaiting path) = refl
ended_or m t p (is.Working op input) = refl
ended_or m t p is.FailedReturn = refl
ended_or m t p is.Done = refl

pub ended_getting :
    (m : State) (t p : ℕ) (s : ThreadState) (q max : ℕ) (one interrupted : Bool) → ending.Got q max one interrupted ≡ ending_of s →
    end_getting m t q max one interrupted ≡ go_on m t p s
ended_getting m t p s q max one interrupted e = ap (got_or m t (go_on m t p s)) e ∙ ended_or m t p s
