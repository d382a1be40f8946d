-- Pools where something waits for some threads alone.
use Rattle.std.proofs.Common.{◌≡◌, ℕ, ⊎_elim, inl, inr, [], Some, slice_get, sym, ap, true≢false, ◌∙◌}
use Rattle.spec_kernel.specs.Types.{Parked, Pool}
use Rattle.dk_base.specs.declared.thread_set.ThreadSet.{ThreadSet}
use Rattle.server_pool.specs.Words.{PoolsValue}
use Rattle.law_pools.specs.Words.{IsGivenOutIn}
use Rattle.kernel_store.specs.Frames.{IsGivenOutToOthers, ParksAgain}
use Rattle.kernel_store.specs.Stored.{StoreValue}

-- what is given out is so to all but some threads
pub to_others : (set : ThreadSet) (v : PoolsValue) (pool : Pool) → IsGivenOutIn v pool → IsGivenOutToOthers set v pool
to_others set v pool out = ⊎_elim (λ e. inl (λ i x f. absurd (none i x (ap (λ stack. slice_get stack i) (sym e) ∙ f)))) inr out
  where
    none : (i : ℕ) (x : Parked) → slice_get [] i ≡ Some x → ⊥
    none i x f = cc

-- where nothing changed no thread parked again
pub parks_none : (set : ThreadSet) (s : StoreValue) → ParksAgain set s s
parks_none set s =
    record { idle = λ t e f. absurd (true≢false (sym f ∙ e)); given_out = λ out pool. to_others set s.pools pool (out pool) }
