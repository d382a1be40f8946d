-- The story of a call: the changes that its record took up to a place, the last one first.
use Rattle.std.specs.Prelude.{ℕ, ◌≡◌, ◌+◌, ◌<◌, ◌≤◌, ◌⊎◌, List, Option, Some, None, zero, suc, length, slice_get}
use Rattle.std.proofs.Common.{refl, sym, subst, add-one, inl, inr}
use native.Mathlib.Omega.{arith}
use Rattle.spec_kernel.specs.Types.{Call}
use Rattle.spec_kernel.specs.Words.{State, Turn, state_at}
use Rattle.law_states.specs.Records.{record_of}
use Rattle.law_places.proofs.Known.{ChangeAt, Known, TurnAt, stays_or_changes, turn_at}

pub data Story (m : State) (xs : List Turn) (c : ℕ) : ℕ → Option Call → Type 0 where
  unmade : (i : ℕ) → Story m xs c i None
  changed :
      (i at : ℕ) (x : Turn) (o p : Option Call) → at < i → slice_get xs at ≡ Some x → record_of (state_at m xs at) c ≡ o →
      record_of (state_at m xs (at + 1)) c ≡ p → ChangeAt m xs at x o p → Story m xs c at o → Story m xs c i p

-- a story is one of each later place too, as long as the record stays
pub later : (m : State) (xs : List Turn) (c i j : ℕ) (p : Option Call) → i ≤ j → Story m xs c i p → Story m xs c j p
later m xs c i j p l (unmade k) = unmade j
later m xs c i j p l (changed k at x o q g e f h w s) = changed j at x o q (omega arith) e f h w s

module _ (m : State) (xs : List Turn) (k : Known m xs) where
  pub story : (c i : ℕ) → i ≤ length xs → Story m xs c i (record_of (state_at m xs i) c)
  story c zero l = subst (Story m xs c 0) (sym (k.no_call c)) (unmade 0)
  story c (suc i) l =
      subst (λ j. Story m xs c j (record_of (state_at m xs j) c)) (add-one i)
      (more (turn_at xs i (omega arith)) (story c i (omega arith)))
    where
      by :
          (x : Turn) → slice_get xs i ≡ Some x → Story m xs c i (record_of (state_at m xs i) c) →
          (record_of (state_at m xs (i + 1)) c ≡ record_of (state_at m xs i) c)
          ⊎ ChangeAt m xs i x (record_of (state_at m xs i) c) (record_of (state_at m xs (i + 1)) c) →
          Story m xs c (i + 1) (record_of (state_at m xs (i + 1)) c)
      by x e s (inl same) =
          subst (Story m xs c (i + 1)) (sym same) (later m xs c i (i + 1) (record_of (state_at m xs i) c) (omega arith) s)
      by x e s (inr w) = changed (i + 1) i x _ _ (omega arith) e refl refl w s

      more : TurnAt xs i → Story m xs c i (record_of (state_at m xs i) c) → Story m xs c (i + 1) (record_of (state_at m xs (i + 1)) c)
      more t s = by t.turn t.found s (stays_or_changes m xs k c i t.turn t.found)
