-- The events of a run, one by one.
use Rattle.std.proofs.Common.{◌≡◌, ℕ, zero, suc, ◌+◌, List, [], ◌∷◌, Some, length, slice_get, le_of_lt, refl, ap}
use Rattle.std.proofs.lemmas.Option.{slice_get_within}
use Rattle.spec_kernel.specs.Words.{State, Turn, state_after_turn, state_at}
use Rattle.spec_kernel.proofs.Runs.{events-state_at}
use Rattle.spec_events.specs.Words.{event_of, events_of}

pub length-events_of : (m : State) (xs : List Turn) → length (events_of m xs) ≡ length xs
length-events_of m [] = refl
length-events_of m (x ∷ xs) = ap suc (length-events_of (state_after_turn m x) xs)

pub slice_get-events_of :
    (m : State) (xs : List Turn) (i : ℕ) (x : Turn) → slice_get xs i ≡ Some x →
    slice_get (events_of m xs) i ≡ Some (event_of (state_at m xs i) x.thread x.request)
slice_get-events_of m [] i x e = cc
slice_get-events_of m (y ∷ ys) zero x e = let k : y ≡ x = cc in ap (λ z. Some (event_of m z.thread z.request)) k
slice_get-events_of m (y ∷ ys) (suc i) x e = slice_get-events_of (state_after_turn m y) ys i x e

-- the event of the turn at place i is number i + 1 of those after the opening
pub number-event_of :
    (m : State) (xs : List Turn) (i : ℕ) (x : Turn) → slice_get xs i ≡ Some x →
    (event_of (state_at m xs i) x.thread x.request).number ≡ m.events + i + 1
number-event_of m xs i x e = ap (λ n. n + 1) (events-state_at m xs i (le_of_lt (slice_get_within xs i x e)))
